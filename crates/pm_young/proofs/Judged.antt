-- What is read on both sides is the world's, and so is what is refused by it.
use Rattle.std.proofs.Common.{◌≡◌, ◌⊎◌, inl, inr, ⊎_elim, ℕ, zero, suc, ◌<◌, Bool, true, false, if◌then◌else◌, nat_eq, nat_lt, List, [], ◌∷◌, length, Option, Some, None, option_map, refl, sym, ap, subst, ◌∙◌, is_some, arith}
use Rattle.std.specs.Option.{IsSome}
use Rattle.std.specs.List.{slice_get}
use Rattle.std.specs.FinMap.{get}
use Rattle.std.proofs.lemmas.Bool.Decides.{nat_tests}
use Rattle.pm_types.specs.declared.address.Addr.{Addr}
use Rattle.pm_types.specs.declared.object.Object as kept_objects
use Rattle.pm_types.specs.declared.command.Cmd.TheVariants.{Store, Swap}
use Rattle.pm_types.specs.declared.reply.Reply.{Reply}
use Rattle.pm_types.specs.declared.reply.Reply.TheVariants.{Done, NoHandle, NoField, Null, Held}
use Rattle.pm_model.specs.Heap.{Object, field_of, with_field}
use Rattle.pm_model.specs.World.{World, held, changing}
use Rattle.pm_model.specs.Answer.{answer, answer_store, answer_swap, refused, swapping, writing}
use Rattle.pm_view.specs.View.{SpaceView}
use Rattle.pm_view.specs.Law.{HeapLaw}
use Rattle.pm_view.specs.Represents.{Represents, names, meaning}
use Rattle.pm_view.specs.Commands.{field_at, object_held, register}
use Rattle.pm_view.specs.Reading.{object_at, resolve}
use Rattle.pm_law_commands.proofs.Held.{LeadsTo, known_by}
use Rattle.pm_law_commands.proofs.Registers.{fields_mean, found_in, held_is, wanted_in}
use Rattle.pm_nursery.specs.Young.{NurseryView, IsNursery, or_else}
use Rattle.pm_nursery.specs.Answering.{held_in_either, object_in_either, object_or_else}
use Rattle.pm_nursery.proofs.Parts.{found_of, none_some}
use Rattle.pm_law_young.proofs.Mixed.{store_fieldless, store_unheld, swap_fieldless, swap_held, swap_null, swap_unheld}
use Rattle.pm_young.specs.Parts.{IsAccepted, StandsFor}
use Rattle.pm_young.specs.Reading.{field_here, field_in_space, field_or_else, held_here, held_in_space}

same_some : (m n : ℕ) → Some m ≡ Some n → m ≡ n
same_some m n same = cc same

-- ---- what the space says of a world within

module _ (view : SpaceView) (within : World) (law : HeapLaw view) (stands : Represents view within) (client : ℕ) where
  pub held_there : (reg : ℕ) → held within client reg ≡ held_in_space view client reg
  held_there reg = held_is view within law stands client reg

  -- the object that a register holds, and its fields
  pub object_there : (reg id : ℕ) → held within client reg ≡ Some id → (known : Object) × (get within.heap id ≡ Some known) × ((index : ℕ) → slice_get known.fields index ≡ field_in_space view client reg index)
  object_there reg id here = by (register view client reg) refl
    where
      by : (o : Option Addr) → register view client reg ≡ o → (known : Object) × (get within.heap id ≡ Some known) × ((index : ℕ) → slice_get known.fields index ≡ field_in_space view client reg index)
      by None none = absurd (none_some None id refl (sym (held_there reg ∙ ap (names view) none) ∙ here))
      by (Some a) is =
          let found = found_in view within law stands client reg a is in
          let same : found.0.id ≡ id = same_some found.0.id id (sym found.2 ∙ here) in
          let known = known_by view within a found.0 stands found.1 (wanted_in view within law stands client reg found.0.id found.2) in
          let object : object_held view (register view client reg) ≡ Some found.0 = ap (object_held view) is ∙ found.1.here in (
            known.0,
            subst (λ n. get within.heap n ≡ Some known.0) same known.1,
            λ index. fields_mean view within law stands a found.0 known.0 index known.2 ∙ ap (λ (o : Option kept_objects.Object). option_map (names view) (field_at o index)) (sym object),
          )

-- ---- both sides

-- a field that is there has its place
within_fields : {X : Type 0} (xs : List X) (index : ℕ) (x : X) → slice_get xs index ≡ Some x → index < length xs
within_fields [] index x is = cc is
within_fields (y ∷ ys) zero x is = omega arith
within_fields (y ∷ ys) (suc index) x is = let rest = within_fields ys index x is in omega (arith, rest)

-- so it is written
pub written : (world : World) (id index value : ℕ) (known : Object) (o : Option Object) → o ≡ Some known → index < length known.fields → writing world id index (Some value) o ≡ (Done, changing world id (with_field known index (Some value)))
written world id index value known o is less =
    ap (writing world id index (Some value)) is
    ∙ ap (λ b. if b then (Done, changing world id (with_field known index (Some value))) else refused world NoField) (below index (length known.fields) less)
  where
    below : (m n : ℕ) → m < n → nat_lt m n ≡ true
    below m n less = grind (arith, nat_tests, less)

module _ (view : SpaceView) (law : HeapLaw view) (nursery : NurseryView) (sound : IsNursery nursery) (within world : World) (stands : StandsFor view nursery within world) (client : ℕ) where
  pub same_held : (reg : ℕ) → held_in_either within nursery client reg ≡ held_here view nursery client reg
  same_held reg = ap (λ w. or_else (get nursery.registers (client, reg)) w) (held_there view within law stands.represents client reg)

  pub world_held : (reg : ℕ) → held world client reg ≡ held_here view nursery client reg
  world_held reg = stands.young.registers (client, reg) ∙ same_held reg

  -- the object that is held on either side
  pub object_here : (reg id : ℕ) → held_here view nursery client reg ≡ Some id → (known : Object) × (object_in_either within nursery id ≡ Some known) × ((index : ℕ) → slice_get known.fields index ≡ field_here view nursery client reg id index)
  object_here reg id here = by (get nursery.objects id) refl (get nursery.registers (client, reg)) refl here
    where
      by : (o : Option Object) → get nursery.objects id ≡ o → (n : Option ℕ) → get nursery.registers (client, reg) ≡ n → or_else n (held_in_space view client reg) ≡ Some id
          → (known : Object) × (object_or_else o (get within.heap id) ≡ Some known) × ((index : ℕ) → slice_get known.fields index ≡ field_or_else o index (field_in_space view client reg index))
      by (Some x) young n n_is is = (x, refl, λ index. refl)
      by None old None n_is is =
          let there = object_there view within law stands.represents client reg id (held_there view within law stands.represents client reg ∙ is) in
          (there.0, there.1, there.2)
      by None old (Some y) n_is is =
          let found = found_of (get nursery.objects id) (sound.held id ((client, reg), n_is ∙ is)) in
          absurd (none_some (get nursery.objects id) found.0 old found.1)

  -- it is the world's
  pub object_world : (id : ℕ) (known : Object) → object_in_either within nursery id ≡ Some known → get world.heap id ≡ Some known
  object_world id known here = by (get nursery.objects id) (get within.heap id) refl refl here
    where
      by : (n w : Option Object) → get nursery.objects id ≡ n → get within.heap id ≡ w → object_or_else n w ≡ Some known → get world.heap id ≡ Some known
      by None w n_is w_is found = stands.young.inside id known (w_is ∙ found)
      by (Some x) w n_is w_is found = stands.young.young id known (n_is ∙ found)

  -- ---- `store`

  pub store_first : (reg index value : ℕ) → held_here view nursery client reg ≡ None → answer world client (Store reg index value) ≡ (NoHandle, world)
  store_first reg index value none = store_unheld within world nursery stands.young client reg index value (inl (same_held reg ∙ none))

  pub store_second : (reg index value : ℕ) → held_here view nursery client value ≡ None → answer world client (Store reg index value) ≡ (NoHandle, world)
  store_second reg index value none = store_unheld within world nursery stands.young client reg index value (inr (same_held value ∙ none))

  pub store_third : (reg index value id other : ℕ) → held_here view nursery client reg ≡ Some id → held_here view nursery client value ≡ Some other → field_here view nursery client reg id index ≡ None
      → answer world client (Store reg index value) ≡ (NoField, world)
  store_third reg index value id other one two none =
      let object = object_here reg id one in
      store_fieldless within world nursery stands.young client reg index value id other object.0 (same_held reg ∙ one) (same_held value ∙ two) object.1 (object.2 index ∙ none)

  pub store_done : (reg index value id other : ℕ) (content : Option ℕ) → held_here view nursery client reg ≡ Some id → held_here view nursery client value ≡ Some other → field_here view nursery client reg id index ≡ Some content
      → IsAccepted world client (Store reg index value) reg index value
  unfolding answer
  store_done reg index value id other content one two there =
      let object = object_here reg id one in
      let known = object_world id object.0 object.1 in
      let less = within_fields object.0.fields index content (object.2 index ∙ there) in
      record {
        object = id;
        other = other;
        known = object.0;
        held_object = world_held reg ∙ one;
        held_other = world_held value ∙ two;
        there = known;
        field = less;
        swapped = tt;
        answer_is =
            (λ i. answer_store world index ((world_held reg ∙ one) i) ((world_held value ∙ two) i))
            ∙ written world id index other object.0 (get world.heap id) known less;
      }

  -- ---- `swap`

  pub swap_first : (reg index old value : ℕ) → held_here view nursery client reg ≡ None → answer world client (Swap reg index old value) ≡ (NoHandle, world)
  swap_first reg index old value none = swap_unheld within world nursery stands.young client reg index old value (inl (same_held reg ∙ none))

  pub swap_second : (reg index old value : ℕ) → held_here view nursery client old ≡ None → answer world client (Swap reg index old value) ≡ (NoHandle, world)
  swap_second reg index old value none = swap_unheld within world nursery stands.young client reg index old value (inr (inl (same_held old ∙ none)))

  pub swap_third : (reg index old value : ℕ) → held_here view nursery client value ≡ None → answer world client (Swap reg index old value) ≡ (NoHandle, world)
  swap_third reg index old value none = swap_unheld within world nursery stands.young client reg index old value (inr (inr (same_held value ∙ none)))

  module _ (reg index old value id was other : ℕ) (one : held_here view nursery client reg ≡ Some id) (two : held_here view nursery client old ≡ Some was) (three : held_here view nursery client value ≡ Some other) where
    pub swap_no_field : field_here view nursery client reg id index ≡ None → answer world client (Swap reg index old value) ≡ (NoField, world)
    swap_no_field none =
        let object = object_here reg id one in
        swap_fieldless within world nursery stands.young client reg index old value id was other object.0 (same_held reg ∙ one) (same_held old ∙ two) (same_held value ∙ three) object.1 (object.2 index ∙ none)

    pub swap_is_null : field_here view nursery client reg id index ≡ Some None → answer world client (Swap reg index old value) ≡ (Null, world)
    swap_is_null null =
        let object = object_here reg id one in
        swap_null within world nursery stands.young client reg index old value id was other object.0 (same_held reg ∙ one) (same_held old ∙ two) (same_held value ∙ three) object.1 (object.2 index ∙ null)

    pub swap_is_held : (found : ℕ) → field_here view nursery client reg id index ≡ Some (Some found) → (found ≡ was → ⊥) → answer world client (Swap reg index old value) ≡ (Held found, world)
    swap_is_held found there apart =
        let object = object_here reg id one in
        swap_held within world nursery stands.young client reg index old value id was other object.0 (same_held reg ∙ one) (same_held old ∙ two) (same_held value ∙ three) object.1 found (object.2 index ∙ there) apart

    pub swap_done : (found : ℕ) → field_here view nursery client reg id index ≡ Some (Some found) → found ≡ was → IsAccepted world client (Swap reg index old value) reg index value
    unfolding answer
    swap_done found there same =
        let object = object_here reg id one in
        let known = object_world id object.0 object.1 in
        let less = within_fields object.0.fields index (Some found) (object.2 index ∙ there) in
        record {
          object = id;
          other = other;
          known = object.0;
          held_object = world_held reg ∙ one;
          held_other = world_held value ∙ three;
          there = known;
          field = less;
          swapped = (found, world_held old ∙ two ∙ ap Some (sym same), object.2 index ∙ there);
          answer_is =
              (λ i. answer_swap world index ((world_held reg ∙ one) i) ((world_held old ∙ two) i) ((world_held value ∙ three) i))
              ∙ ap (λ (o : Option Object). swapping world id index was other (field_of o index)) known
              ∙ ap (swapping world id index was other) (object.2 index ∙ there)
              ∙ ap (λ b. if b then writing world id index (Some other) (get world.heap id) else refused world (Held found)) (same_test found was same)
              ∙ written world id index other object.0 (get world.heap id) known less;
        }
      where
        same_test : (m n : ℕ) → m ≡ n → nat_eq m n ≡ true
        same_test m n same = grind (arith, nat_tests, same)
