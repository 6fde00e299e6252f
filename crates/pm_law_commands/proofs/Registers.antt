-- Commands that set a register, or only tell what one holds.
use Rattle.std.proofs.Common.{◌≡◌, ℕ, ◌<◌, not, refl, ap, sym, subst, ◌∙◌, List, Option, Some, None, is_some}
use Rattle.std.specs.Option.{option_map, option_and_then, option_flatten}
use Rattle.std.specs.List.{slice_get}
use Rattle.std.specs.FinMap.{get}
use Rattle.std.proofs.lemmas.Option.{slice_get-map}
use Rattle.pm_types.specs.declared.limits.TheConstants.{CLIENTS, REGISTERS}
use Rattle.pm_types.specs.declared.address.Addr.{Addr}
use Rattle.pm_types.specs.declared.object.Object as kept_objects
use Rattle.pm_types.specs.declared.source.RefSource.TheVariants.{Root, Handle, Field}
use Rattle.pm_types.specs.declared.reply.Reply.{Reply}
use Rattle.pm_types.specs.declared.reply.Reply.TheVariants.{Done, Ident, Null, Shown, NoHandle, NoField, NoRoot}
use Rattle.pm_model.specs.Heap.{Object}
use Rattle.pm_model.specs.Heap as model_heap
use Rattle.pm_model.specs.World.{World, held, holding, emptying}
use Rattle.pm_model.specs.Answer.{answer_copy, answer_id, answer_data, answer_drop, answer_load, loading, answer_find, bytes_of}
use Rattle.pm_view.specs.View.{SpaceView}
use Rattle.pm_view.specs.Reading.{object_at, field_of, stored, resolve, named_by}
use Rattle.pm_view.specs.Law.{HeapLaw}
use Rattle.pm_view.specs.Represents.{names, meaning, IsForgotten, Represents, registered}
use Rattle.pm_view.specs.Rows.{spread}
use Rattle.pm_view.specs.Commands.{register, refused, hold, row_copy, row_id, row_data, object_held, row_drop, field_at, load_field, row_load, row_find}
use Rattle.pm_law_commands.proofs.RowLemmas.SpreadKept.{spread_keeps_law}
use Rattle.pm_law_commands.proofs.RowLemmas.SpreadMeans.{register_stands}
use Rattle.pm_law_commands.proofs.RowLemmas.Numbers.{found_by_number}
use Rattle.pm_law_commands.specs.Served.{IsServed}
use Rattle.pm_law_commands.proofs.Held.{LeadsTo, leads, named, named_then, may_store, known_by, register_wanted, name_wanted, field_wanted}

some_is : (id other : ℕ) → Some id ≡ Some other → id ≡ other
some_is id other is = cc

-- a space that a refusal leaves, and a world that one leaves
pub refused_both : (view : SpaceView) (world : World) (reply : Reply) → HeapLaw view → Represents view world → IsServed (refused view reply) (reply, world)
refused_both view world reply law stands = record { reply = refl; law = law; world = stands }

module _ (view : SpaceView) (world : World) (law : HeapLaw view) (stands : Represents view world) where
  -- a register that is set to an object that the world has
  pub hold_serves : (client to : ℕ) (a : Addr) (object : kept_objects.Object) (id : ℕ) → client < CLIENTS → to < REGISTERS → LeadsTo view a object → (IsForgotten world object.id → ⊥) → object.id ≡ id
      → IsServed (hold view client to (resolve view a) (object_at view.cars (resolve view a))) (Ident id, holding world client to id)
  hold_serves client to a object id c r there wanted same =
      let known = known_by view world a object stands there wanted in
      let names_it : names view (Some (resolve view a)) ≡ Some id = named_then view a object there ∙ ap Some same in
      subst (λ o. IsServed (hold view client to (resolve view a) o) (Ident id, holding world client to id)) (sym there.here)
      (record {
        reply = ap Ident same;
        law = spread_keeps_law view (Handle client to) (Some (resolve view a)) law (c, r) tt (may_store view a object there);
        world = subst (λ o. Represents (spread view (Handle client to) (Some (resolve view a))) (registered world client to o)) names_it
            (register_stands view world client to (Some (resolve view a)) law stands (c, r) (may_store view a object there)
            (λ other is. ap (λ i. is_some (get world.heap i)) (sym (ap (λ i. i) (some_is id other (sym names_it ∙ is))) ∙ sym same) ∙ ap is_some known.1));
      })

  pub empty_serves : (client to : ℕ) → client < CLIENTS → to < REGISTERS → (reply : Reply) → IsServed (reply, spread view (Handle client to) None) (reply, emptying world client to)
  empty_serves client to c r reply = record {
    reply = refl;
    law = spread_keeps_law view (Handle client to) None law (c, r) tt tt;
    world = register_stands view world client to None law stands (c, r) tt (λ other is. absurd (nothing other is));
  }
    where
      nothing : (other : ℕ) → None ≡ Some other → ⊥
      nothing other is = cc

  -- what a register of the space holds, the world's register holds
  pub held_is : (client reg : ℕ) → held world client reg ≡ names view (register view client reg)
  held_is client reg = stands.registers (client, reg)

  pub found_in : (client reg : ℕ) (a : Addr) → register view client reg ≡ Some a → (object : kept_objects.Object) × LeadsTo view a object × (held world client reg ≡ Some object.id)
  found_in client reg a is =
      let there = leads view (Handle client reg) a law refl is in
      (there.0, there.1, held_is client reg ∙ ap (names view) is ∙ named view a there.0 there.1)

  pub wanted_in : (client reg id : ℕ) → held world client reg ≡ Some id → IsForgotten world id → ⊥
  wanted_in client reg id is = register_wanted world (client, reg) id is

  none_in : (client reg : ℕ) → register view client reg ≡ None → held world client reg ≡ None
  none_in client reg is = held_is client reg ∙ ap (names view) is

  -- `copy`
  pub copy_serves : (client to reg : ℕ) → client < CLIENTS → to < REGISTERS → IsServed (row_copy view client to (register view client reg)) (answer_copy world client to (held world client reg))
  copy_serves client to reg c r = by_case (register view client reg) refl
    where
      by_case : (o : Option Addr) → register view client reg ≡ o → IsServed (row_copy view client to o) (answer_copy world client to (held world client reg))
      by_case None is = subst (λ o. IsServed (refused view NoHandle) (answer_copy world client to o)) (sym (none_in client reg is)) (refused_both view world NoHandle law stands)
      by_case (Some a) is =
          let found = found_in client reg a is in
          subst (λ o. IsServed (row_copy view client to (Some a)) (answer_copy world client to o)) (sym found.2)
          (hold_serves client to a found.0 found.0.id c r found.1 (wanted_in client reg found.0.id found.2) refl)

  -- `id`
  pub id_serves : (client reg : ℕ) → IsServed (row_id view (object_held view (register view client reg))) (answer_id world (held world client reg))
  id_serves client reg = by_case (register view client reg) refl
    where
      by_case : (o : Option Addr) → register view client reg ≡ o → IsServed (row_id view (object_held view o)) (answer_id world (held world client reg))
      by_case None is = subst (λ o. IsServed (refused view NoHandle) (answer_id world o)) (sym (none_in client reg is)) (refused_both view world NoHandle law stands)
      by_case (Some a) is =
          let found = found_in client reg a is in
          subst (λ o. IsServed (row_id view (object_at view.cars (resolve view a))) (answer_id world o)) (sym found.2)
          (subst (λ o. IsServed (row_id view o) (answer_id world (Some found.0.id))) (sym found.1.here) (record { reply = refl; law = law; world = stands }))

  -- `data`
  pub data_serves : (client reg : ℕ) → IsServed (row_data view (object_held view (register view client reg))) (answer_data world (held world client reg))
  data_serves client reg = by_case (register view client reg) refl
    where
      by_case : (o : Option Addr) → register view client reg ≡ o → IsServed (row_data view (object_held view o)) (answer_data world (held world client reg))
      by_case None is = subst (λ o. IsServed (refused view NoHandle) (answer_data world o)) (sym (none_in client reg is)) (refused_both view world NoHandle law stands)
      by_case (Some a) is =
          let found = found_in client reg a is in
          let known = known_by view world a found.0 stands found.1 (wanted_in client reg found.0.id found.2) in
          subst (λ o. IsServed (row_data view (object_at view.cars (resolve view a))) (answer_data world o)) (sym found.2)
          (subst (λ o. IsServed (row_data view o) (answer_data world (Some found.0.id))) (sym found.1.here)
          (record { reply = ap Shown (sym (ap bytes_of known.1 ∙ ap (λ (k : Object). k.bytes) known.2)); law = law; world = stands }))

  -- `drop`
  pub drop_serves : (client reg : ℕ) → client < CLIENTS → reg < REGISTERS → IsServed (row_drop view client reg (register view client reg)) (answer_drop world client reg (held world client reg))
  drop_serves client reg c r = by_case (register view client reg) refl
    where
      by_case : (o : Option Addr) → register view client reg ≡ o → IsServed (row_drop view client reg o) (answer_drop world client reg (held world client reg))
      by_case None is = subst (λ o. IsServed (refused view NoHandle) (answer_drop world client reg o)) (sym (none_in client reg is)) (refused_both view world NoHandle law stands)
      by_case (Some a) is =
          let found = found_in client reg a is in
          subst (λ o. IsServed (Done, spread view (Handle client reg) None) (answer_drop world client reg o)) (sym found.2) (empty_serves client reg c r Done)

  -- ---- fields

  pub fields_mean : (a : Addr) (object : kept_objects.Object) (known : Object) (index : ℕ) → known ≡ meaning view object → model_heap.field_of (Some known) index ≡ option_map (names view) (field_at (Some object) index)
  fields_mean a object known index means = ap (λ (k : Object). slice_get k.fields index) means ∙ slice_get-map (names view) object.fields index

  -- what a field of an object that the world has leads to
  pub field_leads : (a : Addr) (object : kept_objects.Object) (known : Object) (index : ℕ) (b : Addr) → LeadsTo view a object → get world.heap object.id ≡ Some known → known ≡ meaning view object → field_at (Some object) index ≡ Some (Some b)
      → (other : kept_objects.Object) × LeadsTo view b other × (model_heap.field_of (Some known) index ≡ Some (Some other.id)) × (IsForgotten world other.id → ⊥)
  field_leads a object known index b there has means is =
      let stores : stored view (Field (resolve view a) index) ≡ Some b = ap (λ o. field_of o index) there.here ∙ ap option_flatten is in
      let next = leads view (Field (resolve view a) index) b law (ap not there.free) stores in
      let holds : model_heap.field_of (Some known) index ≡ Some (Some next.0.id) = fields_mean a object known index means ∙ ap (option_map (names view)) is ∙ ap Some (named view b next.0 next.1) in
      (next.0, next.1, holds, field_wanted world object.id known index next.0.id has holds)

  load_field_serves : (client to : ℕ) (a : Addr) (object : kept_objects.Object) (known : Object) (index : ℕ) → client < CLIENTS → to < REGISTERS → LeadsTo view a object → get world.heap object.id ≡ Some known → known ≡ meaning view object
      → (f : Option (Option Addr)) → field_at (Some object) index ≡ f → IsServed (load_field view client to f) (loading world client to (model_heap.field_of (Some known) index))
  load_field_serves client to a object known index c r there has means None is =
      subst (λ o. IsServed (refused view NoField) (loading world client to o)) (sym (fields_mean a object known index means ∙ ap (option_map (names view)) is)) (refused_both view world NoField law stands)
  load_field_serves client to a object known index c r there has means (Some None) is =
      subst (λ o. IsServed (Null, spread view (Handle client to) None) (loading world client to o)) (sym (fields_mean a object known index means ∙ ap (option_map (names view)) is)) (empty_serves client to c r Null)
  load_field_serves client to a object known index c r there has means (Some (Some b)) is =
      let next = field_leads a object known index b there has means is in
      subst (λ o. IsServed (load_field view client to (Some (Some b))) (loading world client to o)) (sym next.2)
      (hold_serves client to b next.0 next.0.id c r next.1 next.3 refl)

  -- `load`
  pub load_serves : (client to reg index : ℕ) → client < CLIENTS → to < REGISTERS → IsServed (row_load view client to index (register view client reg)) (answer_load world client to index (held world client reg))
  load_serves client to reg index c r = by_case (register view client reg) refl
    where
      by_case : (o : Option Addr) → register view client reg ≡ o → IsServed (row_load view client to index o) (answer_load world client to index (held world client reg))
      by_case None is = subst (λ o. IsServed (refused view NoHandle) (answer_load world client to index o)) (sym (none_in client reg is)) (refused_both view world NoHandle law stands)
      by_case (Some a) is =
          let found = found_in client reg a is in
          let known = known_by view world a found.0 stands found.1 (wanted_in client reg found.0.id found.2) in
          subst (λ o. IsServed (load_field view client to (field_at (object_at view.cars (resolve view a)) index)) (answer_load world client to index o)) (sym found.2)
          (subst (λ o. IsServed (load_field view client to (field_at (object_at view.cars (resolve view a)) index)) (loading world client to (model_heap.field_of o index))) (sym known.1)
          (subst (λ o. IsServed (load_field view client to (field_at o index)) (loading world client to (model_heap.field_of (Some known.0) index))) (sym found.1.here)
          (load_field_serves client to a found.0 known.0 index c r found.1 known.1 known.2 (field_at (Some found.0) index) refl)))

  -- `find`
  pub find_serves : (client to : ℕ) (name : List ℕ) → client < CLIENTS → to < REGISTERS → IsServed (row_find view client to (get view.roots name)) (answer_find world client to (get world.roots name))
  find_serves client to name c r = by_case (get view.roots name) refl
    where
      by_case : (o : Option (ℕ × Addr)) → get view.roots name ≡ o → IsServed (row_find view client to o) (answer_find world client to (get world.roots name))
      by_case None is =
          subst (λ o. IsServed (refused view NoRoot) (answer_find world client to o)) (sym (stands.roots name ∙ ap (option_and_then (λ (bound : ℕ × Addr). named_by view bound.1)) is)) (refused_both view world NoRoot law stands)
      by_case (Some bound) is =
          let there = leads view (Root bound.0) bound.1 law refl (found_by_number view.roots law.named.numbers name bound is) in
          let has : get world.roots name ≡ Some there.0.id = stands.roots name ∙ ap (option_and_then (λ (bound : ℕ × Addr). named_by view bound.1)) is ∙ named view bound.1 there.0 there.1 in
          subst (λ o. IsServed (row_find view client to (Some bound)) (answer_find world client to o)) (sym has)
          (hold_serves client to bound.1 there.0 there.0.id c r there.1 (name_wanted world name there.0.id has) refl)
