-- Commands that bind and unbind names, and the one that empties all registers of a client.
use Rattle.std.proofs.Common.{◌≡◌, ℕ, ◌&&◌, nat_le, if◌then◌else◌, Bool, true, false, not, refl, ap, sym, subst, ◌∙◌, List, Option, Some, None, is_some}
use Rattle.std.specs.Option.{IsSome, option_map, option_and_then}
use Rattle.std.specs.FinMap.{get, len, same_map}
use Rattle.pm_types.specs.Mapped.{mapped}
use Rattle.pm_types.proofs.Mapped.{get-mapped, len-mapped}
use Rattle.pm_types.specs.Orders.{name_cmp}
use Rattle.pm_types.proofs.Orders.{names_total, names_antisymmetric}
use Rattle.std.proofs.lemmas.Bool.{true≢false, leb-false}
use Rattle.pm_types.specs.declared.limits.TheConstants.{ROOTS}
use Rattle.pm_types.specs.declared.address.Addr.{Addr}
use Rattle.pm_types.specs.declared.object.Object as kept_objects
use Rattle.pm_types.specs.declared.source.RefSource.TheVariants.{Root}
use Rattle.pm_types.specs.declared.reply.Reply.TheVariants.{Done, NoHandle, NoRoot, TooManyRoots}
use Rattle.pm_roots.specs.Bindings.{IsFree}
use Rattle.pm_model.specs.World.{World, held, naming}
use Rattle.pm_model.specs.Answer.{answer_root, answer_unroot, has_no_room}
use Rattle.pm_view.specs.View.{SpaceView}
use Rattle.pm_view.specs.Reading.{resolve, named_by}
use Rattle.pm_view.specs.Law.{HeapLaw}
use Rattle.pm_view.specs.Represents.{names, Represents}
use Rattle.pm_view.specs.Rows.{with_name}
use Rattle.pm_view.specs.Commands.{register, refused, bind, row_root, row_unroot}
use Rattle.pm_law_commands.proofs.RowLemmas.SpreadKept.{spread_keeps_law}
use Rattle.pm_law_commands.proofs.RowLemmas.SpreadMeans.{root_stands}
use Rattle.pm_law_commands.proofs.RowLemmas.Numbers.{found_by_number}
use Rattle.pm_law_commands.proofs.RowLemmas.Binding.{name_keeps_law, name_stands, unbinding_keeps_law, unbinding_stands}
use Rattle.pm_law_commands.specs.Served.{IsServed}
use Rattle.pm_law_commands.proofs.Held.{LeadsTo, leads, named, named_then, may_store, known_by}
use Rattle.pm_law_commands.proofs.Registers.{refused_both, found_in, wanted_in, held_is}

module _ (view : SpaceView) (world : World) (law : HeapLaw view) (stands : Represents view world) where
  -- as many names are bound in the world as in the space
  name_bound : (name : List ℕ) → is_some (get world.roots name) ≡ is_some (get view.roots name)
  name_bound name = ap is_some (stands.roots name) ∙ by_case (get view.roots name) refl
    where
      by_case : (o : Option (ℕ × Addr)) → get view.roots name ≡ o → is_some (option_and_then (λ (bound : ℕ × Addr). named_by view bound.1) o) ≡ is_some o
      by_case None is = refl
      by_case (Some bound) is =
          let there = leads view (Root bound.0) bound.1 law refl (found_by_number view.roots law.named.numbers name bound is) in
          ap is_some (named view bound.1 there.0 there.1)

  same_units : {X Y : Type 0} (o : Option X) (p : Option Y) → is_some o ≡ is_some p → option_map (λ _. tt) o ≡ option_map {U = Unit {0}} (λ _. tt) p
  same_units None None same = refl
  same_units None (Some y) same = absurd (true≢false (sym same))
  same_units (Some x) None same = absurd (true≢false same)
  same_units (Some x) (Some y) same = refl

  -- so as many as there are in the space
  names_counted : len world.roots ≡ len view.roots
  names_counted =
      sym (len-mapped name_cmp (λ _. tt) world.roots)
      ∙ ap len (same_map names_total names_antisymmetric (mapped {Y = Unit {0}} (λ _. tt) world.roots) (mapped (λ _. tt) view.roots)
      (λ q. get-mapped name_cmp (λ _. tt) world.roots q ∙ same_units (get world.roots q) (get view.roots q) (name_bound q) ∙ sym (get-mapped name_cmp (λ _. tt) view.roots q)))
      ∙ len-mapped name_cmp (λ _. tt) view.roots

  -- `root`: a new name gets a number that no name has
  pub root_serves : (client reg number : ℕ) (name : List ℕ) → IsFree view.roots number → IsServed (row_root view name number (register view client reg)) (answer_root world name (held world client reg))
  root_serves client reg number name free = by_reg (register view client reg) refl
    where
      room_test : (b : Bool) → is_some (get world.roots name) ≡ b → has_no_room world name ≡ (not b && nat_le ROOTS (len view.roots))
      room_test b same = (λ i. not (same i) && nat_le ROOTS (names_counted i))

      by_room : (a : Addr) (object : kept_objects.Object) → LeadsTo view a object → IsSome (get world.heap object.id) → get view.roots name ≡ None → (b : Bool) → nat_le ROOTS (len view.roots) ≡ b
          → IsServed (if b then refused view TooManyRoots else (Done, with_name view name number (resolve view a))) (if b then (TooManyRoots, world) else (Done, naming world name object.id))
      by_room a object there known none true full = refused_both view world TooManyRoots law stands
      by_room a object there known none false room =
          let few = leb-false ROOTS (len view.roots) room in
          record {
            reply = refl;
            law = name_keeps_law view name number (resolve view a) law free none few (may_store view a object there);
            world = name_stands view name number (resolve view a) law free none few (may_store view a object there) world object.id stands (named_then view a object there) known;
          }

      by_name : (a : Addr) (object : kept_objects.Object) → LeadsTo view a object → IsSome (get world.heap object.id) → (o : Option (ℕ × Addr)) → get view.roots name ≡ o
          → IsServed (bind view name o number (resolve view a)) (if has_no_room world name then (TooManyRoots, world) else (Done, naming world name object.id))
      by_name a object there known None none =
          subst (λ b. IsServed (bind view name None number (resolve view a)) (if b then (TooManyRoots, world) else (Done, naming world name object.id))) (sym (room_test false (name_bound name ∙ ap is_some none)))
          (by_room a object there known none (nat_le ROOTS (len view.roots)) refl)
      by_name a object there known (Some bound) is =
          subst (λ b. IsServed (bind view name (Some bound) number (resolve view a)) (if b then (TooManyRoots, world) else (Done, naming world name object.id))) (sym (room_test true (name_bound name ∙ ap is_some is)))
          (record {
            reply = refl;
            law = spread_keeps_law view (Root bound.0) (Some (resolve view a)) law (ap is_some (found_by_number view.roots law.named.numbers name bound is)) refl (may_store view a object there);
            world = root_stands view world name bound.0 object.id bound.1 (resolve view a) law stands is (may_store view a object there) (named_then view a object there) known;
          })

      by_reg : (o : Option Addr) → register view client reg ≡ o → IsServed (row_root view name number o) (answer_root world name (held world client reg))
      by_reg None none = subst (λ o. IsServed (refused view NoHandle) (answer_root world name o)) (sym (held_is view world law stands client reg ∙ ap (names view) none)) (refused_both view world NoHandle law stands)
      by_reg (Some a) is =
          let found = found_in view world law stands client reg a is in
          let known = known_by view world a found.0 stands found.1 (wanted_in view world law stands client reg found.0.id found.2) in
          subst (λ o. IsServed (row_root view name number (Some a)) (answer_root world name o)) (sym found.2) (by_name a found.0 found.1 (ap is_some known.1) (get view.roots name) refl)

  -- `unroot`
  pub unroot_serves : (name : List ℕ) → IsServed (row_unroot view name (get view.roots name)) (answer_unroot world name (get world.roots name))
  unroot_serves name = by_case (get view.roots name) refl
    where
      by_case : (o : Option (ℕ × Addr)) → get view.roots name ≡ o → IsServed (row_unroot view name o) (answer_unroot world name (get world.roots name))
      by_case None is = subst (λ o. IsServed (refused view NoRoot) (answer_unroot world name o)) (sym (stands.roots name ∙ ap (option_and_then (λ (bound : ℕ × Addr). named_by view bound.1)) is)) (refused_both view world NoRoot law stands)
      by_case (Some bound) is =
          let there = leads view (Root bound.0) bound.1 law refl (found_by_number view.roots law.named.numbers name bound is) in
          let has : get world.roots name ≡ Some there.0.id = stands.roots name ∙ ap (option_and_then (λ (bound : ℕ × Addr). named_by view bound.1)) is ∙ named view bound.1 there.0 there.1 in
          subst (λ o. IsServed (row_unroot view name (Some bound)) (answer_unroot world name o)) (sym has)
          (record {
            reply = refl;
            law = unbinding_keeps_law view name bound.0 bound.1 law is;
            world = unbinding_stands view name bound.0 bound.1 law is world stands;
          })
