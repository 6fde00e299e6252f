-- Opening builds its space: what is asked of cars and roots holds of those that it makes, and what is built of them is what it makes.
use Rattle.std.proofs.Common.{◌≡◌, inl, inr, ℕ, ◌+◌, ◌<◌, ◌≤◌, ◌==◌, Bool, true, false, cond, refl, ap, sym, subst, ◌∙◌, List, [], ◌∷◌, ◌++◌, Option, Some, None, is_some, if◌then◌else◌}
use Rattle.std.specs.Option.{IsSome}
use Rattle.std.specs.List.{flat_map, AllByRecursion}
use Rattle.std.specs.FinMap.{FinMap, entries}
use Rattle.std.proofs.lemmas.List.{length-map}
use Rattle.pm_types.proofs.Mapped.{entries-mapped}
use Rattle.pm_types.specs.Orders.{name_cmp}
use Rattle.pm_types.proofs.Orders.{names_total, names_antisymmetric}
use Rattle.pm_types.specs.declared.limits.TheConstants.{ROOTS}
use Rattle.pm_types.specs.declared.address.Addr.{Addr}
use Rattle.pm_types.specs.declared.object.Object.{Object}
use Rattle.pm_types.specs.declared.object.Slot.{Slot}
use Rattle.pm_types.specs.declared.object.Slot.TheVariants as slots
use Rattle.pm_types.specs.declared.source.RefSource.TheVariants.{Field}
use Rattle.pm_cars.specs.Cars.{Car, look_of, object_of}
use Rattle.pm_cars.specs.declared.look.Look.TheVariants as looks
use Rattle.pm_image.specs.declared.car.CarImage.{CarImage}
use Rattle.pm_image.specs.declared.catalog.CatEntry.{CatEntry}
use Rattle.pm_image.specs.Graphs.{resolved}
use Rattle.pm_view.specs.View.{SpaceView}
use Rattle.pm_view.specs.Reading.{slot_at, object_at}
use Rattle.pm_view.specs.Law.{HeapLaw}
use Rattle.pm_copies.specs.Listed.{Listed, images}
use Rattle.pm_copies.specs.Accepted.{Differ, roots_in, IsAccepted}
use Rattle.pm_copies.specs.Accepted as accepted
use Rattle.pm_copies.specs.Opened.{has_object, opened_car, opened_root, resolved_at, IsOpened}
use Rattle.pm_copies.specs.Built.{Placed, built_cars, StepFrom, Steps, CarsDiffer, IsFull, MayBuild, IsBuiltOf, opened_placed, renumbered_on, renumbered, opening_cars, opening_roots}
use Rattle.pm_law_copies.proofs.Lists.{all_append, all_mapped, all_weaker, entries_made}
use Rattle.pm_law_copies.proofs.CopyOf.{all_roots}
use Rattle.pm_law_copies.proofs.OpenedCars.{car_sound, car_has, car_still}
use Rattle.pm_law_copies.proofs.OpenedLaw.{object_there, stored_here, resolved_live, keeps_law}
use Rattle.pm_law_copies.proofs.Resolving.{field_stored}
use Rattle.pm_law_copies.proofs.Named.{named, named_sorted}
use Rattle.pm_law_copies.proofs.SomeSpace.{some_space}
use Rattle.pm_law_copies.proofs.OpenedBuilt.{same_cars, same_trains}

-- ---- what is built of them is what opening makes

module _ (listed : List Listed) (catalog : List CatEntry) (next_id : ℕ) (ok : IsAccepted listed catalog next_id) where
  pub built_is_opened : (view : SpaceView) → IsBuiltOf (opening_cars listed) (opening_roots listed catalog) next_id view → IsOpened listed catalog next_id view
  built_is_opened view built = record {
    cars = built.cars ∙ same_cars listed;
    trains = built.trains ∙ same_trains listed;
    roots =
        sym (entries-mapped name_cmp (λ (bound : ℕ × Addr). bound.1) view.roots)
        ∙ ap (λ (m : FinMap name_cmp Addr). entries m) built.roots
        ∙ entries_made names_total names_antisymmetric (named (images listed) catalog) (named_sorted (images listed) None catalog ok.names);
    fresh = built.fresh;
  }

-- ---- and they may be built of

full_cars : (all : List CarImage) (listed : List Listed) → AllByRecursion accepted.IsAcceptedCar (images listed) → AllByRecursion (λ (one : Placed). IsFull one.1) (flat_map (opened_placed all) listed)
full_cars all [] are = tt
full_cars all (one ∷ listed) are = all_append (λ (one : Placed). IsFull one.1) (opened_placed all one) (flat_map (opened_placed all) listed) (first (has_object one.1.slots) refl) (full_cars all listed are.1)
  where
    first : (b : Bool) → has_object one.1.slots ≡ b → AllByRecursion (λ (one : Placed). IsFull one.1) (cond b ((one.0, opened_car all one.1) ∷ []) [])
    first false none = tt
    first true has = (record { from_one = are.0.from_one; sound = car_sound all one.1 are.0.ascend are.0.fits; live = car_has all one.1 are.0.ascend has; moved = car_still all one.1 are.0.ascend }, tt)

all_on : (P : Car → Type 0) (now train : ℕ) (placed : List Placed) → AllByRecursion (λ (one : Placed). P one.1) placed → AllByRecursion (λ (one : Placed). P one.1) (renumbered_on now train placed)
all_on P now train [] all = tt
all_on P now train (one ∷ placed) all = elim (train == one.0) as (λ b. AllByRecursion (λ (one : Placed). P one.1) (if b then (now, one.1) ∷ renumbered_on now one.0 placed else (now + 1, one.1) ∷ renumbered_on (now + 1) one.0 placed)) [
  | true ↦ (all.0, all_on P now one.0 placed all.1)
  | false ↦ (all.0, all_on P (now + 1) one.0 placed all.1)
]

all_renumbered : (P : Car → Type 0) (placed : List Placed) → AllByRecursion (λ (one : Placed). P one.1) placed → AllByRecursion (λ (one : Placed). P one.1) (renumbered placed)
all_renumbered P [] all = tt
all_renumbered P (one ∷ placed) all = (all.0, all_on P 1 one.0 placed all.1)

steps_on : (now train : ℕ) (placed : List Placed) → StepFrom now (renumbered_on now train placed)
steps_on now train [] = tt
steps_on now train (one ∷ placed) = elim (train == one.0) as (λ b. StepFrom now (if b then (now, one.1) ∷ renumbered_on now one.0 placed else (now + 1, one.1) ∷ renumbered_on (now + 1) one.0 placed)) [
  | true ↦ (inl refl, steps_on now one.0 placed)
  | false ↦ (inr refl, steps_on (now + 1) one.0 placed)
]

steps : (placed : List Placed) → Steps (renumbered placed)
steps [] = tt
steps (one ∷ placed) = (refl, steps_on 1 one.0 placed)

differ_on : (now train : ℕ) (placed : List Placed) → CarsDiffer placed → CarsDiffer (renumbered_on now train placed)
differ_on now train [] differ = tt
differ_on now train (one ∷ placed) differ = elim (train == one.0) as (λ b. CarsDiffer (if b then (now, one.1) ∷ renumbered_on now one.0 placed else (now + 1, one.1) ∷ renumbered_on (now + 1) one.0 placed)) [
  | true ↦ (all_on (λ car. (car.number == one.1.number) ≡ false) now one.0 placed differ.0, differ_on now one.0 placed differ.1)
  | false ↦ (all_on (λ car. (car.number == one.1.number) ≡ false) (now + 1) one.0 placed differ.0, differ_on (now + 1) one.0 placed differ.1)
]

differ_renumbered : (placed : List Placed) → CarsDiffer placed → CarsDiffer (renumbered placed)
differ_renumbered [] differ = tt
differ_renumbered (one ∷ placed) differ = (all_on (λ car. (car.number == one.1.number) ≡ false) 1 one.0 placed differ.0, differ_on 1 one.0 placed differ.1)

others_differ : (all : List CarImage) (n : ℕ) (listed : List Listed) → AllByRecursion (λ (other : CarImage). (other.number == n) ≡ false) (images listed) → AllByRecursion (λ (other : Placed). (other.1.number == n) ≡ false) (flat_map (opened_placed all) listed)
others_differ all n [] differ = tt
others_differ all n (one ∷ listed) differ = all_append (λ (other : Placed). (other.1.number == n) ≡ false) (opened_placed all one) (flat_map (opened_placed all) listed) (first (has_object one.1.slots)) (others_differ all n listed differ.1)
  where
    first : (b : Bool) → AllByRecursion (λ (other : Placed). (other.1.number == n) ≡ false) (cond b ((one.0, opened_car all one.1) ∷ []) [])
    first false = tt
    first true = (differ.0, tt)

cars_differ : (all : List CarImage) (listed : List Listed) → Differ (images listed) → CarsDiffer (flat_map (opened_placed all) listed)
cars_differ all [] differ = tt
cars_differ all (one ∷ listed) differ = elim (has_object one.1.slots) as (λ b. CarsDiffer (cond b ((one.0, opened_car all one.1) ∷ []) [] ++ flat_map (opened_placed all) listed)) [
  | true ↦ (others_differ all one.1.number listed differ.0, cars_differ all listed differ.1)
  | false ↦ cars_differ all listed differ.1
]

object_from_look : (o : Option Slot) → look_of o ≡ looks.Live → is_some (object_of o) ≡ true
object_from_look None is = cc
object_from_look (Some (slots.Live object)) is = refl
object_from_look (Some (slots.Moved to)) is = cc

module _ (listed : List Listed) (catalog : List CatEntry) (next_id : ℕ) (ok : IsAccepted listed catalog next_id) where
  -- a space that is opened from them, in which their objects are read
  space : (view : SpaceView) × IsOpened listed catalog next_id view
  space = some_space listed catalog next_id ok

  law : HeapLaw space.0
  law = keeps_law listed catalog next_id space.0 ok space.1

  same : built_cars (opening_cars listed) ≡ space.0.cars
  same = same_cars listed ∙ sym space.1.cars

  read : (a : Addr) (object : Object) → object_at (built_cars (opening_cars listed)) a ≡ Some object → object_at space.0.cars a ≡ Some object
  read a object is = ap (λ cars. object_at cars a) (sym same) ∙ is

  written : (a : Addr) → is_some (object_at space.0.cars a) ≡ true → is_some (object_at (built_cars (opening_cars listed)) a) ≡ true
  written a some = ap (λ cars. is_some (object_at cars a)) same ∙ some

  root_there : (root : List ℕ × Addr) → is_some (resolved (images listed) root.1) ≡ true → is_some (object_at (built_cars (opening_cars listed)) (resolved_at (images listed) root.1)) ≡ true
  root_there root some =
      let live = resolved_live (images listed) root.1 some in
      written (resolved_at (images listed) root.1) (ap is_some (object_there listed catalog next_id space.0 ok space.1 (resolved_at (images listed) root.1) live.0 live.1))

  pub may_build : MayBuild (opening_cars listed) (opening_roots listed catalog) next_id
  may_build = record {
    next = ok.next;
    trains = steps (flat_map (opened_placed (images listed)) listed);
    cars = all_renumbered IsFull (flat_map (opened_placed (images listed)) listed) (full_cars (images listed) listed ok.cars);
    differ = differ_renumbered (flat_map (opened_placed (images listed)) listed) (cars_differ (images listed) listed ok.differ);
    objects = λ a object is.
        let known = law.built.objects a object (read a object is) in
        record { first = known.first; given = subst (λ n. object.id < n) space.1.fresh.next known.given; fields = known.fields; bytes = known.bytes };
    apart = λ a b o p at_a at_b ids. law.built.apart a b o p (read a o at_a) (read b p at_b) ids;
    fields = λ a object i to is field. written to (object_from_look (slot_at space.0.cars to) (stored_here listed catalog next_id space.0 ok space.1 (Field a i) to (field_stored space.0 law a object i to (read a object is) field)));
    roots = all_mapped (λ (root : List ℕ × Addr). IsSome (object_at (built_cars (opening_cars listed)) root.1)) (opened_root (images listed)) (roots_in catalog)
        (all_weaker (λ (root : List ℕ × Addr). is_some (resolved (images listed) root.1) ≡ true) (λ (root : List ℕ × Addr). IsSome (object_at (built_cars (opening_cars listed)) (resolved_at (images listed) root.1))) (roots_in catalog) root_there (all_roots (images listed) catalog ok.roots));
    few = subst (λ n. n ≤ ROOTS) (sym (length-map (roots_in catalog) (opened_root (images listed)))) ok.few;
  }
