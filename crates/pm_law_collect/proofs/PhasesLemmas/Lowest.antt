-- The lowest Live slot of a car.
use Rattle.std.proofs.Common.{◌≡◌, ℕ, true, refl, ap, sym, ◌∙◌, Option, Some, None}
use Rattle.std.specs.Option.{option_map, option_and_then}
use Rattle.std.specs.List.{find}
use Rattle.std.specs.Cmp.{nat_cmp_total}
use Rattle.std.specs.FinMap.{get, entries, nat_cmp-IsAntisymmetric}
use Rattle.std.proofs.lemmas.Bool.{true≢false}
use Rattle.pm_types.specs.declared.address.Addr.{Addr}
use Rattle.pm_types.specs.declared.object.Object.{Object}
use Rattle.pm_types.specs.declared.object.Slot.{Slot}
use Rattle.pm_types.specs.declared.object.Slot.TheVariants.{Live, Moved}
use Rattle.pm_cars.specs.Cars.{Car}
use Rattle.pm_cars.specs.Entries.{holds_object}
use Rattle.pm_view.specs.View.{SpaceView}
use Rattle.pm_view.specs.Events.{lowest_live}
use Rattle.pm_law_collect.proofs.PhasesLemmas.Small.{some_same, none_some}
use Rattle.pm_law_collect.proofs.PhasesLemmas.Finds.{found_entry}

pub record IsLive (view : SpaceView) (a : Addr) : Type 0 where
  pub car : Car
  pub object : Object
  pub stands : get view.cars a.car ≡ Some car
  pub there : get car.slots a.slot ≡ Some (Live object)

live_is : (o : Option Slot) (w : Slot) → o ≡ Some w → holds_object w ≡ true → (object : Object) × (o ≡ Some (Live object))
live_is o (Live object) is live = (object, is)
live_is o (Moved to) is live = absurd (true≢false (sym live))

pub lowest_is : (view : SpaceView) (a : Addr) → lowest_live view a.car ≡ Some a.slot → IsLive view a
lowest_is view a low = by_car (get view.cars a.car) refl low
  where
    by_entry : (car : Car) → get view.cars a.car ≡ Some car → (o : Option (ℕ × Slot)) → find (λ (e : ℕ × Slot). holds_object e.1) (entries car.slots) ≡ o → option_map (λ (e : ℕ × Slot). e.0) o ≡ Some a.slot → IsLive view a
    by_entry car stands None found low = absurd (none_some a.slot low)
    by_entry car stands (Some e) found low =
        let held = found_entry nat_cmp_total nat_cmp-IsAntisymmetric (λ (e : ℕ × Slot). holds_object e.1) car.slots e found in
        let same : e.0 ≡ a.slot = some_same e.0 a.slot low in
        let object = live_is (get car.slots a.slot) e.1 (ap (get car.slots) (sym same) ∙ held.0) held.1 in
        record { car = car; object = object.0; stands = stands; there = object.1 }

    by_car : (o : Option Car) → get view.cars a.car ≡ o → option_and_then (λ (it : Car). option_map (λ (e : ℕ × Slot). e.0) (find (λ (e : ℕ × Slot). holds_object e.1) (entries it.slots))) o ≡ Some a.slot → IsLive view a
    by_car None stands low = absurd (none_some a.slot low)
    by_car (Some car) stands low = by_entry car stands _ refl low
