-- The lowest Live slot of a car.
use Rattle.std.proofs.Common.{◌≡◌, ℕ, ◌<◌, arith, true, refl, ap, sym, subst, ◌∙◌, Option, Some, None, IsSome}
use Rattle.std.specs.Option.{option_map}
use Rattle.std.specs.List as list
use Rattle.std.specs.FinMap.{get, entries}
use Rattle.std.proofs.lemmas.Bool.{true≢false}
use Rattle.pm_types.specs.declared.object.Object.{Object}
use Rattle.pm_types.specs.declared.object.Slot.{Slot}
use Rattle.pm_types.specs.declared.object.Slot.TheVariants.{Live, Moved}
use Rattle.pm_cars.specs.Cars.{Car, object_of, object_at, IsLive, IsLowestLive}
use Rattle.pm_cars.specs.Entries.{holds_object}
use Rattle.pm_next.proofs.Searches.{lower_failed, found_there, none_there}

pub holds_some : (s : Slot) → holds_object s ≡ true → IsSome (object_of (Some s))
holds_some (Live object) is = refl
holds_some (Moved to) is = absurd (true≢false (sym is))

is_none : (o : Option Object) → o ≡ None → IsSome o → ⊥
is_none None none there = absurd cc
is_none (Some x) none there = absurd cc

-- what a Live slot holds
holding : (o : Option Slot) → IsSome (object_of o) → (s : Slot) × (o ≡ Some s) × (holds_object s ≡ true)
holding None there = absurd cc
holding (Some (Live object)) there = (Live object, refl, refl)
holding (Some (Moved to)) there = absurd cc

abbrev found : Car → Option (ℕ × Slot)
found car = list.find (λ e. holds_object e.1) (entries car.slots)

pub lowest_is : (car : Car) (o : Option ℕ) → IsLowestLive car o → o ≡ option_map (λ (e : ℕ × Slot). e.0) (found car)
lowest_is car o low = by_case o low (found car) refl
  where
    live_at : (e : ℕ × Slot) → found car ≡ Some e → IsLive car e.0
    live_at e is = let there = found_there holds_object car.slots e is in subst (λ o. IsSome (object_of o)) (sym there.0) (holds_some e.1 there.1)

    no_lower : (e : ℕ × Slot) → found car ≡ Some e → (l : ℕ) → IsLive car l → l < e.0 → ⊥
    no_lower e is l live less = let held = holding (get car.slots l) live in true≢false (sym held.2 ∙ lower_failed holds_object car.slots e is l held.0 held.1 less)

    by_case : (o : Option ℕ) → IsLowestLive car o → (f : Option (ℕ × Slot)) → found car ≡ f → o ≡ option_map (λ (e : ℕ × Slot). e.0) f
    by_case None low None is = refl
    by_case None low (Some e) is = absurd (is_none (object_at car e.0) (low e.0) (live_at e is))
    by_case (Some l) low None is = let held = holding (get car.slots l) low.0 in absurd (true≢false (sym held.2 ∙ none_there holds_object car.slots is l held.0 held.1))
    by_case (Some l) low (Some e) is =
        let most = low.1 e.0 (live_at e is) in
        let least = no_lower e is l low.0 in
        let same : l ≡ e.0 = omega (arith, most, least) in ap Some same
