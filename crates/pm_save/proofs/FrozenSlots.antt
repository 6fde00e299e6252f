-- What a frozen car holds.
use Rattle.std.proofs.Common.{◌≡◌, ℕ, Option, Some, None, sym, ap, ◌∙◌}
use Rattle.std.specs.Ordering.{nat_cmp}
use Rattle.std.specs.Prelude.{option_map}
use Rattle.std.specs.FinMap.{FinMap, get, get-empty}
use Rattle.pm_types.proofs.Mapped.{get-mapped}
use Rattle.pm_types.specs.Mapped.{mapped}
use Rattle.pm_cars.specs.Cars.{Car}
use Rattle.pm_snap.specs.Snapped.{at_key}
use Rattle.pm_space.specs.declared.held.Held.{Held}
use Rattle.pm_space.specs.Shown.{car_of}
use Rattle.pm_saving.specs.Progress.{slots_of, cars_or_none}

pub frozen_slots : (frozen : Option (FinMap nat_cmp Held)) (number : ℕ) (found : Option Held) → found ≡ at_key frozen number
    → slots_of (option_map car_of found) ≡ slots_of (get (cars_or_none (option_map (mapped car_of) frozen)) number)
frozen_slots None number found is = ap (λ (found : Option Held). slots_of (option_map car_of found)) is ∙ ap slots_of (sym (get-empty {X = Car} nat_cmp number))
frozen_slots (Some cars) number found is =
    ap (λ (found : Option Held). slots_of (option_map car_of found)) is ∙ ap slots_of (sym (get-mapped nat_cmp car_of cars number))
