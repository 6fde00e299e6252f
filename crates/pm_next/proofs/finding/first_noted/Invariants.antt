use Rattle.std.proofs.Common.{◌≡◌, drop, is_some}
use Rattle.std.specs.List.{find}
use Rattle.pm_view.specs.Candidates.{least_outside}
use Rattle.pm_space.specs.Shown.{view}
use Rattle.pm_next.proofs.finding.first_noted.Given as goal

-- none of the cars so far remembers a source outside the train
abbrev pub invariant-loop-car : goal.invariant-loop-car
invariant-loop-car g l = find (λ car. is_some (least_outside (view l.parts) l.train car)) (drop l.car-index l.cars) ≡ find (λ car. is_some (least_outside (view l.parts) l.train car)) l.cars
