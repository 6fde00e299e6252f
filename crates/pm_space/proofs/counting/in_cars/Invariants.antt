use Rattle.std.proofs.Common.{◌≡◌, take}
use Rattle.std.specs.List.{sum_by}
use Rattle.pm_view.specs.Counts.{standing_in}
use Rattle.pm_types.specs.Counts.{capped}
use Rattle.pm_space.specs.Shown.{view}
use Rattle.pm_space.proofs.counting.in_cars.Given as goal

-- the objects of the cars so far
abbrev pub invariant-loop-car : goal.invariant-loop-car
invariant-loop-car g l = l.sum ≡ capped (sum_by (standing_in (view l.parts)) (take l.car-index l.cars))
