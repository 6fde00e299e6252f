use Rattle.std.proofs.Common.{◌≡◌, take}
use Rattle.std.specs.List.{sum_by}
use Rattle.std.specs.FinMap.{get}
use Rattle.pm_view.specs.Counts.{live_in}
use Rattle.pm_types.specs.Counts.{capped}
use Rattle.pm_space.specs.Shown.{view}
use Rattle.pm_inspect.proofs.counting.live_in_cars.Given as goal

-- the objects of the cars so far
abbrev pub invariant-loop-car : goal.invariant-loop-car
invariant-loop-car g l = l.sum ≡ capped (sum_by (λ number. live_in (get (view l.parts).cars number)) (take l.car-index l.cars))
