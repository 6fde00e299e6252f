use Rattle.std.proofs.Common.{ℕ, ◌<◌, get_or}
use Rattle.pm_space.specs.Shown.{view}
use Rattle.pm_space_cases.specs.Lacking.{LacksIn}
use Rattle.pm_space_cases.proofs.searched.in_cars.Given as goal

-- no car so far has the identity
abbrev pub invariant-loop-car : goal.invariant-loop-car
invariant-loop-car g l = (k : ℕ) → k < l.car-index → LacksIn (view l.parts) l.id (get_or l.cars k 0)
