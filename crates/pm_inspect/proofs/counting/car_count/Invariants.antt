use Rattle.std.proofs.Common.{◌≡◌, take, length}
use Rattle.std.specs.List.{sum_by}
use Rattle.pm_trains.specs.Trains.{Train}
use Rattle.pm_types.specs.Counts.{capped}
use Rattle.pm_inspect.proofs.counting.car_count.Given as goal

-- the cars of the trains so far
abbrev pub invariant-loop-place : goal.invariant-loop-place
invariant-loop-place g l = l.sum ≡ capped (sum_by (λ (train : Train). length train.cars) (take l.place l.parts.trains.trains))
