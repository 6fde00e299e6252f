use Rattle.std.proofs.Common.{◌≡◌, ℕ, ◌≤◌, None}
use Rattle.pm_trains.specs.Trains.{train_of}
use Rattle.pm_value_cases.proofs.containers.trains.filled.Given as goal

-- the cars from this one on stand in no train
abbrev pub invariant-loop-car : goal.invariant-loop-car
invariant-loop-car l = (q : ℕ) → l.car ≤ q → train_of l.trains.trains q ≡ None
