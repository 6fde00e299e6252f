use Rattle.std.proofs.Common.{◌≡◌, ℕ, ◌<◌, false, get_or}
use Rattle.pm_trains.specs.Trains.{empty_train, is_among}
use Rattle.pm_value_cases.proofs.containers.trains.is_free.Given as goal

-- no train before this place has the car
abbrev pub invariant-loop-place : goal.invariant-loop-place
invariant-loop-place l = (q : ℕ) → q < l.place → is_among l.car (get_or l.trains.trains q (empty_train 0)).cars ≡ false
