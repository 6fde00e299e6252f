use Rattle.std.proofs.Common.{arith}
use Rattle.pm_trains.specs.Trains.{empty_train}
use Rattle.pm_value_cases.proofs.ContainersLemmas.Standing.{free_of}
use Rattle.pm_value_cases.proofs.containers.trains.is_free.Goals as goal

pub returns : goal.returns
returns c right = free_of c.args.car c.args.trains.now.trains (empty_train 0) (λ q lt. c.loop-place.invariant q (omega (arith, lt, c.len-place-end.ensures.len)))
