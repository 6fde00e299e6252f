use Rattle.std.proofs.Common.{◌-◌}
use Rattle.pm_next.proofs.Skips.{ArePassed, rank}
use Rattle.pm_next.proofs.skipping.least_beyond.Given as goal

-- each remembered source below this one lies in the train
abbrev pub invariant-loop-found : goal.invariant-loop-found
invariant-loop-found g l = ArePassed l.parts.trains.trains l.train l.set l.from

abbrev pub decreases-loop-found : goal.decreases-loop-found
decreases-loop-found g l = 18446744073709551616 - rank l.from
