use Rattle.std.proofs.Common.{◌+◌, ◌-◌, ◌*◌}
use Rattle.pm_turns.proofs.workers.+fn-spread-join+arg2+fn-spread-join+arg3+spread.Given as goal

abbrev pub decreases-join+arg2 : goal.decreases-join+arg2
decreases-join+arg2 g l = 2 * l.half + 1

abbrev pub decreases-join+arg3 : goal.decreases-join+arg3
decreases-join+arg3 g l = 2 * (l.count - l.half) + 1

abbrev pub decreases-spread : goal.decreases-spread
decreases-spread g l = 2 * l.count
