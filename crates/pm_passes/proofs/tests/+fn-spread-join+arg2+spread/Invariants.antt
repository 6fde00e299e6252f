use Rattle.std.proofs.Common.{◌+◌, ◌-◌, ◌*◌}
use Rattle.pm_passes.proofs.tests.+fn-spread-join+arg2+spread.Given as goal

abbrev pub decreases-join+arg2 : goal.decreases-join+arg2
decreases-join+arg2 g l = 2 * (l.callers - 1) + 1

abbrev pub decreases-spread : goal.decreases-spread
decreases-spread g l = 2 * l.callers
