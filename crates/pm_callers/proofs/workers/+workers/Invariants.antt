use Rattle.std.proofs.Common.{◌+◌, ◌*◌, length}
use Rattle.pm_callers.proofs.workers.+workers.Given as goal

abbrev pub decreases-spread : goal.decreases-spread
decreases-spread g l = 4 * length l.tasks.now

abbrev pub decreases-beside : goal.decreases-beside
decreases-beside g l = 4 * length l.tasks.now + 2

abbrev pub decreases-beside-first : goal.decreases-beside-first
decreases-beside-first g l = 4 * length l.tasks.now + 1
