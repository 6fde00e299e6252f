use Rattle.std.proofs.Common.{rules}
use Rattle.pm_engine.specs.Shown.{disk_in}
use Rattle.pm_passes.specs.Passes.{view_of}
use Rattle.pm_seats.specs.Sharing.{first_engine}
use Rattle.pm_callers.proofs.Stepping.{begins}
use Rattle.pm_callers.proofs.workers.work.Goals as goal

pub loop-index-init : goal.loop-index-init
loop-index-init g c = (search rules, search rules, begins (g.D.Disk.count (disk_in (first_engine c.args.shared.now))) c.args.task.now (view_of c.args.pass.now))
