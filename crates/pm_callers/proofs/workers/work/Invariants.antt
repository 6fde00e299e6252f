use Rattle.std.proofs.Common.{None}
use Rattle.pm_engine.specs.Shown.{disk_in}
use Rattle.pm_engine.specs.contracts.Engine as engines
use Rattle.pm_passes.specs.Passes.{view_of}
use Rattle.pm_seats.specs.Sharing.{first_engine}
use Rattle.pm_callers.specs.Tasks.{IsTask}
use Rattle.pm_callers.specs.Works.{IsWorkers, Steps, events_left}
use Rattle.pm_callers.proofs.workers.work.Given as goal

abbrev pub invariant-loop-index : goal.invariant-loop-index
invariant-loop-index g l =
    IsWorkers (engines.the_row g.row.D g.row.F g.D.Disk).coded l.shared l.pass × IsTask l.task
    × Steps (g.D.Disk.count (disk_in (first_engine l.shared))) l.fn.task l.task (view_of l.fn.pass) (view_of l.pass) None

abbrev pub decreases-loop-index : goal.decreases-loop-index
decreases-loop-index g l = events_left l.task
