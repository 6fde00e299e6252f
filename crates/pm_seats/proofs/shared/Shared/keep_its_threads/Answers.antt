use denote.Param.{param}
use Rattle.pm_seats.proofs.Crosses.{shared_sync}
use Rattle.pm_seats.proofs.shared.Shared.keep_its_threads.Goals as goal

pub returns : goal.returns
returns g c = λ d f. shared_sync (param 0 g.row.D) (param 1 g.row.F) g.D.Disk d f
