use denote.Param.{param}
use Rattle.pm_seats.proofs.Crosses.{logbook_send}
use Rattle.pm_seats.proofs.logbook.Logbook.keep_its_threads.Goals as goal

pub returns : goal.returns
returns g c = λ d f. logbook_send (param 0 g.row.D) (param 1 g.row.F) g.D.Disk d f
