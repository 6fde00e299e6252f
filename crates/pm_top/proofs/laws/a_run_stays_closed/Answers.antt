use Rattle.pm_model.specs.World.{begin}
use Rattle.pm_model.proofs.ClosedLaws.{closed_after}
use Rattle.pm_top.proofs.laws.a_run_stays_closed.Goals as goal

pub returns-clause-now : goal.returns-clause-now
returns-clause-now c journal run = closed_after (begin run.number run.copy) journal run.closed

pub returns-clause-ever : goal.returns-clause-ever
returns-clause-ever c first rest run = closed_after (begin run.number run.copy) first run.closed
