use Rattle.pm_law_collect.proofs.WorkLemmas.Lowering.{event_lowers}
use Rattle.pm_law_collect.proofs.WorkLemmas.Nothing.{nothing_where, nothing_there}
use Rattle.pm_law_collect.proofs.work.events.an_event_lowers_the_work_left.Goals as goal

pub returns-clause-lowers : goal.returns-clause-lowers
returns-clause-lowers c = λ view row picked number law next may vacant busy still. event_lowers view picked number row law next may vacant busy still

pub returns-clause-idle : goal.returns-clause-idle
returns-clause-idle c = λ view law next. (nothing_where view law next).0

pub returns-clause-empty : goal.returns-clause-empty
returns-clause-empty c = λ view car law next. (nothing_where view law next).1 car

pub returns-clause-nothing : goal.returns-clause-nothing
returns-clause-nothing c = λ view law idle none. nothing_there view law idle none
