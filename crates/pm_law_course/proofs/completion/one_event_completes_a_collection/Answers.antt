use Rattle.pm_view.specs.Events.{select}
use Rattle.pm_law_collect.proofs.PhasesLemmas.Comes.{comes_where}
use Rattle.pm_law_course.proofs.Kept.{command_keeps}
use Rattle.pm_law_course.proofs.Completing.{completed_then, ended_then, going_then, car_gone, train_gone}
use Rattle.pm_law_course.proofs.completion.one_event_completes_a_collection.Goals as goal

pub returns-clause-counted : goal.returns-clause-counted
returns-clause-counted c = completed_then

pub returns-clause-ended : goal.returns-clause-ended
returns-clause-ended c = ended_then

pub returns-clause-going : goal.returns-clause-going
returns-clause-going c = going_then

pub returns-clause-begun : goal.returns-clause-begun
returns-clause-begun c = λ view train next. (comes_where view (select train) next).idle

pub returns-clause-car : goal.returns-clause-car
returns-clause-car c = λ view car picked number. car_gone view car

pub returns-clause-train : goal.returns-clause-train
returns-clause-train c = λ view train car picked number law next last. train_gone view train car picked number law next last

pub returns-clause-command : goal.returns-clause-command
returns-clause-command c = λ view client cmd picks. (command_keeps view client cmd picks).completed

pub returns-clause-phase : goal.returns-clause-phase
returns-clause-phase c = λ view client cmd picks. (command_keeps view client cmd picks).phase
