use Rattle.std.proofs.Common.{ap}
use Rattle.pm_view.specs.Collecting.{anchored}
use Rattle.pm_law_course.proofs.Kept.{command_keeps}
use Rattle.pm_law_course.proofs.Anchoring.{none_then, cleared_then, moves_by}
use Rattle.pm_law_course.proofs.anchors.an_anchor_is_noted_with_its_train.Goals as goal

pub returns-clause-noted : goal.returns-clause-noted
returns-clause-noted c = λ view car picked number a none. ap (λ o. anchored o a picked) none

pub returns-clause-no_other : goal.returns-clause-no_other
returns-clause-no_other c = none_then

pub returns-clause-moves : goal.returns-clause-moves
returns-clause-moves c = moves_by

pub returns-clause-there : goal.returns-clause-there
returns-clause-there c = λ view picked to train a moves. moves.1

pub returns-clause-cleared : goal.returns-clause-cleared
returns-clause-cleared c = cleared_then

pub returns-clause-command : goal.returns-clause-command
returns-clause-command c = λ view client cmd picks. (command_keeps view client cmd picks).anchor
