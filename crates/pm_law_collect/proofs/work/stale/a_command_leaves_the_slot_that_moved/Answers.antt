use Rattle.pm_view.specs.Commands.{row}
use Rattle.pm_law_collect.proofs.WorkLemmas.StaleLooks.{sole_still}
use Rattle.pm_law_collect.proofs.WorkLemmas.StaleCommands.{command_keeps}
use Rattle.pm_law_collect.proofs.work.stale.a_command_leaves_the_slot_that_moved.Goals as goal

pub returns : goal.returns
returns c = λ view client cmd picks slot law few picked sole. sole_still view (row view client cmd picks).1 (command_keeps view law client cmd picks picked) slot sole
