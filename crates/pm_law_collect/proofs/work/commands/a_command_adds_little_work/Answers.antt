use Rattle.pm_law_collect.proofs.WorkLemmas.Adding.{command_adds}
use Rattle.pm_law_collect.proofs.work.commands.a_command_adds_little_work.Goals as goal

pub returns : goal.returns
returns c = λ view client cmd picks law few picked. command_adds view law client few cmd picks picked
