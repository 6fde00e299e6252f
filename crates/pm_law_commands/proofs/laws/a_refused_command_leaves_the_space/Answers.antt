use Rattle.pm_law_commands.proofs.Refusals.{row_still}
use Rattle.pm_law_commands.proofs.laws.a_refused_command_leaves_the_space.Goals as goal

pub returns : goal.returns
returns c = λ view client cmd picks refuses. row_still view client cmd picks refuses
