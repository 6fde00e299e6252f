use Rattle.pm_law_commands.proofs.Rows.{row_serves}
use Rattle.pm_law_commands.proofs.laws.a_command_is_answered_as_by_the_world.Goals as goal

pub returns : goal.returns
returns c = λ view world client cmd picks law stands act small regs picked. row_serves view world law stands client cmd picks act small regs picked
