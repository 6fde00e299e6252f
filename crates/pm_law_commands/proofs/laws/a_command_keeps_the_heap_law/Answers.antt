use Rattle.pm_law_commands.proofs.Keeps.{row_keeps}
use Rattle.pm_law_commands.proofs.laws.a_command_keeps_the_heap_law.Goals as goal

pub returns : goal.returns
returns c = λ view client cmd picks law small regs picked. row_keeps view law client cmd picks small regs picked
