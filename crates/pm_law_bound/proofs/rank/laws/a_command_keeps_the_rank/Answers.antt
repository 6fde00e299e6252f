use Rattle.pm_law_bound.proofs.RankLemmas.Rows.{command_rank}
use Rattle.pm_law_bound.proofs.rank.laws.a_command_keeps_the_rank.Goals as goal

pub returns : goal.returns
returns c = λ view client cmd picks law small regs picked. command_rank view law client small picks cmd regs picked
