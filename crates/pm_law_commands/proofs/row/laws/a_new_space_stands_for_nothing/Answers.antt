use Rattle.pm_law_commands.proofs.RowLemmas.NewSpace.{new_keeps_law, new_stands}
use Rattle.pm_law_commands.proofs.row.laws.a_new_space_stands_for_nothing.Goals as goal

pub returns-clause-law : goal.returns-clause-law
returns-clause-law c = new_keeps_law

pub returns-clause-world : goal.returns-clause-world
returns-clause-world c = new_stands
