use Rattle.pm_law_commands.proofs.RowLemmas.Bytes.{bytes_keep_law, bytes_stand}
use Rattle.pm_law_commands.proofs.row.laws.bytes_are_changed.Goals as goal

pub returns-clause-law : goal.returns-clause-law
returns-clause-law c = bytes_keep_law

pub returns-clause-world : goal.returns-clause-world
returns-clause-world c = λ view world a at bytes object it law stands has here kept is_it. bytes_stand view a at bytes law has world object it stands here kept is_it
