use Rattle.pm_law_commands.proofs.RowLemmas.SpreadMeans.{register_stands, root_stands, field_stands}
use Rattle.pm_law_commands.proofs.row.laws.a_source_that_is_set_stands_for_it.Goals as goal

pub returns-clause-register : goal.returns-clause-register
returns-clause-register c = λ view world client register to law stands at may known. register_stands view world client register to law stands at may known

pub returns-clause-name : goal.returns-clause-name
returns-clause-name c = λ view world name number id old a law stands bound may called known. root_stands view world name number id old a law stands bound may called known

pub returns-clause-field : goal.returns-clause-field
returns-clause-field c = λ view world a index object it to law stands here at may is_it known. field_stands view world a index object it to law stands here at may is_it known
