use Rattle.pm_law_commands.proofs.RowLemmas.Binding.{name_keeps_law, name_stands, unbinding_keeps_law, unbinding_stands}
use Rattle.pm_law_commands.proofs.row.laws.a_name_is_bound_or_unbound.Goals as goal

pub returns-clause-bound : goal.returns-clause-bound
returns-clause-bound c = λ view name number a law free unbound room may. name_keeps_law view name number a law free unbound room may

pub returns-clause-named : goal.returns-clause-named
returns-clause-named c = λ view world name number id a law stands free unbound room may called known. name_stands view name number a law free unbound room may world id stands called known

pub returns-clause-unbound : goal.returns-clause-unbound
returns-clause-unbound c = λ view name number a law bound. unbinding_keeps_law view name number a law bound

pub returns-clause-unnamed : goal.returns-clause-unnamed
returns-clause-unnamed c = λ view world name number a law stands bound. unbinding_stands view name number a law bound world stands
