use Rattle.pm_types.proofs.Orders.{names_total, names_antisymmetric}
use Rattle.pm_types.proofs.law.names_are_ordered.Goals as goal

pub returns-clause-total : goal.returns-clause-total
returns-clause-total c = names_total

pub returns-clause-ties : goal.returns-clause-ties
returns-clause-ties c = names_antisymmetric
