use Rattle.pm_types.proofs.Orders.{sources_total, source_cmp_is, sources_antisymmetric}
use Rattle.pm_types.proofs.law.sources_are_ordered.Goals as goal

pub returns-clause-order : goal.returns-clause-order
returns-clause-order c = source_cmp_is

pub returns-clause-total : goal.returns-clause-total
returns-clause-total c = sources_total

pub returns-clause-ties : goal.returns-clause-ties
returns-clause-ties c = sources_antisymmetric
