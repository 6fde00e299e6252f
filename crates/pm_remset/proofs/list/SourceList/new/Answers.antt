use Rattle.std.proofs.Common.{sym, subst}
use Rattle.pm_remset.specs.Listed.{IsInOrder}
use Rattle.pm_remset.proofs.Lists.{none_in_order}
use Rattle.pm_remset.proofs.list.SourceList.new.Goals as goal

pub invariant_of-result : goal.invariant_of-result
invariant_of-result c = subst IsInOrder (sym c.new.ensures.items) none_in_order
