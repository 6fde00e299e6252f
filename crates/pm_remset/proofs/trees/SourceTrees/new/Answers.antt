use Rattle.pm_remset.proofs.Regrouped.{none_grouped}
use Rattle.pm_remset.proofs.trees.SourceTrees.new.Goals as goal

pub invariant_of-result : goal.invariant_of-result
invariant_of-result c = none_grouped c.new.result c.new-2.result c.new.ensures.ordered c.new.ensures.empty c.new-2.ensures.empty
