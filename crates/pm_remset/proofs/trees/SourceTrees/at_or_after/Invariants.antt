use Rattle.std.proofs.Common.{◌≡◌, false}
use Rattle.std.specs.Ordering.{is_le}
use Rattle.pm_types.specs.Orders.{source_cmp}
use Rattle.pm_remset.proofs.Searches.{Left}
use Rattle.pm_remset.proofs.trees.SourceTrees.at_or_after.Given as goal

-- each source of a group that is not left is below this one
abbrev pub invariant-loop-name : goal.invariant-loop-name
invariant-loop-name l = Left l.self (λ source _. is_le (source_cmp l.from source) ≡ false) l._name-iterator
