use Rattle.std.proofs.Common.{◌≡◌, take}
use Rattle.pm_remset.proofs.list.SourceList.to_trees.Given as goal

-- the entries so far
abbrev pub invariant-loop-entry : goal.invariant-loop-entry
invariant-loop-entry l = l.told.items ≡ take l.entry-index l.entry-items
