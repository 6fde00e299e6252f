use Rattle.std.proofs.Common.{◌≡◌}
use Rattle.std.specs.List.{fold}
use Rattle.pm_remset.specs.Gathered.{with_told, gathered}
use Rattle.pm_remset.proofs.trees.SourceTrees.of_told.Given as goal

-- told of the rest, the set is what it was to be
abbrev pub invariant-loop-entry : goal.invariant-loop-entry
invariant-loop-entry l = fold with_told l.set l.entry-iterator.rest.items ≡ gathered l.fn.told.items
