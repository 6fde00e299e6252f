use Rattle.std.proofs.Common.{length}
use Rattle.pm_remset.specs.Gathered.{gathered}
use Rattle.pm_remset.proofs.Added.{IsOver}
use Rattle.pm_remset.proofs.list.SourceList.of_told.Given as goal

-- what the list says, and what is left is told where it says nothing
abbrev pub invariant-loop-entry : goal.invariant-loop-entry
invariant-loop-entry l = IsOver l.list (gathered l.told.items) (gathered l.fn.told.items)

abbrev pub decreases-loop-entry : goal.decreases-loop-entry
decreases-loop-entry l = length l.told.items
