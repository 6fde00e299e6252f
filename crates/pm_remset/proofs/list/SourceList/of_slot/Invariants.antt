use Rattle.std.proofs.Common.{drop}
use Rattle.pm_remset.proofs.Lists.{Gathers}
use Rattle.pm_remset.proofs.list.SourceList.of_slot.Given as goal

-- the sources so far were appended
abbrev pub invariant-loop-entry : goal.invariant-loop-entry
invariant-loop-entry l = Gathers l.slot l.fn.out.items l.out.items l.entry-items (drop l.entry-index l.entry-items)
