use Rattle.pm_remset.proofs.Collects.{Collects}
use Rattle.pm_remset.proofs.trees.SourceTrees.of_slot.Given as goal

-- the sources of the groups so far were appended
abbrev pub invariant-loop-found : goal.invariant-loop-found
invariant-loop-found l = Collects l.self l.slot l.fn.out.items l.out.items l.found-iterator
