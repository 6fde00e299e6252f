use Rattle.std.proofs.Common.{false}
use Rattle.pm_remset.proofs.Searches.{Left}
use Rattle.pm_remset.proofs.trees.SourceTrees.next_where.Given as goal

-- the test failed in each group that is not left
abbrev pub invariant-loop-name : goal.invariant-loop-name
invariant-loop-name g l = Left l.self (λ source slot. g.P.Fn.post l.pass (source, (slot, tt)) false) l._name-iterator
