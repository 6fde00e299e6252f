use Rattle.std.proofs.Common.{false, drop}
use Rattle.pm_remset.proofs.Nexts.{Searched}
use Rattle.pm_remset.proofs.list.SourceList.next_where.Given as goal

-- the test failed at each entry that is not left
abbrev pub invariant-loop-entry : goal.invariant-loop-entry
invariant-loop-entry g l = Searched l.self (λ source slot. g.P.Fn.post l.pass (source, (slot, tt)) false) (drop l.entry-index l.entry-items)
