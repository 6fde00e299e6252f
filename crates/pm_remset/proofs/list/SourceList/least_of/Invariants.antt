use Rattle.std.proofs.Common.{◌≡◌, ◌==◌, false, drop}
use Rattle.pm_remset.proofs.Nexts.{Searched}
use Rattle.pm_remset.proofs.list.SourceList.least_of.Given as goal

-- each entry that was looked at names another slot
abbrev pub invariant-loop-entry : goal.invariant-loop-entry
invariant-loop-entry l = Searched l.self (λ _ named. (named == l.slot) ≡ false) (drop l.entry-index l.entry-items)
