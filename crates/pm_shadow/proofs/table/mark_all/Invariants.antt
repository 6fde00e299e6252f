use Rattle.std.proofs.Common.{◌≡◌, drop, length}
use Rattle.pm_shadow.specs.Uses.{marked}
use Rattle.pm_shadow.proofs.table.mark_all.Given as goal

abbrev pub invariant-loop-page : goal.invariant-loop-page
invariant-loop-page l = record { marked_so : marked (drop l.page-index l.pages) l.uses.items ≡ marked l.pages l.initial.uses.items; len : length l.uses.items ≡ length l.initial.uses.items }
