use Rattle.std.proofs.Common.{◌≡◌, length, take}
use Rattle.pm_view.specs.Watches.{lines_from}
use Rattle.pm_space.specs.Shown.{view}
use Rattle.pm_reclaim.proofs.watch.tell_watches.Given as goal

abbrev pub invariant-loop-watch : goal.invariant-loop-watch
invariant-loop-watch g l = (l.number ≡ l.watch-index) × (length l.lines.items ≡ l.watch-index) × (l.lines.items ≡ lines_from (view l.space.parts) 1 (take l.watch-index l.watches))
