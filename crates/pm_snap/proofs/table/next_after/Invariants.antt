use Rattle.std.proofs.Common.{◌≡◌, ℕ, ◌<◌, ◌≤◌, true, is_some}
use Rattle.std.specs.FinMap.{get}
use Rattle.pm_snap.proofs.table.next_after.Given as goal

-- the keys up to this one are used
abbrev pub invariant-loop-below : goal.invariant-loop-below
invariant-loop-below g l = (k : ℕ) → l.fn.next < k → k ≤ l.below → is_some (get l.fn.values k) ≡ true
