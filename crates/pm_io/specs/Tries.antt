-- How the calls of a stream below a source or a sink count, and why a fault is counted for them.
use Rattle.std.specs.Prelude.{◌≡◌, ◌⊎◌, ℕ, ◌+◌, ◌≤◌, Option, Some, None}
use Rattle.pm_types.specs.Counts.{greatest_count}

-- what a stream tells of its calls: how many failed, and how many were interrupted, which may be tried again
pub record Tries : Type 0 where
  pub failed : ℕ
  pub interrupted : ℕ

-- one call more failed
abbrev pub failed_once : Tries → Tries
failed_once before = record before { failed = before.failed + 1 }

-- so many calls more were interrupted
abbrev pub interrupted_more : ℕ → Tries → Tries
interrupted_more many before = record before { interrupted = before.interrupted + many }

-- Where it is told, no call failed; calls may have been interrupted.
abbrev pub NoneFailed : Option Tries → Option Tries → Type 0
NoneFailed None after = Unit {0}
NoneFailed (Some before) None = ⊥
NoneFailed (Some before) (Some after) = (after.failed ≡ before.failed) × (before.interrupted ≤ after.interrupted)

-- Where it is told, a fault has its cause: one call failed, or as many were interrupted as a count has numbers.
abbrev pub ShowsFault : Option Tries → Option Tries → Type 0
ShowsFault None after = Unit {0}
ShowsFault (Some before) None = ⊥
ShowsFault (Some before) (Some after) = (after.failed ≡ before.failed + 1) ⊎ (before.interrupted + greatest_count ≤ after.interrupted)
