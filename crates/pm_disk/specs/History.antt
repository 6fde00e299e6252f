-- The moments of a disk in memory. Each call before which so many calls stood in the list is marked by their number.
use Rattle.std.specs.Prelude.{◌⊎◌, ℕ, ◌<◌, ◌≤◌, List, [], ◌∷◌, length, take, slice_index}
use Rattle.std.proofs.Common.{inl, inr, arith}
use Rattle.pm_disk.specs.Images.{IsBytes}
use Rattle.pm_disk.specs.Replay.{IsImageAfter}
use Rattle.pm_disk.specs.declared.call.DiskCall.{DiskCall}

-- at one of these past moments, the newest of which comes first, but not before t, a crash may have left this; the marks say which images there were
abbrev pub HadSince : (ℕ → List ℕ → Type 0) → List ℕ → ℕ → List ℕ → Type 0
HadSince images [] t image = ⊥
HadSince images (mark ∷ marks) t image = ((t ≤ length marks) × images mark image) ⊎ HadSince images marks t image

-- no mark is greater than n
abbrev pub IsMarked : List ℕ → ℕ → Type 0
IsMarked marks n = (i : ℕ) → slice_index marks i ≤ n

-- a crash now, or at one of the past moments from t on, may have left this
abbrev pub LeftSince : List ℕ → List ℕ → List DiskCall → List ℕ → ℕ → List ℕ → Type 0
LeftSince start fails calls marks t image = IsImageAfter start fails calls image ⊎ HadSince (λ mark. IsImageAfter start fails (take mark calls)) marks t image

-- such a moment is a past one
had_before : (images : ℕ → List ℕ → Type 0) (marks : List ℕ) (t : ℕ) (image : List ℕ) → HadSince images marks t image → t < length marks
had_before images [] t image had = absurd had
had_before images (mark ∷ marks) t image (inl here) = omega (arith, here.0)
had_before images (mark ∷ marks) t image (inr there) = omega (arith, had_before images marks t image there)

-- since this moment there is no other
pub left_now : (start fails : List ℕ) (calls : List DiskCall) (marks : List ℕ) (image : List ℕ) → LeftSince start fails calls marks (length marks) image → IsImageAfter start fails calls image
left_now start fails calls marks image (inl now) = now
left_now start fails calls marks image (inr had) = absurd (omega (arith, had_before (λ mark. IsImageAfter start fails (take mark calls)) marks (length marks) image had))

had_earlier : (images : ℕ → List ℕ → Type 0) (marks : List ℕ) (s t : ℕ) (image : List ℕ) → s ≤ t → HadSince images marks t image → HadSince images marks s image
had_earlier images [] s t image le had = had
had_earlier images (mark ∷ marks) s t image le (inl here) = inl (omega (arith, here.0), here.1)
had_earlier images (mark ∷ marks) s t image le (inr there) = inr (had_earlier images marks s t image le there)

-- the moments since a later one are among those since an earlier one
pub left_earlier : (start fails : List ℕ) (calls : List DiskCall) (marks : List ℕ) (s t : ℕ) (image : List ℕ) → s ≤ t → LeftSince start fails calls marks t image → LeftSince start fails calls marks s image
left_earlier start fails calls marks s t image le (inl now) = inl now
left_earlier start fails calls marks s t image le (inr had) = inr (had_earlier (λ mark. IsImageAfter start fails (take mark calls)) marks s t image le had)

had_bytes : (start fails : List ℕ) (calls : List DiskCall) (marks : List ℕ) (t : ℕ) (image : List ℕ) → HadSince (λ mark. IsImageAfter start fails (take mark calls)) marks t image → IsBytes image
had_bytes start fails calls [] t image had = absurd had
had_bytes start fails calls (mark ∷ marks) t image (inl here) = here.1.bytes
had_bytes start fails calls (mark ∷ marks) t image (inr there) = had_bytes start fails calls marks t image there

-- a crash leaves bytes
pub left_bytes : (start fails : List ℕ) (calls : List DiskCall) (marks : List ℕ) (t : ℕ) (image : List ℕ) → LeftSince start fails calls marks t image → IsBytes image
left_bytes start fails calls marks t image (inl now) = now.bytes
left_bytes start fails calls marks t image (inr had) = had_bytes start fails calls marks t image had
