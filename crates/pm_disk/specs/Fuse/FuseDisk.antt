-- What contracts see of a disk with a fuse.
use Rattle.std.specs.Prelude.{◌≡◌, ℕ, ◌+◌, ◌-◌, ◌<◌, min, List, ◌∷◌, length, Option, Result, IsErr}
use Rattle.pm_disk.specs.Disk.{IsCounted, HasCause}
use Rattle.pm_disk.specs.Made.{Made}
use Rattle.pm_disk.specs.Fuse.Missed.{with_all_missed}
use Rattle.pm_disk.specs.declared.fuse.missed.Missed.{Missed}
use Rattle.pm_disk.specs.declared.fuse.fuse_disk.FuseDisk.{FuseDisk}

-- the disk that calls are passed on to
abbrev pub inner_of : {D : Type 0} → FuseDisk D → D
inner_of disk = disk.inner

-- how many calls more are passed on
abbrev pub left_of : {D : Type 0} → FuseDisk D → ℕ
left_of disk = disk.left

-- the calls that were not passed on, the newest first
abbrev pub missed_of : {D : Type 0} → FuseDisk D → List Missed
missed_of disk = disk.missed.marks

-- how many calls have failed, here or at the inner disk
abbrev pub count_of : {D : Type 0} → FuseDisk D → ℕ
count_of disk = disk.faults

-- the clock: the inner one, and one tick for each call that was not passed on
abbrev pub moment_of : {D : Type 0} → (D → ℕ) → FuseDisk D → ℕ
moment_of moment disk = moment (inner_of disk) + length (missed_of disk)

-- a crash at some moment from that one on may have left this; since the inner clock stands still, that has been one moment of the inner disk
abbrev pub MayHaveLeft : {D : Type 0} → (D → ℕ) → (D → ℕ → List ℕ → Type 0) → FuseDisk D → ℕ → List ℕ → Type 0
MayHaveLeft moment since disk t = since (inner_of disk) (min t (moment (inner_of disk)))

-- how many syncs, writes and reads past the end were made, whatever they answered
abbrev pub made_of : {D : Type 0} → (D → Option (List ℕ)) → (D → ℕ) → (D → Made) → FuseDisk D → Made
made_of contents moment made disk = with_all_missed (contents (inner_of disk)) (moment (inner_of disk)) (missed_of disk) (made (inner_of disk))

-- a call that is passed on is not noted, and one that is not is counted and noted
pub record IsSpent {D : Type 0} (call : Missed) (old new : FuseDisk D) : Type 0 where
  pub passed : 0 < left_of old → (count_of new ≡ count_of old) × (missed_of new ≡ missed_of old)
  pub failed : left_of old ≡ 0 → IsCounted (count_of old) (count_of new) × (missed_of new ≡ call ∷ missed_of old)

-- the call failed, and left the inner disk as it was
pub record Misses {D T E : Type 0} (call : Missed) (old new : FuseDisk D) (result : Result T E) : Type 0 where
  pub err : IsErr result
  pub inner : inner_of new ≡ inner_of old
  pub missed : missed_of new ≡ call ∷ missed_of old

-- the call reached the inner disk, which failed or did not, as its own count says
pub record Reaches {D T E : Type 0} (moment count : D → ℕ) (old new : FuseDisk D) (result : Result T E) : Type 0 where
  pub later : moment (inner_of old) < moment (inner_of new)
  pub cause : HasCause (count (inner_of old)) (count (inner_of new)) result
  pub missed : missed_of new ≡ missed_of old

-- the call reached the inner disk exactly where the fuse still passed calls on, and passes one less from then on
pub record Answers {D T E : Type 0} (moment count : D → ℕ) (call : Missed) (old new : FuseDisk D) (result : Result T E) : Type 0 where
  pub left : left_of new ≡ left_of old - 1
  pub passed : 0 < left_of old → Reaches moment count old new result
  pub failed : left_of old ≡ 0 → Misses call old new result
