-- What contracts see of a disk in memory.
use Rattle.std.specs.Prelude.{◌≡◌, ◌⊎◌, ℕ, ◌+◌, Bool, true, false, List, [], ◌∷◌, ◌++◌, length, Result, MatchResult}
use Rattle.pm_disk.specs.Disk.{IsCounted}
use Rattle.pm_disk.specs.Images.{IsImage}
use Rattle.pm_disk.specs.Replay.{Held, held_after, is_listed}
use Rattle.pm_disk.specs.Made.{Made, made_in, numbers}
use Rattle.pm_disk.specs.History.{LeftSince}
use Rattle.pm_disk.specs.declared.call.DiskCall.{DiskCall}
use Rattle.pm_disk.specs.declared.mem_disk.MemDisk.{MemDisk}

-- the contents that it began with
abbrev pub start_of : MemDisk → List ℕ
start_of disk = disk.start.items

-- the numbers of the calls that are to fail
abbrev pub fails_of : MemDisk → List ℕ
fails_of disk = disk.fails.items

-- the calls so far, in their order
abbrev pub calls_of : MemDisk → List DiskCall
calls_of disk = disk.calls.items

-- how many calls were refused memory; it stays at its end, and has risen all the same
abbrev pub refused_of : MemDisk → ℕ
refused_of disk = disk.refused

-- what the calls made of it
abbrev pub held_of : MemDisk → Held
held_of disk = held_after (start_of disk) (fails_of disk) (calls_of disk)

-- its contents, which it tells
abbrev pub contents_of : MemDisk → List ℕ
contents_of disk = (held_of disk).contents

-- a crash at this moment may leave this
abbrev pub MayLeave : MemDisk → List ℕ → Type 0
MayLeave disk = let held = held_of disk in IsImage held.synced held.ranges

-- the number of its calls, of which those that were refused memory are some
abbrev pub moment_of : MemDisk → ℕ
moment_of disk = length (numbers disk.moments.marks)

-- a crash at some moment from that one on may have left this
abbrev pub MayHaveLeft : MemDisk → ℕ → List ℕ → Type 0
MayHaveLeft disk = LeftSince (start_of disk) (fails_of disk) (calls_of disk) (numbers disk.moments.marks)

-- how many syncs, writes and reads past the end were made, whatever they answered
abbrev pub made_of : MemDisk → Made
made_of disk = made_in disk.moments.marks

-- how many calls have failed
abbrev pub count_of : MemDisk → ℕ
count_of disk = disk.faults

-- the next call is one of those that are to fail
abbrev pub fails_next : MemDisk → Bool
fails_next disk = is_listed (fails_of disk) (length (calls_of disk) + 1)

-- the call was refused memory: it is in no list, and has no number
pub record WasRefused (old new : MemDisk) : Type 0 where
  pub refused : IsCounted (refused_of old) (refused_of new)
  pub calls : calls_of new ≡ calls_of old

-- the call is the next of the list
pub record WasNoted (call : DiskCall) (old new : MemDisk) : Type 0 where
  pub refused : refused_of new ≡ refused_of old
  pub calls : calls_of new ≡ calls_of old ++ call ∷ []

-- it failed exactly where it was to fail, or where it was refused memory; what it began with stays
pub record Answers {T E : Type 0} (fails : Bool) (call : DiskCall) (old new : MemDisk) (result : Result T E) : Type 0 where
  pub start : start_of new ≡ start_of old
  pub fails_stay : fails_of new ≡ fails_of old
  pub answer : MatchResult result (λ _. (fails ≡ false) × WasNoted call old new) (λ _. WasRefused old new ⊎ ((fails ≡ true) × WasNoted call old new))
