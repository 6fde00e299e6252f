-- What is true of a disk in memory after any calls.
use Rattle.std.specs.Prelude.{ℕ, ◌+◌, ◌^◌, nat_lt, Bool, true, List, length, Option, Some, None, Vec, IsTrue}
use Rattle.std.specs.List.{list_all}
use Rattle.std.specs.declared.alloc.Global.{Global}
use Rattle.pm_disk.specs.Images.{IsBytes, IsImage}
use Rattle.pm_disk.specs.Replay.{Held, picked}
use Rattle.pm_disk.specs.declared.call.DiskCall.{DiskCall}
use Rattle.pm_disk.specs.declared.call.DiskCall.TheVariants.{Len, Read, Write, Sync}

-- a crash may leave what a read answers, and what any pick of the writes leaves
pub record IsSound (held : Held) : Type 0 where
  pub synced : IsBytes held.synced
  pub contents : IsImage held.synced held.ranges held.contents
  pub each_pick : (pick : ℕ) → IsImage held.synced held.ranges (picked pick 0 held.changes held.synced)

-- the end of a write is a place that a file may have
abbrev pub is_placed : DiskCall → Bool
is_placed Len = true
is_placed (Read at len) = true
is_placed (Write at bytes) = nat_lt (at + length bytes) (2 ^ 63)
is_placed Sync = true

-- the end of each write is such a place
abbrev pub ArePlaced : List DiskCall → Type 0
ArePlaced calls = IsTrue (list_all is_placed calls)

-- the contents of a disk that keeps its first contents, and others once a write was made
abbrev pub shown : List ℕ → Option (Vec ℕ Global) → List ℕ
shown start None = start
shown start (Some bytes) = bytes.items
