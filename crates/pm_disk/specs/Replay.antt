-- What a list of calls made of a disk in memory.
use Rattle.std.specs.Prelude.{ℕ, ◌+◌, ◌/◌, ◌%◌, ◌^◌, ◌==◌, ◌&&◌, nat_lt, nat_eq, Bool, true, false, if◌then◌else◌, List, [], ◌∷◌, ◌++◌, length}
use Rattle.std.specs.List.{list_any}
use Rattle.pm_disk.specs.Images.{Range, IsImage}
use Rattle.pm_disk.specs.Writes.{written}
use Rattle.pm_disk.specs.declared.call.DiskCall.{DiskCall}
use Rattle.pm_disk.specs.declared.call.DiskCall.TheVariants.{Len, Read, Write, Sync}

-- a write that was made: its place and its bytes
abbrev pub Change : Type 0
Change = ℕ × List ℕ

-- what a disk in memory holds
pub record Held : Type 0 where
  pub contents : List ℕ
  -- the contents at the last successful sync
  pub synced : List ℕ
  -- what was written since then, by failed writes too, the newest first
  pub ranges : List Range
  -- the writes since then that were made, in their order
  pub changes : List Change

-- before the first call all of it is on the disk
abbrev pub fresh : List ℕ → Held
fresh start = record { contents = start; synced = start; ranges = []; changes = [] }

-- the number of a call is one of those that are to fail
abbrev pub is_listed : List ℕ → ℕ → Bool
is_listed fails number = list_any (λ listed. nat_eq listed number) fails

-- A call that fails changes no byte, and a failed write counts among the ranges. The first argument says whether it fails.
abbrev pub after : Bool → DiskCall → Held → Held
after fails Len held = held
after fails (Read at len) held = held
after true (Write at bytes) held = record held { ranges = (at, length bytes) ∷ held.ranges }
after false (Write at bytes) held =
    record { contents = written at bytes held.contents; synced = held.synced; ranges = (at, length bytes) ∷ held.ranges; changes = held.changes ++ (at, bytes) ∷ [] }
after true Sync held = held
after false Sync held = fresh held.contents

-- the calls one after another, of which the first has this number; those whose numbers are listed fail
abbrev pub replay : List ℕ → ℕ → List DiskCall → Held → Held
replay fails number [] held = held
replay fails number (call ∷ calls) held = replay fails (number + 1) calls (after (is_listed fails number) call held)

-- what a disk holds that began with these contents, after these calls, which are numbered from 1
abbrev pub held_after : List ℕ → List ℕ → List DiskCall → Held
held_after start fails calls = replay fails 1 calls (fresh start)

-- a crash after these calls may leave this
abbrev pub IsImageAfter : List ℕ → List ℕ → List DiskCall → List ℕ → Type 0
IsImageAfter start fails calls image = let held = held_after start fails calls in IsImage held.synced held.ranges image

-- bit i of the pick is 1; it has no bit from number 64 on
abbrev pub is_picked : ℕ → ℕ → Bool
is_picked pick i = nat_lt i 64 && (pick / 2 ^ i % 2 == 1)

-- these bytes after the changes that the pick keeps, of which the first has the number i
abbrev pub picked : ℕ → ℕ → List Change → List ℕ → List ℕ
picked pick i [] bytes = bytes
picked pick i (change ∷ changes) bytes = picked pick (i + 1) changes (if is_picked pick i then written change.0 change.1 bytes else bytes)
