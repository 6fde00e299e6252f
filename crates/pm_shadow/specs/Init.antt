-- How a store is made, and why none is.
use Rattle.std.specs.Prelude.{◌≡◌, ℕ, ◌+◌, ◌*◌, ◌<◌, List, length, Option, Some}
use Rattle.pm_types.specs.Counts.{ShowsRise}
use Rattle.pm_types.specs.declared.limits.TheConstants.{PAGE_BYTES}
use Rattle.pm_disk.specs.declared.disk.Disk.{Ghosts}
use Rattle.pm_disk.specs.Disk.{IfTold, LeavesOnly, SameImages}
use Rattle.pm_disk.specs.Made.{MadeMore}
use Rattle.pm_disk.specs.Writes.{Torn}
use Rattle.pm_image.specs.Blank.{blank_store}
use Rattle.pm_image.specs.Opening.{gate_place}
use Rattle.pm_shadow.specs.Images.{with_gate}
use Rattle.pm_shadow.specs.Runs.{IsCut}
use Rattle.pm_types.specs.declared.fault.InitFault.{InitFault}
use Rattle.pm_types.specs.declared.fault.InitFault.TheVariants.{NotEmpty, Disk, Memory}

-- The disk holds so many bytes; or it failed and its count rose, and comes with the count before and after; or
-- memory ran out.
abbrev pub IsInitFault : ℕ → ℕ → InitFault → Type 0
IsInitFault before after (NotEmpty n) = (0 < n) × (after ≡ before)
IsInitFault before after (Disk b a) = ShowsRise b a before after
IsInitFault before after (Memory _) = after ≡ before

-- the disk was not empty exactly where it is said to be so, and holds so many bytes
abbrev pub IsInitFaultOf : List ℕ → InitFault → Type 0
IsInitFaultOf bytes (NotEmpty n) = n ≡ length bytes
IsInitFaultOf bytes (Disk b a) = Unit {0}
IsInitFaultOf bytes (Memory _) = length bytes ≡ 0

-- P holds, unless the disk failed
abbrev pub UnlessFailed : InitFault → Type 0 → Type 0
UnlessFailed (NotEmpty n) P = P
UnlessFailed (Disk b a) P = Unit {0}
UnlessFailed (Memory _) P = P

-- where some byte was told, the contents are those that were told, and a crash leaves what it might have left before
abbrev pub KeepsBytes : Option (List ℕ) → Option (List ℕ) → (List ℕ → Type 0) → (List ℕ → Type 0) → Type 0
KeepsBytes told now old new = IfTold told (λ bytes. 0 < length bytes → (now ≡ told) × SameImages old new)

-- the three pages of a new store while no gate is open yet
abbrev pub shut_store : List ℕ
shut_store = with_gate 0 0 blank_store

module _ {D : Type 0} (d : Ghosts D) where
  -- The gate of a store is written last: first came three writes and a sync, after which the disk held the pages with
  -- their gates closed, and a crash left nothing else; from then on a crash leaves these pages, but for that gate.
  pub record OpensLast (pages : List ℕ) (old mid new : D) : Type 0 where
    pub made : MadeMore 3 1 0 (d.made old) (d.made mid)
    pub shut : d.contents mid ≡ Some pages
    pub synced : (left : List ℕ) → d.image mid left → left ≡ pages
    pub before : LeavesOnly d.moment d.since old mid (IsCut 0 (3 * PAGE_BYTES) (d.image old))
    pub behind : LeavesOnly d.moment d.since mid new (Torn (gate_place 0) 1 pages)

  -- A crash at any moment leaves what it might have left before, with any bytes on the three pages, since a write that is
  -- cut short may leave any. But a fourth write, that of the gate, is made only behind the sync of the others.
  pub record MakesInOrder (pages : List ℕ) (old new : D) : Type 0 where
    pub within : LeavesOnly d.moment d.since old new (IsCut 0 (3 * PAGE_BYTES) (d.image old))
    pub last : (d.made new).writes ≡ (d.made old).writes + 4 → (mid : D) × OpensLast pages old mid new
