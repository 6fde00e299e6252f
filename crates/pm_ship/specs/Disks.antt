-- What a ship from the store of one disk to that of another promises.
use Rattle.std.specs.Prelude.{◌≡◌, ◌⊎◌, ℕ, ◌+◌, ◌<◌, ◌≤◌, Bool, not, List, Option, Some, Ok, Err, IfOk, IfErr}
use Rattle.pm_types.specs.declared.fault.OpenFault.{OpenFault}
use Rattle.pm_types.specs.declared.fault.OpenFault.TheVariants.{NotAStore, Version, Damaged, Malformed}
use Rattle.pm_types.specs.declared.fault.OpenFault.TheVariants as unopened
use Rattle.pm_disk.specs.Disk.{IfTold, LeavesOnly}
use Rattle.pm_disk.specs.declared.disk.Disk.{Ghosts}
use Rattle.pm_disk.specs.Made.{MadeAtMost, MadeMore, with_sync}
use Rattle.pm_image.specs.Graphs.{images_of}
use Rattle.pm_image.specs.Opening.{is_open}
use Rattle.pm_image.specs.Stands.{Opened, StandsForCopy, copy_in, opened}
use Rattle.pm_shadow.specs.State.{other}
use Rattle.pm_save.specs.Progress.Answers.{TellsOn}
use Rattle.pm_ship.specs.declared.fault.Shipped.{Shipped}
use Rattle.pm_ship.specs.declared.fault.ShipFault.{ShipFault}
use Rattle.pm_ship.specs.declared.fault.ShipFault.TheVariants.{From, To, Ahead, Foreign, Disk, OtherDisk, Memory}
use Rattle.pm_ship.specs.declared.disks.ShipEnd.{ShipEnd}
use Rattle.pm_ship.specs.Counting.{IsCount}
use Rattle.pm_ship.specs.Offers.{AreSame, offer_in}
use Rattle.pm_ship.specs.Shipped.{GotIt, HadIt, HasShipCause, UnlessOther, UnlessStopped}

-- ---- what the disks held

-- the number of the copy that was found
abbrev pub number_in : Opened → ℕ
number_in found = found.current.header.epoch

-- bytes that stand for the copy that was found, under its number
abbrev pub StandsFor : Opened → List ℕ → Type 0
StandsFor found image = StandsForCopy image (number_in found) (copy_in found)

-- What opening finds in the bytes of the first store and in those of the standby.
pub record FindsBoth (bytes was : List ℕ) : Type 0 where
  pub theirs : Opened
  pub first : opened bytes ≡ Ok theirs
  pub mine : Opened
  pub standby : opened was ≡ Ok mine

-- opening finds a copy in the bytes, where a disk tells its contents
abbrev pub Finds : Option (List ℕ) → Type 0
Finds contents = IfTold contents (λ bytes. (found : Opened) × (opened bytes ≡ Ok found))

-- the gate of the slot beside the current header is closed
abbrev pub is_shut_beside : Opened → List ℕ → Bool
is_shut_beside found bytes = not (is_open bytes (other found.current.slot))

-- So many pages are to be written: the standby has an earlier copy, and lacks as many.
pub record NeedsPages (bytes was : List ℕ) (written : ℕ) : Type 0 where
  pub both : FindsBoth bytes was
  pub later : number_in both.mine < number_in both.theirs
  pub count : IsCount (images_of both.mine.graph.cars) (offer_in both.theirs) written

-- ---- why nothing was shipped

-- the fault is of a rule
abbrev pub IsOfRule : OpenFault → Type 0
IsOfRule NotAStore = Unit {0}
IsOfRule (Version version) = Unit {0}
IsOfRule (Damaged page kept found) = Unit {0}
IsOfRule (Malformed page at) = Unit {0}
IsOfRule (unopened.Disk before after) = ⊥
IsOfRule (unopened.Memory _) = ⊥

-- it is the first rule that these bytes break
pub record BreaksRule (bytes : List ℕ) (fault : OpenFault) : Type 0 where
  pub rule : IsOfRule fault
  pub first : opened bytes ≡ Err fault

-- the standby has a later copy
pub record IsAheadBetween (bytes was : List ℕ) (to from : ℕ) : Type 0 where
  pub both : FindsBoth bytes was
  pub to_is : to ≡ number_in both.mine
  pub from_is : from ≡ number_in both.theirs
  pub ahead : from < to

-- it has another copy under the same number
pub record IsForeignBetween (bytes was : List ℕ) (number : ℕ) : Type 0 where
  pub both : FindsBoth bytes was
  pub number_is : number ≡ number_in both.mine
  pub equal : number_in both.mine ≡ number_in both.theirs
  pub other : AreSame (offer_in both.theirs) (offer_in both.mine) → ⊥

-- why nothing was shipped, by these bytes of the first store and those of the standby
abbrev pub IsFaultBetween : List ℕ → List ℕ → ShipFault → Type 0
IsFaultBetween bytes was (From fault) = BreaksRule bytes fault
IsFaultBetween bytes was (To fault) = ((theirs : Opened) × (opened bytes ≡ Ok theirs)) × BreaksRule was fault
IsFaultBetween bytes was (Ahead to from) = IsAheadBetween bytes was to from
IsFaultBetween bytes was (Foreign number) = IsForeignBetween bytes was number
IsFaultBetween bytes was (Disk before after) = Unit {0}
IsFaultBetween bytes was (OtherDisk before after) = Unit {0}
IsFaultBetween bytes was (Memory _) = Unit {0}

-- a store is refused by a rule of its bytes: a disk that fails and want of memory are faults of their own
abbrev pub NamesRule : ShipFault → Type 0
NamesRule (From fault) = IsOfRule fault
NamesRule (To fault) = IsOfRule fault
NamesRule (Ahead to from) = Unit {0}
NamesRule (Foreign number) = Unit {0}
NamesRule (Disk before after) = Unit {0}
NamesRule (OtherDisk before after) = Unit {0}
NamesRule (Memory _) = Unit {0}

-- ---- what was shipped

-- The standby has the first store's copy now, and every image stands for it; and it had it, or got it.
pub record ShipsBetween (bytes was now : List ℕ) (images : List ℕ → Type 0) (shipped : Shipped) : Type 0 where
  pub both : FindsBoth bytes was
  pub epoch : shipped.epoch ≡ number_in both.theirs
  pub stands : (image : List ℕ) → images image → StandsFor both.theirs image
  pub way : HadIt (offer_in both.theirs) both.mine was now shipped.written
      ⊎ GotIt (offer_in both.theirs) both.mine (is_shut_beside both.mine was) was now shipped.written

module _ {D : Type 0} (d : Ghosts D) where
  -- It was synced at most, and read then.
  pub record OnlyReads (before after : D) : Type 0 where
    pub told : d.contents after ≡ d.contents before
    pub leaves : LeavesOnly d.moment d.since before after (d.image before)
    pub made : (after ≡ before) ⊎ (d.made after ≡ with_sync (d.moment before) (d.made before))

  -- So many pages were written and a header, whose other gate was closed before where it was open.
  pub record Writes (written : ℕ) (before after : D) : Type 0 where
    pub shut : ℕ
    pub most : shut ≤ 1
    pub made : MadeMore (written + (shut + 2)) (shut + 3) 0 (d.made before) (d.made after)

module _ {D E : Type 0} (d : Ghosts D) (e : Ghosts E) where
  -- No more calls were made than where so many pages are written and a header, and no read past the end. Where both disks
  -- tell their contents, so many are to be written.
  pub record WritesNoMore (disk : D) (before after : E) : Type 0 where
    pub written : ℕ
    pub needs : (bytes was : List ℕ) → d.contents disk ≡ Some bytes → e.contents before ≡ Some was → NeedsPages bytes was written
    pub shut : ℕ
    pub few : shut ≤ 1
    pub made : MadeAtMost (written + (shut + 2)) (shut + 3) (e.made before) (e.made after)

  -- what a ship does to both disks, and what it answers
  pub record ShipsDisks (disk : D) (other : E) (end : ShipEnd D E) : Type 0 where
    pub shipped : (bytes was now : List ℕ) → d.contents disk ≡ Some bytes → e.contents other ≡ Some was → e.contents end.other ≡ Some now
        → IfOk end.shipped (ShipsBetween bytes was now (e.image end.other))
    pub fault : (bytes was : List ℕ) → d.contents disk ≡ Some bytes → e.contents other ≡ Some was → IfErr end.shipped (IsFaultBetween bytes was)
    pub rule : IfErr end.shipped NamesRule
    -- at every moment an image of the standby is what a crash might have left at the start, or stands for the copy that it
    -- had, or for the first store's
    pub images : (bytes was : List ℕ) → d.contents disk ≡ Some bytes → e.contents other ≡ Some was → (both : FindsBoth bytes was)
        → LeavesOnly e.moment e.since other end.other (λ image. e.image other image ⊎ (StandsFor both.mine image ⊎ StandsFor both.theirs image))
    -- where it was refused, or the first disk failed, it was only read; and where memory ran out it has the copy that it had
    pub still : IfErr end.shipped (λ fault. UnlessStopped fault (OnlyReads e other end.other))
    pub spares : (was : List ℕ) → e.contents other ≡ Some was → (mine : Opened) → opened was ≡ Ok mine
        → IfErr end.shipped (λ fault. UnlessOther fault (LeavesOnly e.moment e.since other end.other (λ image. e.image other image ⊎ StandsFor mine image)))
    -- of any disk: it was only read, or so many pages were written, and a header
    pub made : IfOk end.shipped (λ shipped. ((shipped.written ≡ 0) × OnlyReads e other end.other) ⊎ Writes e shipped.written other end.other)
    -- whatever is answered, no more calls were made than that
    pub most : OnlyReads e other end.other ⊎ WritesNoMore disk other end.other
    -- unless both contents stand for copies, the standby's stay, and each image since the start is one of the start
    pub spoils : (Finds (d.contents disk) × Finds (e.contents other) → ⊥)
        → (e.contents end.other ≡ e.contents other) × LeavesOnly e.moment e.since other end.other (e.image other)
    pub told : TellsOn (e.contents other) (e.contents end.other)
    -- the first store's disk was only read
    pub first : OnlyReads d disk end.disk
    pub cause : HasShipCause (d.count disk) (d.count end.disk) (e.count other) (e.count end.other) end.shipped
