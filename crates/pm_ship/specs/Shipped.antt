-- What a ship promises.
use Rattle.std.specs.Prelude.{◌≡◌, ◌⊎◌, ℕ, ◌<◌, ◌≤◌, Bool, false, List, Option, Some, Result, MatchResult, IfErr}
use Rattle.pm_types.specs.Memory.{no_memory}
use Rattle.pm_types.specs.Counts.{ShowsRise}
use Rattle.pm_types.specs.declared.fault.OpenFault.{OpenFault}
use Rattle.pm_types.specs.declared.fault.OpenFault.TheVariants.{NotAStore, Version, Damaged, Malformed}
use Rattle.pm_types.specs.declared.fault.OpenFault.TheVariants as unopened
use Rattle.pm_disk.specs.Disk.{IfTold, LeavesOnly}
use Rattle.pm_disk.specs.declared.disk.Disk.{Ghosts}
use Rattle.pm_model.specs.World.{Copy}
use Rattle.pm_image.specs.declared.settled.KeptPage.{KeptPage}
use Rattle.pm_image.specs.Graphs.{Graph, images_of, used_pages}
use Rattle.pm_image.specs.Stands.{Opened, StandsForCopy}
use Rattle.pm_shadow.specs.State.{State}
use Rattle.pm_shadow.specs.Copies.{current_graph}
use Rattle.pm_shadow.specs.Pages.{disk_of, state}
use Rattle.pm_shadow.specs.declared.pages.Pages.{Pages}
use Rattle.pm_graphs.specs.Reopening.{IsGraphFault}
use Rattle.pm_reopen.specs.Opening.{IsUnopened}
use Rattle.pm_saving.specs.Tied.{HasCopy}
use Rattle.pm_save.specs.declared.progress.fault.SaveFault.{SaveFault}
use Rattle.pm_save.specs.declared.progress.fault.SaveFault.TheVariants as saving
use Rattle.pm_save.specs.Progress.Answers.{TellsOn}
use Rattle.pm_ship.specs.declared.fault.Shipped.{Shipped}
use Rattle.pm_ship.specs.declared.fault.ShipFault.{ShipFault}
use Rattle.pm_ship.specs.declared.fault.ShipFault.TheVariants.{From, To, Ahead, Foreign, Disk, OtherDisk, Memory}
use Rattle.pm_ship.specs.Counting.{IsCount}
use Rattle.pm_ship.specs.Offers.{AreSame, IsFound, IsOffered, Offer, offer_in, offer_of}
use Rattle.pm_ship.specs.Stores.{IsReady, IsRefusedSo, IsStill}
use Rattle.pm_ship.specs.Written.{AreLowestBeside, ChangesFew, HasOffered, IsLaidOn, LeavesEitherOf, MakesPages, SparesCopy, WritesAtMost}

-- ---- Ok

-- the standby had what is offered, under the same number: nothing was written
pub record HadIt (offer : Offer) (mine : Opened) (was now : List ℕ) (written : ℕ) : Type 0 where
  pub equal : mine.current.header.epoch ≡ offer.epoch
  pub same : AreSame offer (offer_in mine)
  pub none : written ≡ 0
  pub still : now ≡ was

-- It had an earlier copy: those pages were written that it lacked, beside that copy, and a header. The gate of the other
-- slot was closed before, or was not.
pub record GotIt (offer : Offer) (mine : Opened) (closed : Bool) (was now : List ℕ) (written : ℕ) : Type 0 where
  pub later : mine.current.header.epoch < offer.epoch
  pub count : IsCount (images_of mine.graph.cars) offer written
  pub changes : ChangesFew mine was now written
  -- the pages are the lowest that the standby's copy does not use, in this order
  pub lowest : AreLowestBeside (used_pages mine.graph) changes.pages
  -- and the bytes are those before with what is offered on them
  pub laid : IsLaidOn offer mine closed changes.pages was now

-- The one or the other, where this graph is what opening found in the bytes before.
pub record Ships (offer : Offer) (s : State) (was now : List ℕ) (written : ℕ) : Type 0 where
  pub mine : Graph
  pub found : IsFound s was mine
  pub way : HadIt offer (current_graph s mine) was now written ⊎ GotIt offer (current_graph s mine) s.closed was now written

module _ {E : Type 0} {e : Ghosts E} where
  -- What is offered is the standby's copy now.
  pub record IsShipped (offer : Offer) (before after : Pages E e) (shipped : Shipped) : Type 0 where
    pub epoch : shipped.epoch ≡ offer.epoch
    pub has : HasOffered offer before after
    pub ships : IfTold (e.contents (disk_of before)) (λ was. IfTold (e.contents (disk_of after)) (λ now. Ships offer (state before) was now shipped.written))
    -- on any disk: at equal numbers nothing was written, and else as many pages as are told, and a header
    pub behind : (state before).header.epoch ≤ offer.epoch
    pub again : (state before).header.epoch ≡ offer.epoch → (shipped.written ≡ 0) × IsStill before after
    pub made : (state before).header.epoch < offer.epoch → MakesPages shipped.written before after

-- ---- faults

-- the standby is ahead by these numbers
pub record IsAhead (offer : Offer) (s : State) (to from : ℕ) : Type 0 where
  pub to_is : to ≡ s.header.epoch
  pub from_is : from ≡ offer.epoch
  pub ahead : from < to

-- it has another copy under the same number
pub record IsForeign (offer : Offer) (s : State) (contents : Option (List ℕ)) (number : ℕ) : Type 0 where
  pub number_is : number ≡ s.header.epoch
  pub equal : s.header.epoch ≡ offer.epoch
  pub other : IfTold contents (λ bytes. (mine : Graph) × IsFound s bytes mine × (AreSame offer (offer_of s.header mine) → ⊥))

-- what opening finds in the standby's bytes is some graph
abbrev pub IsOpened : State → Option (List ℕ) → Type 0
IsOpened s contents = IfTold contents (λ bytes. (mine : Graph) × IsFound s bytes mine)

-- why nothing was shipped of what is offered, to a standby of these pages
abbrev pub IsStandbyFault : Offer → State → Option (List ℕ) → ShipFault → Type 0
IsStandbyFault offer s contents (From fault) = ⊥
IsStandbyFault offer s contents (To fault) = IsRefusedSo s contents fault
IsStandbyFault offer s contents (Ahead to from) = IsAhead offer s to from × IsOpened s contents
IsStandbyFault offer s contents (Foreign number) = IsForeign offer s contents number
IsStandbyFault offer s contents (Disk before after) = ⊥
IsStandbyFault offer s contents (OtherDisk before after) = Unit {0}
IsStandbyFault offer s contents (Memory _) = Unit {0}

-- the disk failed
abbrev pub IsOfDisk : OpenFault → Type 0
IsOfDisk NotAStore = ⊥
IsOfDisk (Version version) = ⊥
IsOfDisk (Damaged page kept found) = ⊥
IsOfDisk (Malformed page at) = ⊥
IsOfDisk (unopened.Disk before after) = Unit {0}
IsOfDisk (unopened.Memory _) = ⊥

-- what a fault of the pages of a standby is for a ship
abbrev pub standby_fault : OpenFault → ShipFault
standby_fault NotAStore = To NotAStore
standby_fault (Version version) = To (Version version)
standby_fault (Damaged page kept found) = To (Damaged page kept found)
standby_fault (Malformed page at) = To (Malformed page at)
standby_fault (unopened.Disk before after) = OtherDisk before after
standby_fault (unopened.Memory _) = Memory no_memory

-- and one of the first store
abbrev pub first_fault : OpenFault → ShipFault
first_fault NotAStore = From NotAStore
first_fault (Version version) = From (Version version)
first_fault (Damaged page kept found) = From (Damaged page kept found)
first_fault (Malformed page at) = From (Malformed page at)
first_fault (unopened.Disk before after) = Disk before after
first_fault (unopened.Memory _) = Memory no_memory

-- the count of the standby's disk stands still, or rose as is told
abbrev pub IsStandbyCause : ℕ → ℕ → ShipFault → Type 0
IsStandbyCause before after (From fault) = after ≡ before
IsStandbyCause before after (To fault) = after ≡ before
IsStandbyCause before after (Ahead to from) = after ≡ before
IsStandbyCause before after (Foreign number) = after ≡ before
IsStandbyCause before after (Disk b a) = after ≡ before
IsStandbyCause before after (OtherDisk b a) = ShowsRise b a before after
IsStandbyCause before after (Memory _) = after ≡ before

-- that of the first store's disk does
abbrev pub IsFirstCause : ℕ → ℕ → ShipFault → Type 0
IsFirstCause before after (From fault) = after ≡ before
IsFirstCause before after (To fault) = after ≡ before
IsFirstCause before after (Ahead to from) = after ≡ before
IsFirstCause before after (Foreign number) = after ≡ before
IsFirstCause before after (Disk b a) = ShowsRise b a before after
IsFirstCause before after (OtherDisk b a) = after ≡ before
IsFirstCause before after (Memory _) = after ≡ before

-- The counts of the first store's disk and of the standby's: both stand still at Ok, and at a fault but for that of the
-- disk that failed.
pub record HasShipCause (first_before first_after before after : ℕ) (result : Result Shipped ShipFault) : Type 0 where
  pub first : MatchResult result (λ _. first_after ≡ first_before) (IsFirstCause first_before first_after)
  pub standby : MatchResult result (λ _. after ≡ before) (IsStandbyCause before after)

-- writing stops only where the standby's disk failed or memory ran out
abbrev pub IsWritingFault : ShipFault → Type 0
IsWritingFault (From fault) = ⊥
IsWritingFault (To fault) = ⊥
IsWritingFault (Ahead to from) = ⊥
IsWritingFault (Foreign number) = ⊥
IsWritingFault (Disk before after) = ⊥
IsWritingFault (OtherDisk before after) = Unit {0}
IsWritingFault (Memory _) = Unit {0}

-- P holds, unless the standby's disk failed
abbrev pub UnlessOther : ShipFault → Type 0 → Type 0
UnlessOther (From fault) P = P
UnlessOther (To fault) P = P
UnlessOther (Ahead to from) P = P
UnlessOther (Foreign number) P = P
UnlessOther (Disk before after) P = P
UnlessOther (OtherDisk before after) P = Unit {0}
UnlessOther (Memory _) P = P

-- P holds, unless the standby's disk failed or memory ran out
abbrev pub UnlessStopped : ShipFault → Type 0 → Type 0
UnlessStopped (From fault) P = P
UnlessStopped (To fault) P = P
UnlessStopped (Ahead to from) P = P
UnlessStopped (Foreign number) P = P
UnlessStopped (Disk before after) P = P
UnlessStopped (OtherDisk before after) P = Unit {0}
UnlessStopped (Memory _) P = Unit {0}

-- P holds, unless the standby's disk failed
abbrev pub UnlessFails : Result Shipped ShipFault → Type 0 → Type 0
UnlessFails result P = MatchResult result (λ _. P) (λ fault. UnlessOther fault P)

-- what a fault of saving the copy is for a ship, with these counts before and after
abbrev pub saving_fault : ℕ → ℕ → SaveFault → ShipFault
saving_fault before after saving.Disk = OtherDisk before after
saving_fault before after (saving.Memory _) = Memory no_memory

-- ---- the standby, whatever is answered

module _ {E : Type 0} {e : Ghosts E} where
  -- the count of its disk stands still, or rose as is told
  abbrev pub ShowsStandby : Pages E e → Pages E e → Result Shipped ShipFault → Type 0
  ShowsStandby before after result =
      MatchResult result (λ _. e.count (disk_of after) ≡ e.count (disk_of before)) (IsStandbyCause (e.count (disk_of before)) (e.count (disk_of after)))

  -- the same pages may be shipped to again, where the disk told its contents before
  abbrev pub MayGoAgain : Pages E e → Pages E e → Type 0
  MayGoAgain before after = (was : List ℕ) → e.contents (disk_of before) ≡ Some was → IsReady (state after) (e.contents (disk_of after))

  -- The standby was found, with an earlier copy than what is offered, and no more calls were made than the whole takes.
  pub record WritesBeside (offer : Offer) (before after : Pages E e) : Type 0 where
    pub later : (state before).header.epoch < offer.epoch
    pub settled : List KeptPage
    pub found : IfTold (e.contents (disk_of before)) (λ was. (mine : Graph) × IsFound (state before) was mine × (mine.cars ≡ settled))
    pub most : WritesAtMost offer settled before after

  -- What writing leaves: at every moment between each image stands for its copy or for what is offered, and for its copy
  -- alone where memory ran out.
  pub record LeavesWritten (offer : Offer) (before after : Pages E e) (result : Result Shipped ShipFault) : Type 0 where
    pub leaves : LeavesEitherOf offer before after
    pub spares : IfErr result (λ fault. UnlessOther fault (SparesCopy before after))
    pub sound : UnlessFails result ((state after).failed ≡ false)
    pub told : TellsOn (e.contents (disk_of before)) (e.contents (disk_of after))
    pub cause : ShowsStandby before after result

  -- What a ship leaves: the same, and where it was refused nothing was written.
  pub record LeavesStandby (offer : Offer) (before after : Pages E e) (result : Result Shipped ShipFault) : Type 0 where
    pub leaves : LeavesEitherOf offer before after
    pub still : IfErr result (λ fault. UnlessStopped fault (IsStill before after))
    pub spares : IfErr result (λ fault. UnlessOther fault (SparesCopy before after))
    pub again : UnlessFails result (MayGoAgain before after)
    pub told : TellsOn (e.contents (disk_of before)) (e.contents (disk_of after))
    pub cause : ShowsStandby before after result
    pub most : IsStill before after ⊎ WritesBeside offer before after

-- ---- both stores

module _ {D E : Type 0} {d : Ghosts D} {e : Ghosts E} where
  -- what the first store has was shipped
  abbrev pub ShipsFirst : Pages D d → Pages E e → Pages E e → Shipped → Type 0
  ShipsFirst from before after shipped =
      (offer : Offer) × IsOffered (state from) (d.contents (disk_of from)) offer × IsShipped offer before after shipped

  -- the standby is at fault, and the first store is not
  abbrev pub IsFaultBeside : Pages D d → Pages E e → ShipFault → Type 0
  IsFaultBeside from to fault =
      (offer : Offer) × IsOffered (state from) (d.contents (disk_of from)) offer × IsStandbyFault offer (state to) (e.contents (disk_of to)) fault

  -- Whatever is answered: nothing was written, and not even a sync was made; or what the first store has was written, with
  -- no more calls than the whole takes.
  abbrev pub WritesFirst : Pages D d → Pages E e → Pages E e → Type 0
  WritesFirst from before after =
      IsStill before after
      ⊎ ((offer : Offer) × IsOffered (state from) (d.contents (disk_of from)) offer × WritesBeside offer before after)

  -- why nothing was shipped
  abbrev pub IsShipFault : Pages D d → Pages E e → ShipFault → Type 0
  IsShipFault from to (From fault) = IsRefusedSo (state from) (d.contents (disk_of from)) fault
  IsShipFault from to (To fault) = IsFaultBeside from to (To fault)
  IsShipFault from to (Ahead t f) = IsFaultBeside from to (Ahead t f)
  IsShipFault from to (Foreign number) = IsFaultBeside from to (Foreign number)
  IsShipFault from to (Disk before after) = Unit {0}
  IsShipFault from to (OtherDisk before after) = Unit {0}
  IsShipFault from to (Memory _) = Unit {0}

  -- At every moment between each image of the standby stands for its copy before or for the first store's.
  abbrev pub LeavesEither : Pages D d → Pages E e → Pages E e → Type 0
  LeavesEither from before after =
      (mine theirs : Copy) (was bytes : List ℕ) → e.contents (disk_of before) ≡ Some was → HasCopy (state before) was mine
      → d.contents (disk_of from) ≡ Some bytes → StandsForCopy bytes (state from).header.epoch theirs
      → LeavesOnly e.moment e.since (disk_of before) (disk_of after) (λ image. StandsForCopy image (state before).header.epoch mine ⊎ StandsForCopy image (state from).header.epoch theirs)

-- Why nothing was shipped to a standby that was not attached for this fault: it is the fault, where its disk failed or the
-- first store is one; or a fault of the first store, behind the header of these pages. The counts are those of its disk.
abbrev pub TellsFirst : State → Option (List ℕ) → ℕ → ℕ → OpenFault → ShipFault → Type 0
TellsFirst s contents before after fault told =
    ((told ≡ standby_fault fault) × (after ≡ before) × (IsOfDisk fault ⊎ IsOpened s contents))
    ⊎ ((first : OpenFault) × (told ≡ first_fault first) × (IsOfDisk fault → ⊥) × IfTold contents (λ bytes. IsUnopened s bytes first) × IsGraphFault before after first)
