-- What a settle leaves.
use Rattle.std.specs.Prelude.{◌≡◌, ◌⊎◌, ◌+◌, ◌<◌, ◌≤◌, ℕ, List, Option, Some, IfSome, Result}
use Rattle.pm_disk.specs.Disk.{IfTold, LeavesOnly}
use Rattle.pm_disk.specs.declared.disk.Disk.{Ghosts}
use Rattle.pm_disk.specs.Made.{MadeAtMost, MadeMore}
use Rattle.pm_model.specs.World.{Copy}
use Rattle.pm_image.specs.Stands.{StandsForCopy}
use Rattle.pm_image.specs.Opening.{page_count, page_of}
use Rattle.pm_layout.specs.declared.header.Header.{Header}
use Rattle.pm_shadow.specs.State.{State, other}
use Rattle.pm_shadow.specs.Images.{Holds, Renews, shutting}
use Rattle.pm_shadow.specs.Pages.{disk_of, state}
use Rattle.pm_shadow.specs.declared.pages.Pages.{Pages}
use Rattle.pm_view.specs.View.{Cars}
use Rattle.pm_saving.specs.Progress.{Progress, Saving, copy_of}
use Rattle.pm_saving.specs.Paging.{left_of}
use Rattle.pm_saving.specs.Tied.{GoesOn, HasCopy, Settles, StaysInProgress}
use Rattle.pm_save.specs.declared.progress.fault.SaveFault.{SaveFault}
use Rattle.pm_save.specs.Progress.Answers.{HasSaveCause, KeepsCopy, Spares, TellsOn}

-- no page but this one is another, among those that there were
pub record StaysBesidePage (page : ℕ) (before after : List ℕ) : Type 0 where
  pub longer : page_count before ≤ page_count after
  pub same : (other : ℕ) → other < page_count before → (other ≡ page → ⊥) → page_of after other ≡ page_of before other

-- the gate of the other slot was closed, beside the current header and its pages
abbrev pub ClosesFrom : State → Option (List ℕ) → List ℕ → Type 0
ClosesFrom s was after = (before : List ℕ) × (was ≡ Some before) × Holds s before after × StaysBesidePage (other s.slot) before after

-- the header was published in the other slot, with the pages as they were
abbrev pub PublishesFrom : State → Header → Option (List ℕ) → List ℕ → Type 0
PublishesFrom s header was after = (before : List ℕ) × (was ≡ Some before) × Renews s header before after × StaysBesidePage (other s.slot) before after

-- every image stands for the copy that was in progress, and it stands behind the current header
abbrev pub StandsThen : {D : Type 0} → (D → Option (List ℕ)) → (D → List ℕ → Type 0) → Option Progress → Cars → State → D → D → ℕ → Type 0
StandsThen contents image progress cars t old new number =
    IfSome progress (λ (progress : Progress). (was : List ℕ) → contents old ≡ Some was
    → ((left : List ℕ) → image new left → StandsForCopy left number (copy_of cars progress)) × IfTold (contents new) (λ after. HasCopy t after (copy_of cars progress)))

-- A crash at any moment of the call leaves the copy that was settled, or the one that was in progress.
abbrev pub SparesEither : {D : Type 0} → (D → Option (List ℕ)) → (D → ℕ) → (D → ℕ → List ℕ → Type 0) → Option Progress → Cars → State → D → D → Type 0
SparesEither contents moment since progress cars s old new =
    IfSome progress (λ (progress : Progress). (copy : Copy) (bytes : List ℕ) → contents old ≡ Some bytes → HasCopy s bytes copy
    → LeavesOnly moment since old new (λ image. StandsForCopy image s.header.epoch copy ⊎ StandsForCopy image progress.number (copy_of cars progress)))

-- So many writes settle a copy: one for each page that is left, one for the other gate where it is open, and two for the
-- header.
abbrev pub settling_writes : Saving → State → ℕ
settling_writes saving s = left_of saving.progress + (shutting s + 2)

-- So many syncs settle it: one behind the other gate where it is open, and two behind the header's writes.
abbrev pub settling_syncs : State → ℕ
settling_syncs s = shutting s + 2

module _ {D : Type 0} {g : Ghosts D} where
  -- A disk that failed has raised its count. Whatever is answered so many writes and syncs were made at most, and no read
  -- past the end of what the disk told; and it tells its contents still.
  pub record IsCausedBy {T : Type 0} (writes syncs : ℕ) (before after : Pages D g) (result : Result T SaveFault) : Type 0 where
    pub cause : HasSaveCause (g.count (disk_of before)) (g.count (disk_of after)) result
    pub made : MadeAtMost writes syncs (g.made (disk_of before)) (g.made (disk_of after))
    pub told : TellsOn (g.contents (disk_of before)) (g.contents (disk_of after))

  -- The copy in progress is the settled one, on the pages that were left and in the other header slot; every image stands
  -- for it then, and its pages are kept; and so many writes and syncs were made.
  pub record SettlesPages (old new : Saving) (cars : Cars) (before after : Pages D g) (number : ℕ) : Type 0 where
    pub settles : Settles old new cars (state before) (state after) (g.contents (disk_of before)) (g.contents (disk_of after)) number
    pub now : StandsThen g.contents g.image old.progress cars (state after) (disk_of before) (disk_of after) number
    pub made : MadeMore (settling_writes old (state before)) (settling_syncs (state before)) 0 (g.made (disk_of before)) (g.made (disk_of after))

-- Memory ran out: the copy is in progress still, and some of it is left to be written; and the current one stands where it
-- stood, at every moment of the call.
pub record IsLeftSo {D : Type 0} (contents : D → Option (List ℕ)) (moment : D → ℕ) (since : D → ℕ → List ℕ → Type 0) (old new : Saving) (s t : State) (before after : D) : Type 0 where
  pub stays : StaysInProgress old new s t (contents before) (contents after)
  pub left : 0 < left_of new.progress
  pub spares : Spares contents moment since s before after
  pub has : KeepsCopy s t (contents before) (contents after)

-- The copy is in progress still: more of its pages may have been written, and the settled cars stay.
pub record StaysOn (old new : Saving) : Type 0 where
  pub progress : Progress
  pub after : Progress
  pub is_progress : old.progress ≡ Some progress
  pub saving : new ≡ record old { progress = Some after }
  pub goes_on : GoesOn progress after
