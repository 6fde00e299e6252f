-- What each answer of a saver's calls says.
use Rattle.std.specs.Prelude.{◌≡◌, ℕ, List, Option, Some, Result, MatchResult, IfOk}
use Rattle.pm_types.specs.Counts.{Rose}
use Rattle.pm_types.specs.declared.event.Flushed.{Flushed}
use Rattle.pm_types.specs.declared.event.Flushed.TheVariants.{Wrote, AllFlushed}
use Rattle.pm_disk.specs.Disk.{IfTold, LeavesOnly}
use Rattle.pm_disk.specs.Made.{Made, MadeAtMost, with_write}
use Rattle.pm_model.specs.World.{Copy}
use Rattle.pm_image.specs.Stands.{StandsForCopy}
use Rattle.pm_shadow.specs.State.{State}
use Rattle.pm_view.specs.View.{Cars}
use Rattle.pm_saving.specs.Progress.{Saving}
use Rattle.pm_saving.specs.Paging.{left_of}
use Rattle.pm_saving.specs.Tied.{HasCopy, WritesNext}
use Rattle.pm_save.specs.declared.progress.fault.SaveFault.{SaveFault}
use Rattle.pm_save.specs.declared.progress.fault.SaveFault.TheVariants.{Disk, Memory}

-- a disk that failed has raised its count, and one that did not has not
abbrev pub IsFaultOf : ℕ → ℕ → SaveFault → Type 0
IsFaultOf before after Disk = Rose before after
IsFaultOf before after (Memory _) = after ≡ before

-- the count stands still at Ok, and otherwise as the fault says
abbrev pub HasSaveCause : {T : Type 0} → ℕ → ℕ → Result T SaveFault → Type 0
HasSaveCause before after result = MatchResult result (λ _. after ≡ before) (IsFaultOf before after)

-- P holds, unless the disk failed
abbrev pub IfMemory : Type 0 → SaveFault → Type 0
IfMemory P Disk = Unit {0}
IfMemory P (Memory _) = P

-- P holds where memory ran out
abbrev pub OnMemory : {T : Type 0} → Result T SaveFault → Type 0 → Type 0
OnMemory result P = MatchResult result (λ _. Unit {0}) (IfMemory P)

-- P holds unless the disk failed
abbrev pub UnlessDisk : {T : Type 0} → Result T SaveFault → Type 0 → Type 0
UnlessDisk result P = MatchResult result (λ _. P) (IfMemory P)

-- Nothing changed.
pub record IsStill (old new : Saving) (s t : State) (was now : Option (List ℕ)) : Type 0 where
  pub saving : new ≡ old
  pub state : t ≡ s
  pub contents : now ≡ was

-- Nothing was left, and nothing changed; or the next page was written.
abbrev pub IsFlushed : Saving → Saving → Cars → State → State → Option (List ℕ) → Option (List ℕ) → Flushed → Type 0
IsFlushed old new cars s t was now AllFlushed = (left_of old.progress ≡ 0) × IsStill old new s t was now
IsFlushed old new cars s t was now (Wrote page) = WritesNext old new cars s t was now page

-- one write was made where a page was written, and none where none was
abbrev pub IsMadeBy : Made → Made → Flushed → Type 0
IsMadeBy before after AllFlushed = after ≡ before
IsMadeBy before after (Wrote page) = after ≡ with_write before

-- the same, and whatever is answered one write was made at most, no sync, and no read past the end of what the disk told
pub record Makes (before after : Made) (result : Result Flushed SaveFault) : Type 0 where
  pub by : IfOk result (IsMadeBy before after)
  pub most : MadeAtMost 1 0 before after

-- A crash at any moment of a run of calls leaves the copy that was current before it.
abbrev pub Spares : {D : Type 0} → (D → Option (List ℕ)) → (D → ℕ) → (D → ℕ → List ℕ → Type 0) → State → D → D → Type 0
Spares contents moment since s old new =
    (copy : Copy) (bytes : List ℕ) → contents old ≡ Some bytes → HasCopy s bytes copy
    → LeavesOnly moment since old new (λ image. StandsForCopy image s.header.epoch copy)

-- the disk tells its contents still
abbrev pub TellsOn : Option (List ℕ) → Option (List ℕ) → Type 0
TellsOn was now = (bytes : List ℕ) → was ≡ Some bytes → (after : List ℕ) × (now ≡ Some after)

-- the copy that stood behind the current header does so still, where the disk tells its contents
abbrev pub KeepsCopy : State → State → Option (List ℕ) → Option (List ℕ) → Type 0
KeepsCopy s t was now = (copy : Copy) (bytes : List ℕ) → was ≡ Some bytes → HasCopy s bytes copy → IfTold now (λ after. HasCopy t after copy)
