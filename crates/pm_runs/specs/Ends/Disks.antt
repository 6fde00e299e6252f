-- How a run leaves the disk.
use Rattle.std.specs.Prelude.{◌≡◌, ◌⊎◌, ℕ, List, [], Some, Err}
use Rattle.pm_types.specs.declared.entry.Entry.{Entry}
use Rattle.pm_types.specs.declared.fault.OpenFault.{OpenFault}
use Rattle.pm_disk.specs.declared.disk.Disk as disk
use Rattle.pm_disk.specs.Disk.{LeavesOnly}
use Rattle.pm_disk.specs.Made.{with_sync}
use Rattle.pm_model.specs.World.{World, Copy, begin}
use Rattle.pm_model.specs.Journal.{IsLegal, after}
use Rattle.pm_image.specs.Stands.{StandsForCopy, opened}
use Rattle.pm_saving.specs.Images.{IsCopyInProgress, IsOfChain, IsSettledCopy}
use Rattle.pm_runs.specs.declared.ends.ended.Detail.{Detail}
use Rattle.pm_runs.specs.declared.ends.ended.Detail.TheVariants.{Device, Refused}
use Rattle.pm_runs.specs.Ends.Stages.{IsPast, IsBefore, the_store}

-- the disk failed
abbrev pub IsOfDisk : Detail → Type 0
IsOfDisk (Device before after opened) = Unit {0}
IsOfDisk detail = ⊥

-- What a crash may leave of a run from this world, with this journal: a member of the chain of copies that settled; where
-- the disk failed, the copy in progress at the journal's end too.
abbrev pub IsOfRun : Detail → World → List Entry → List ℕ → Type 0
IsOfRun detail start journal image = IsOfChain start journal image ⊎ (IsOfDisk detail × IsCopyInProgress (after start journal) image)

-- What it may leave at the end of a run, of which this is the last world: the copy that was acknowledged last; where the
-- disk failed, that one or the one in progress.
abbrev pub IsLastOf : Detail → World → List ℕ → Type 0
IsLastOf detail world image = IsSettledCopy world image ⊎ (IsOfDisk detail × IsCopyInProgress world image)

-- the bytes stand for no copy, and this is the answer of the first rule that they break
abbrev pub Breaks : List ℕ → OpenFault → Type 0
Breaks bytes fault = opened bytes ≡ Err fault

-- a store that is refused breaks the rule for which it is
abbrev pub IsRefusedFor : List ℕ → Detail → Type 0
IsRefusedFor bytes (Refused fault) = Breaks bytes fault
IsRefusedFor bytes detail = Unit {0}

module _ {D : Type 0} (d : disk.Ghosts D) where
  -- The store is opened by one sync of the disk, which comes before any other call, and no write: then the disk was this
  -- one, and told the same. Where no command was answered it is not called any more.
  pub record SyncsFirst (start opened end : D) (journal : List Entry) : Type 0 where
    pub made : d.made opened ≡ with_sync (d.moment start) (d.made start)
    pub told : d.contents opened ≡ d.contents start
    pub idle : journal ≡ [] → end ≡ opened

  -- Where no store was opened the disk is not called, or synced once.
  abbrev pub SyncsAtMost : D → D → Type 0
  SyncsAtMost start end = (end ≡ start) ⊎ (d.made end ≡ with_sync (d.moment start) (d.made start))

  -- How a run leaves the disk, from its start to its end, by what the disk told at the start.
  pub record LeavesDisk (start end : D) (detail : Detail) (journal : List Entry) : Type 0 where
    -- the journal is legal from the world of the copy that the bytes stand for
    pub legal : (bytes : List ℕ) → d.contents start ≡ Some bytes → (number : ℕ) (copy : Copy) → StandsForCopy bytes number copy
        → IsLegal (begin number copy) journal
    -- each image since the start is one that a crash might have left then, or of the run
    pub images : (bytes : List ℕ) → d.contents start ≡ Some bytes → (number : ℕ) (copy : Copy) → StandsForCopy bytes number copy
        → LeavesOnly d.moment d.since start end (λ left. d.image start left ⊎ IsOfRun detail (begin number copy) journal left)
    -- each image at the end is the last one
    pub last : (bytes : List ℕ) → d.contents start ≡ Some bytes → (number : ℕ) (copy : Copy) → StandsForCopy bytes number copy
        → IsPast the_store detail
        → (left : List ℕ) → d.image end left → IsLastOf detail (after (begin number copy) journal) left
    -- only bytes that stand for a copy are opened
    pub opened : (bytes : List ℕ) → d.contents start ≡ Some bytes → IsPast the_store detail
        → (number : ℕ) × (copy : Copy) × StandsForCopy bytes number copy
    -- bytes are refused for no rule but the first that they break, and where they break one they are not opened
    pub refused : (bytes : List ℕ) → d.contents start ≡ Some bytes → IsRefusedFor bytes detail
    pub shut : (bytes : List ℕ) → d.contents start ≡ Some bytes → (fault : OpenFault) → Breaks bytes fault
        → IsPast the_store detail → ⊥
    -- where no command was answered, nothing was written
    pub quiet : journal ≡ [] → (d.contents end ≡ d.contents start) × LeavesOnly d.moment d.since start end (d.image start)
    -- before the store it is not called
    pub uncalled : IsBefore the_store detail → end ≡ start
