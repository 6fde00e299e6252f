-- Where a run of events begins, and what it does to the disk as a whole.
use Rattle.std.specs.Prelude.{◌≡◌, ℕ, List, [], Option, None}
use Rattle.pm_disk.specs.declared.disk.Disk.{Ghosts}
use Rattle.pm_disk.specs.Disk.{LeavesOnly}
use Rattle.pm_saving.specs.Serving.{Serving}
use Rattle.pm_saving.specs.Images.{IsLast, IsOfRun, IsTold}
use Rattle.pm_engine.specs.declared.engine.Engine.{Engine}
use Rattle.pm_engine.specs.Shown.{disk_in, opened_disk, serving}
use Rattle.pm_engine.specs.declared.events.stop.Stop.{Stop}
use Rattle.pm_engine.specs.Events.Causes.{CountsDisk, IsOfDisk}

-- Nothing was asked of the engine yet, and no call has answered that the disk failed.
pub record IsFresh (it : Serving) : Type 0 where
  pub journal : it.journal ≡ []
  pub course : it.course ≡ []
  pub watches : it.watches ≡ []
  pub events : it.events ≡ 0
  pub steps : it.steps ≡ 0
  pub stopped : it.stopped ≡ None
  pub progress : it.saving.progress ≡ None

module _ {D : Type 0} {F : Type 0} {g : Ghosts D} where
  -- How a run of lines leaves the disk, by why it stopped, if it did. What is said of images is said of a disk that told
  -- its contents when it was opened.
  pub record RunsOnDisk (old new : Engine D F g) (stop : Option Stop) : Type 0 where
    -- at each moment a crash leaves a copy that was acknowledged; where the disk failed, or the one in progress
    pub leaves : IsTold (g.contents (opened_disk old)) → LeavesOnly g.moment g.since (disk_in old) (disk_in new) (IsOfRun (serving new))
    -- and at the end the last acknowledged one; where the disk failed, or the one in progress
    pub last : IsTold (g.contents (opened_disk old)) → (left : List ℕ) → g.image (disk_in new) left → IsLast (serving new) left
    -- the engine is stopped only where the run stopped for the disk
    pub going : (IsOfDisk stop → ⊥) → (serving new).stopped ≡ None
    -- the count of failed calls rose where the run stopped for the disk
    pub cause : CountsDisk stop (g.count (disk_in old)) (g.count (disk_in new))
    -- no read reached past the end of what the disk told
    pub past : (g.made (disk_in new)).past ≡ (g.made (disk_in old)).past
    -- where no command was answered the disk was not called
    pub idle : (serving new).journal ≡ [] → disk_in new ≡ disk_in old
