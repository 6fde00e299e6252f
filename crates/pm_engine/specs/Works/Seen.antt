-- What contracts see of what was opened and what an engine works with, and what holds of them.
use Rattle.std.specs.Prelude.{◌≡◌, ℕ, Option, None}
use Rattle.pm_disk.specs.declared.disk.Disk.{Ghosts}
use Rattle.pm_shadow.specs.Pages.{disk_of}
use Rattle.pm_space.specs.Shown.{view}
use Rattle.pm_saving.specs.Serving.{KeepsJournal, Serving}
use Rattle.pm_saving.specs.Images.{IsStored, KeepsImages}
use Rattle.pm_engine.specs.declared.works.start.Start.{Start}
use Rattle.pm_engine.specs.declared.works.works.Works.{Works}
use Rattle.pm_engine.specs.Works.Working.{contents_in, course_in, disk_at, frozen_in, journal_in, saving_in, state_in, view_in, watches_in}

module _ {D : Type 0} {F : Type 0} {g : Ghosts D} where
  -- an engine of these parts
  abbrev pub seen : Start D F g → Option ℕ → Works D F g → Serving
  seen opening stopped works = record {
    number = opening.number;
    opened = view opening.space.value.parts;
    view = view_in works;
    frozen = frozen_in works;
    saving = saving_in works;
    journal = journal_in works;
    course = course_in works;
    watches = watches_in works;
    events = works.events;
    steps = works.steps;
    stopped = stopped;
  }

  -- the disk as it was opened
  abbrev pub disk_then : Start D F g → D
  disk_then opening = disk_of opening.pages.value

  -- What holds of an engine at every moment, whatever its space stands for: it keeps its journal and its copies; while no
  -- call has answered that the disk failed, space, saver and pages fit one another; and each image since the opening is
  -- one that may be.
  pub record IsCrashSafe (opening : Start D F g) (stopped : Option ℕ) (works : Works D F g) : Type 0 where
    pub journal : KeepsJournal (seen opening stopped works)
    pub stored : stopped ≡ None → IsStored (seen opening stopped works) (state_in works) (g.contents (disk_then opening)) (contents_in works)
    pub images : KeepsImages g.contents g.image g.moment g.since (disk_then opening) (seen opening stopped works) (disk_at works)
