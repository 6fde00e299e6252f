-- What holds of an engine.
use Rattle.std.specs.Prelude.{ℕ, Option}
use Rattle.pm_disk.specs.declared.disk.Disk.{Ghosts}
use Rattle.pm_view.specs.Represents.{Represents}
use Rattle.pm_saving.specs.Serving.{world}
use Rattle.pm_engine.specs.declared.works.start.Start.{Start}
use Rattle.pm_engine.specs.declared.works.works.Works.{Works}
use Rattle.pm_engine.specs.Works.Working.{view_in}
use Rattle.pm_engine.specs.Works.Seen.{IsCrashSafe, seen}

-- What holds of an engine at every moment: journal, copies and images are as they may be, and its space stands for the
-- world at the journal's end.
pub record IsSound {D F : Type 0} {g : Ghosts D} (opening : Start D F g) (stopped : Option ℕ) (works : Works D F g) : Type 0 where
  pub safe : IsCrashSafe opening stopped works
  pub represents : Represents (view_in works) (world (seen opening stopped works))
