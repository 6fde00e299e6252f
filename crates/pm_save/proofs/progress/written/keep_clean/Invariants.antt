use Rattle.std.proofs.Common.{◌≡◌, take}
use Rattle.pm_shadow.specs.Pages.{state, disk_of}
use Rattle.pm_saving.specs.Tied.{with_all_kept}
use Rattle.pm_save.specs.Progress.Putting.{pages_in}
use Rattle.pm_save.proofs.progress.written.keep_clean.Given as goal

abbrev pub invariant-loop-one : goal.invariant-loop-one
invariant-loop-one g l =
    record {
      state : state l.pages ≡ with_all_kept (pages_in l.settled (take l.one-index l.cars)) (state l.initial.pages);
      still : disk_of l.pages ≡ disk_of l.initial.pages;
    }
