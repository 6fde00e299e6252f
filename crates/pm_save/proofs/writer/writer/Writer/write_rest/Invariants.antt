use Rattle.std.proofs.Common.{◌≡◌, ◌+◌, Some}
use Rattle.pm_shadow.specs.Pages.{state, disk_of}
use Rattle.pm_saving.specs.Paging.{left_of}
use Rattle.pm_save.specs.Progress.Answers.{Spares, TellsOn}
use Rattle.pm_save.specs.Writer.Runs.{Runs}
use Rattle.pm_save.specs.Writer.Shown.{writing}
use Rattle.pm_save.proofs.writer.writer.Writer.write_rest.Given as goal

abbrev pub invariant-loop-page : goal.invariant-loop-page
invariant-loop-page g l =
    record {
      run : Runs (Some (g.C.Frozen.cars l.frozen)) (g.C.Frozen.cars l.frozen) (writing l.initial.self) (writing l.self) (state l.initial.pages) (state l.pages)
          (g.D.Disk.contents (disk_of l.initial.pages)) (g.D.Disk.contents (disk_of l.pages));
      spares : Spares g.D.Disk.contents g.D.Disk.moment g.D.Disk.since (state l.initial.pages) (disk_of l.initial.pages) (disk_of l.pages);
      told : TellsOn (g.D.Disk.contents (disk_of l.initial.pages)) (g.D.Disk.contents (disk_of l.pages));
      count : g.D.Disk.count (disk_of l.pages) ≡ g.D.Disk.count (disk_of l.initial.pages);
      writes : (g.D.Disk.made (disk_of l.pages)).writes + left_of (writing l.self).progress ≡ (g.D.Disk.made (disk_of l.initial.pages)).writes + left_of (writing l.initial.self).progress;
      syncs : (g.D.Disk.made (disk_of l.pages)).syncs ≡ (g.D.Disk.made (disk_of l.initial.pages)).syncs;
      past : (g.D.Disk.made (disk_of l.pages)).past ≡ (g.D.Disk.made (disk_of l.initial.pages)).past;
    }

abbrev pub decreases-loop-page : goal.decreases-loop-page
decreases-loop-page g l = left_of (writing l.self).progress
