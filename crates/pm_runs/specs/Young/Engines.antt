-- What a run of lines over an engine with a nursery that was just opened leaves.
use Rattle.std.specs.Prelude.{◌≡◌, ℕ, ◌<◌, List, [], None, IsSome, IfSome}
use Rattle.pm_disk.specs.declared.disk.Disk.{Ghosts}
use Rattle.pm_disk.specs.Disk.{LeavesOnly}
use Rattle.pm_io.specs.declared.sink.Sink as sink
use Rattle.pm_types.specs.declared.entry.Entry.{Entry}
use Rattle.pm_model.specs.World.{World}
use Rattle.pm_model.specs.Closed.{IsClosed}
use Rattle.pm_model.specs.Journal.{IsLegal, after}
use Rattle.pm_model.specs.Text.{text}
use Rattle.pm_saving.specs.Serving.{opening}
use Rattle.pm_saving.specs.Images.{IsTold}
use Rattle.pm_serial.specs.Writing.{WroteRun}
use Rattle.pm_script.specs.declared.line.YoungLine.{YoungLine}
use Rattle.pm_young.specs.declared.engine.YoungEngine.{YoungEngine}
use Rattle.pm_young.specs.Seen.{KeepsStart, YoungTotal, disk_in, opened_disk, serving, young_tally_of}
use Rattle.pm_young_run.specs.Writing.{young_tail_of}
use Rattle.pm_runs.specs.declared.ends.ended.Alone.{Alone as Ended}
use Rattle.pm_runs.specs.Ends.Ends.{stop_in}
use Rattle.pm_runs.specs.Ends.Stages.{unreached, the_events}
use Rattle.pm_runs.specs.Ends.Disks.{IsLastOf, IsOfRun}
use Rattle.pm_runs.specs.Young.Tallies.{ComesToYoung, EntersYoung, IsYoungTotalOf}

module _ {D F : Type 0} {g : Ghosts D} where
  -- An engine came to it that went on from this one, and whose disk is now that one.
  pub record GoesFromYoung (engine : YoungEngine D F g) (last : D) (start : World) (journal : List Entry) (total : YoungTotal) : Type 0 where
    pub later : YoungEngine D F g
    pub keeps : KeepsStart engine later
    pub disk : disk_in later ≡ last
    pub comes : IsYoungTotalOf later start journal total

module _ {D F S K : Type 0} {g : Ghosts D} (k : sink.Ghosts K) where
  -- By how it ended: from the world that was opened, over this engine, on its disk. What is said of images is said of a
  -- disk that told its contents when it was opened.
  pub record RunsYoungEngine (lines : List YoungLine) (engine : YoungEngine D F g) (sink : K) (ended : Ended D S K) : Type 0 where
    -- it came to the events
    pub late : the_events < unreached ended.detail
    -- in the world that was opened whatever is named is an object, and the journal is legal from it
    pub closed : IsClosed (opening (serving engine))
    pub legal : IsLegal (opening (serving engine)) ended.journal.items
    -- what a crash leaves at any moment of the run, and at its end
    pub images : IsTold (g.contents (opened_disk engine))
        → LeavesOnly g.moment g.since (disk_in engine) ended.disk (IsOfRun ended.detail (opening (serving engine)) ended.journal.items)
    pub last : IsTold (g.contents (opened_disk engine))
        → (left : List ℕ) → g.image ended.disk left → IsLastOf ended.detail (after (opening (serving engine)) ended.journal.items) left
    -- where no command was answered the disk was not called
    pub idle : ended.journal.items ≡ [] → ended.disk ≡ disk_in engine
    -- there is a tally, which is that of the engine
    pub there : IsSome ended.young
    pub no_tally : ended.tally ≡ None
    pub comes_to : IfSome ended.young
        (λ it. ComesToYoung (GoesFromYoung engine ended.disk) (opening (serving engine)) ended.journal.items (young_tally_of it))
    -- where it is done just those identities entered that the lines let enter
    pub enters : EntersYoung (opening (serving engine)) lines ended.detail ended.journal.items ended.young
    -- what was written
    pub replies : IfSome ended.young (λ it. WroteRun k.written k.finished k.count sink ended.sink
        (text ended.journal.items) (young_tail_of (young_tally_of it)) (stop_in ended.detail))
