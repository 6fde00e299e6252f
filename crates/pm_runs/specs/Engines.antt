-- What a run of lines over an engine that was just opened leaves.
use Rattle.std.specs.Prelude.{◌≡◌, ℕ, ◌<◌, List, [], None, IsSome, IfSome}
use Rattle.pm_disk.specs.declared.disk.Disk.{Ghosts}
use Rattle.pm_disk.specs.Disk.{LeavesOnly}
use Rattle.pm_io.specs.declared.sink.Sink as sink
use Rattle.pm_types.specs.declared.entry.Entry.{Entry}
use Rattle.pm_model.specs.World.{World}
use Rattle.pm_model.specs.Closed.{IsClosed}
use Rattle.pm_model.specs.Journal.{IsLegal, after}
use Rattle.pm_model.specs.Text.{text}
use Rattle.pm_saving.specs.Serving.{opening}
use Rattle.pm_saving.specs.Images.{IsTold}
use Rattle.pm_engine.specs.declared.engine.Engine.{Engine}
use Rattle.pm_engine.specs.Shown.{KeepsStart, Total, disk_in, opened_disk, serving, tally_of}
use Rattle.pm_serial.specs.Writing.{tail_of}
use Rattle.pm_runs.specs.declared.ends.ended.Alone.{Alone as Ended}
use Rattle.pm_runs.specs.declared.writes.Writes.{Writes}
use Rattle.pm_runs.specs.Ends.Ends.{stop_in}
use Rattle.pm_runs.specs.Ends.Stages.{unreached, the_events}
use Rattle.pm_runs.specs.Ends.Disks.{IsLastOf, IsOfRun}
use Rattle.pm_runs.specs.Ends.Tallies.{ComesTo, IsTotalOf}
use Rattle.pm_runs.specs.Wrote.{Wrote}

module _ {D F : Type 0} {g : Ghosts D} where
  -- An engine came to it that went on from this one, and whose disk is now that one.
  pub record GoesFrom (engine : Engine D F g) (last : D) (start : World) (journal : List Entry) (total : Total) : Type 0 where
    pub later : Engine D F g
    pub keeps : KeepsStart engine later
    pub disk : disk_in later ≡ last
    pub comes : IsTotalOf later start journal total

module _ {D F S K : Type 0} {g : Ghosts D} (k : sink.Ghosts K) where
  -- By how it ended: from the world that was opened, over this engine, on its disk. What is said of images is said of a
  -- disk that told its contents when it was opened.
  pub record RunsEngine (writes : Writes) (engine : Engine D F g) (sink : K) (ended : Ended D S K) : Type 0 where
    -- it came to the events
    pub late : the_events < unreached ended.detail
    -- in the world that was opened whatever is named is an object, and the journal is legal from it
    pub closed : IsClosed (opening (serving engine))
    pub legal : IsLegal (opening (serving engine)) ended.journal.items
    -- what a crash leaves at any moment of the run, and at its end
    pub images : IsTold (g.contents (opened_disk engine))
        → LeavesOnly g.moment g.since (disk_in engine) ended.disk (IsOfRun ended.detail (opening (serving engine)) ended.journal.items)
    pub last : IsTold (g.contents (opened_disk engine))
        → (left : List ℕ) → g.image ended.disk left → IsLastOf ended.detail (after (opening (serving engine)) ended.journal.items) left
    -- where no command was answered the disk was not called
    pub idle : ended.journal.items ≡ [] → ended.disk ≡ disk_in engine
    -- there is a tally, which is that of the engine
    pub there : IsSome ended.tally
    pub no_young : ended.young ≡ None
    pub comes_to : IfSome ended.tally (λ it. ComesTo (GoesFrom engine ended.disk) (opening (serving engine)) ended.journal.items (tally_of it))
    -- what was written
    pub replies : IfSome ended.tally
        (λ it. Wrote k writes sink ended.sink (text ended.journal.items) (tail_of (tally_of it)) (stop_in ended.detail))
