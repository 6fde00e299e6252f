-- A run of lines over an engine with a nursery.
use Rattle.std.specs.Prelude.{◌≡◌, ℕ, List, [], Option, None}
use Rattle.pm_types.specs.Counts.{capped}
use Rattle.pm_disk.specs.declared.disk.Disk.{Ghosts}
use Rattle.pm_disk.specs.Disk.{LeavesOnly}
use Rattle.pm_io.specs.declared.sink.Sink as sink
use Rattle.pm_model.specs.Text.{text}
use Rattle.pm_nursery.specs.Young.{no_nursery}
use Rattle.pm_saving.specs.Serving.{opening, world}
use Rattle.pm_saving.specs.Images.{IsLast, IsOfRun, IsTold}
use Rattle.pm_script.specs.declared.line.YoungLine.{YoungLine}
use Rattle.pm_engine.specs.declared.events.stop.Stop.{Stop}
use Rattle.pm_engine.specs.Events.Causes.{CountsDisk, IsDone, IsOfDisk}
use Rattle.pm_engine.specs.Events.Running.{IsFresh}
use Rattle.pm_serial.specs.Acknowledged.{Acknowledges}
use Rattle.pm_serial.specs.Running.{AnswersLines}
use Rattle.pm_serial.specs.Writing.{WroteRun}
use Rattle.pm_young.specs.declared.engine.YoungEngine.{YoungEngine}
use Rattle.pm_young.specs.Seen.{BeginsYoung, KeepsStart, disk_in, entered_in, halt_in, opened_disk, serving}
use Rattle.pm_young.specs.Seen.{young_in, young_tally_in}
use Rattle.pm_young_run.specs.Asked.{as_lines, young_events_asked}
use Rattle.pm_young_run.specs.Entered.{AreEntered}
use Rattle.pm_young_run.specs.Writing.{young_tail_of}

module _ {D : Type 0} {F : Type 0} {g : Ghosts D} where
  -- Nothing was asked of the engine yet, nothing is young and nothing entered, and every call is answered.
  pub record IsFreshYoung (it : YoungEngine D F g) : Type 0 where
    pub serves : IsFresh (serving it)
    pub young : BeginsYoung it

  -- How a run of lines leaves the disk, by why it stopped, if it did. What is said of images is said of a disk that
  -- told its contents when it was opened.
  pub record RunsYoungOnDisk (old new : YoungEngine D F g) (stop : Option Stop) : Type 0 where
    -- at each moment a crash leaves a copy that was acknowledged; where the disk failed, or the one in progress
    pub leaves : IsTold (g.contents (opened_disk old)) → LeavesOnly g.moment g.since (disk_in old) (disk_in new)
        (IsOfRun (serving new))
    -- and at the end the last acknowledged one; where the disk failed, or the one in progress
    pub last : IsTold (g.contents (opened_disk old)) → (left : List ℕ) → g.image (disk_in new) left
        → IsLast (serving new) left
    -- the engine is stopped only where the run stopped for the disk
    pub going : (IsOfDisk stop → ⊥) → (serving new).stopped ≡ None
    -- and where the run is done every call is answered still
    pub runs : IsDone stop → halt_in new ≡ None
    -- the count of failed calls rose where the run stopped for the disk
    pub cause : CountsDisk stop (g.count (disk_in old)) (g.count (disk_in new))
    -- no read reached past the end of what the disk told
    pub past : (g.made (disk_in new)).past ≡ (g.made (disk_in old)).past
    -- where no command was answered the disk was not called
    pub idle : (serving new).journal ≡ [] → disk_in new ≡ disk_in old

  module _ {K : Type 0} (k : sink.Ghosts K) where
    -- What a run of lines does, by why it stopped, if it did, to the engine and to the sink.
    pub record RunsYoungLines (lines : List YoungLine) (old new : YoungEngine D F g) (before after : K)
        (stop : Option Stop) : Type 0 where
      -- what it answers, and in which order; a sweep counts as one event that answers nothing
      pub answers : AnswersLines (as_lines lines) (serving new) stop
      -- where it is done, every event was made that the lines ask for, the sweeps with them
      pub events : IsDone stop → (serving new).events ≡ capped (young_events_asked lines)
      -- what a crash at any moment leaves, and what it leaves at the end
      pub disk : RunsYoungOnDisk old new stop
      -- the opening stays, and the chooser
      pub start : KeepsStart old new
      -- where it is done just those identities entered that the lines let enter, in this order, from the world that was
      -- opened and nothing young, and what is young is what they leave so
      pub entered : IsDone stop → ∥ AreEntered (opening (serving old)) no_nursery lines (entered_in new)
          (world (serving new)) (young_in new) ∥₁
      -- what it wrote: the replies, the end line, and the line of the nursery
      pub sink : WroteRun k.written k.finished k.count before after (text (serving new).journal)
          (young_tail_of (young_tally_in new)) stop
      -- unless the sink failed, the text through each `saved` is finished
      pub saved : Acknowledges k before after (serving new).journal stop
