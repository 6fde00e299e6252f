-- What a run of lines over an engine does, whatever it writes, and what it writes that writes its replies.
use Rattle.std.specs.Prelude.{◌≡◌, ℕ, List, Option}
use Rattle.pm_types.specs.declared.entry.Entry.{Entry}
use Rattle.pm_disk.specs.declared.disk.Disk.{Ghosts}
use Rattle.pm_io.specs.declared.sink.Sink as sink
use Rattle.pm_model.specs.Text.{text}
use Rattle.pm_script.specs.declared.line.Line.{Line}
use Rattle.pm_engine.specs.declared.engine.Engine.{Engine}
use Rattle.pm_engine.specs.Shown.{KeepsStart, Total, past_of, serving, tally_in}
use Rattle.pm_engine.specs.declared.events.stop.Stop.{Stop}
use Rattle.pm_engine.specs.Events.Running.{RunsOnDisk}
use Rattle.pm_serial.specs.Acknowledged.{Acknowledges}
use Rattle.pm_serial.specs.Running.{AnswersLines}
use Rattle.pm_serial.specs.Writing.{WroteRun}

-- what is written of a journal and of what an engine came to, by why the run stopped, if it did
abbrev pub Putting : Type 1
Putting = List Entry → Total → Option Stop → Type 0

module _ {D : Type 0} {F : Type 0} {g : Ghosts D} where
  -- What a run of lines does, over what it writes, by why it stopped, if it did.
  pub record RunsLines (Wrote : Putting) (lines : List Line) (old new : Engine D F g) (stop : Option Stop) : Type 0 where
    -- what it answers, and in which order
    pub answers : AnswersLines lines (serving new) stop
    -- what a crash at any moment leaves, and what it leaves at the end
    pub disk : RunsOnDisk old new stop
    -- the opening stays, and the chooser
    pub start : KeepsStart old new
    -- no entry was let go
    pub entries : past_of new ≡ past_of old
    -- what it wrote
    pub wrote : Wrote (serving new).journal (tally_in (serving new)) stop

module _ {K : Type 0} (k : sink.Ghosts K) where
  -- What a run wrote that writes its replies, with this text behind the last one of what the engine came to.
  pub record WroteReplies (behind : Total → List ℕ) (old new : K) (journal : List Entry) (total : Total) (stop : Option Stop) : Type 0 where
    pub sink : WroteRun k.written k.finished k.count old new (text journal) (behind total) stop
    -- unless the sink failed, the text through each `saved` is finished
    pub saved : Acknowledges k old new journal stop
