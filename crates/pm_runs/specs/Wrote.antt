-- What a run of lines wrote.
use Rattle.std.specs.Prelude.{ℕ, List, Option}
use Rattle.pm_types.specs.declared.entry.Entry.{Entry}
use Rattle.pm_io.specs.declared.sink.Sink as sink
use Rattle.pm_model.specs.Text.{text}
use Rattle.pm_engine.specs.Shown.{Total}
use Rattle.pm_engine.specs.declared.events.stop.Stop.{Stop}
use Rattle.pm_serial.specs.Acknowledged.{Acknowledges}
use Rattle.pm_serial.specs.Causes.{CountsSink}
use Rattle.pm_serial.specs.Writing.{WroteRun, tail_of}
use Rattle.pm_runs.specs.Trial.Trials.{WroteTrial}
use Rattle.pm_runs.specs.declared.writes.Writes.{Writes}
use Rattle.pm_runs.specs.declared.writes.Writes.TheVariants.{Replies, Digest}

-- the run writes behind its last event alone
abbrev pub WritesLast : Writes → Type 0
WritesLast Replies = ⊥
WritesLast Digest = Unit {0}

module _ {K : Type 0} (k : sink.Ghosts K) where
  -- what a run of lines put into the sink for the text of its journal and for the lines behind it, by what it writes and by
  -- why it stopped, if it did
  abbrev pub Wrote : Writes → K → K → List ℕ → List ℕ → Option Stop → Type 0
  Wrote Replies old new text tail stop = WroteRun k.written k.finished k.count old new text tail stop
  Wrote Digest old new text tail stop = WroteTrial k.written k.finished k.count old new text tail stop

  -- what is finished of the replies which say that a copy settled, in a run of lines that writes them
  abbrev pub AcknowledgesFor : Writes → K → K → List Entry → Option Stop → Type 0
  AcknowledgesFor Replies old new journal stop = Acknowledges k old new journal stop
  AcknowledgesFor Digest old new journal stop = Unit {0}

  -- What a run of lines wrote of its journal and of what its engine came to, by what it writes.
  pub record WroteLines (writes : Writes) (old new : K) (journal : List Entry) (total : Total) (stop : Option Stop) : Type 0 where
    pub sink : Wrote writes old new (text journal) (tail_of total) stop
    pub saved : AcknowledgesFor writes old new journal stop
    -- the count of failed calls rose where the run stopped for the sink
    pub cause : CountsSink stop (k.count old) (k.count new)
