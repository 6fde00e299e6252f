-- That replies which say that a copy settled are finished before the next event, and what a sink that failed lacks.
use Rattle.std.specs.Prelude.{◌≡◌, ℕ, ◌+◌, ◌≤◌, true, List, [], ◌∷◌, ◌++◌, length, Option, Some}
use Rattle.pm_types.specs.Counts.{Rose}
use Rattle.pm_types.specs.declared.entry.Entry.{Entry}
use Rattle.pm_io.specs.declared.sink.Sink.{Ghosts}
use Rattle.pm_model.specs.Journal.{says_saved}
use Rattle.pm_model.specs.Text.{text}
use Rattle.pm_engine.specs.declared.events.stop.Stop.{Stop}
use Rattle.pm_script.specs.declared.reply.TheConstants.{REPLY_BYTES}
use Rattle.pm_serial.specs.declared.output.output.TheConstants.{BUFFER_BYTES}
use Rattle.pm_serial.specs.Causes.{IsElsewhere}
use Rattle.pm_serial.specs.Output.Writing.{IsNear}
use Rattle.pm_serial.specs.Stepping.{IsGathered, IsOfSink}

-- So many bytes are finished that the text through each reply `saved` of the journal is, behind what stood there before.
abbrev pub FinishesSaved : ℕ → List ℕ → List Entry → Type 0
FinishesSaved finished before journal =
    (first rest : List Entry) (entry : Entry) → journal ≡ first ++ entry ∷ rest → says_saved entry.reply ≡ true → length (before ++ text (first ++ entry ∷ [])) ≤ finished

module _ {K : Type 0} (k : Ghosts K) where
  -- Nothing is gathered, and all that was put is finished. Of a sink that does not tell what was put only the first is said.
  pub record TellsAll (old new : K) (later : List ℕ) : Type 0 where
    pub none : later ≡ []
    pub finished : (bytes : List ℕ) → k.written old ≡ Some bytes → (all : List ℕ) × (k.written new ≡ Some all) × (k.finished new ≡ length all)

  -- where the last entry says that a copy settled
  abbrev pub TellsSaved : K → K → List ℕ → List Entry → Type 0
  TellsSaved old new later journal = (first : List Entry) (entry : Entry) → journal ≡ first ++ entry ∷ [] → says_saved entry.reply ≡ true → TellsAll old new later

  -- What a part of a run keeps finished while the journal grows, by why the run stops in it, if it does: unless the sink
  -- failed, the text through each `saved`, behind whatever stood there when the journal began.
  pub record KeepsSaved (old new : K) (gathered : List ℕ) (journal longer : List Entry) (stop : Option Stop) : Type 0 where
    pub saved : IsGathered stop → (bytes before : List ℕ) → k.written old ≡ Some bytes → bytes ++ gathered ≡ before ++ text journal
        → FinishesSaved (k.finished old) before journal → FinishesSaved (k.finished new) before longer
    -- and where it did, no more of the text is missing than the buffer has room for and a reply line may have
    pub near : IsOfSink stop → (bytes before all : List ℕ) → k.written old ≡ Some bytes → bytes ++ gathered ≡ before ++ text journal
        → k.written new ≡ Some all → length (before ++ text longer) ≤ length all + (BUFFER_BYTES + REPLY_BYTES)

  -- What a run has finished at its end, by why it stopped, if it did: unless the sink failed, the text through each `saved`,
  -- behind what stood there before.
  pub record Acknowledges (old new : K) (journal : List Entry) (stop : Option Stop) : Type 0 where
    pub saved : IsGathered stop → (before : List ℕ) → k.written old ≡ Some before → FinishesSaved (k.finished new) before journal
    -- and where it did, no more of the text is missing than the buffer has room for and a reply line may have
    pub near : IsOfSink stop → IsNear (k.written old) (k.written new) (text journal)

  -- What a run has finished at its end that writes its replies behind its last event, by why it stopped, if it did: unless
  -- the sink failed, also where the run had stopped for another cause, the text through each `saved`, behind what stood there
  -- before.
  abbrev pub AcknowledgesLast : K → K → List Entry → Option Stop → Type 0
  AcknowledgesLast old new journal stop =
      IsGathered stop → (IsElsewhere stop → ¬ (Rose (k.count old) (k.count new)))
      → (before : List ℕ) → k.written old ≡ Some before → FinishesSaved (k.finished new) before journal
