-- What parts of a run do, one behind another: an event, a line, the lines so far.
use Rattle.std.specs.Prelude.{◌≡◌, ◌⊎◌, ℕ, ◌+◌, ◌<◌, ◌≤◌, true, List, ◌∷◌, ◌++◌, length, take, Option, Some, None}
use Rattle.pm_types.specs.Counts.{Rose, greatest_count, capped}
use Rattle.pm_types.specs.declared.entry.Entry.{Entry}
use Rattle.pm_model.specs.Frames.{is_settle}
use Rattle.pm_model.specs.Journal.{requests_of}
use Rattle.pm_model.specs.Text.{text}
use Rattle.pm_script.specs.declared.line.Line.{Line}
use Rattle.pm_script.specs.declared.line.Line.TheVariants.{Client, Gc}
use Rattle.pm_serial.specs.Output.Writing.{FinishesAll, GoesOn, PutsAll, PutsPart}
use Rattle.pm_saving.specs.Serving.{Serving}
use Rattle.pm_serial.specs.declared.kind.Kind.{Kind}
use Rattle.pm_serial.specs.declared.kind.Kind.TheVariants.{Collect, Flush}
use Rattle.pm_engine.specs.Events.Events.{IsUnfinished}
use Rattle.pm_engine.specs.declared.events.stop.Stop.{Stop}
use Rattle.pm_engine.specs.declared.events.stop.Stop.TheVariants.{Writing}
use Rattle.pm_script.specs.Parted.Asked.{events_asked, flushes_of, request_of, requests_asked, steps_asked, steps_of}
use Rattle.pm_engine.specs.Events.Causes.{IsDone, OnMemory}
use Rattle.pm_serial.specs.Causes.{CountsSink, IsElsewhere}

-- the sink did not fail
abbrev pub IsGathered : Option Stop → Type 0
IsGathered (Some Writing) = ⊥
IsGathered stop = Unit {0}

-- it did
abbrev pub IsOfSink : Option Stop → Type 0
IsOfSink (Some Writing) = Unit {0}
IsOfSink stop = ⊥

-- the sink's count rose where it failed, and else stands still
abbrev pub CountsWriting : Option Stop → ℕ → ℕ → Type 0
CountsWriting (Some Writing) before after = Rose before after
CountsWriting stop before after = after ≡ before

-- how many of so many events of a kind are of the collector
abbrev pub steps_made : Kind → ℕ → ℕ
steps_made Collect count = count
steps_made Flush count = 0

-- how many of the first so many events of a line are of the collector
abbrev pub steps_in : Line → ℕ → ℕ
steps_in (Gc count) made = made
steps_in line made = 0

-- how many events a line asks for
abbrev pub events_of : Line → ℕ
events_of line = length (request_of line) + steps_of line + flushes_of line

-- the line is a command
abbrev pub IsCommand : Line → Type 0
IsCommand (Client client cmd) = Unit {0}
IsCommand line = ⊥

-- the line asks to settle
abbrev pub AsksSettle : Line → Type 0
AsksSettle (Client client cmd) = is_settle cmd ≡ true
AsksSettle line = ⊥

-- ---- where a run stops

-- of so many events of a kind not all were made
pub record IsCut (kind : Kind) (count : ℕ) (old new : Serving) : Type 0 where
  pub made : ℕ
  pub within : made < count
  pub events : old.events ≤ greatest_count → new.events ≡ capped (old.events + made)
  pub steps : old.steps ≤ greatest_count → new.steps ≡ capped (old.steps + steps_made kind made)

-- The place at which a run stopped in a line: so many of its events were made, and where the sink did not fail not all.
pub record StopsLine (line : Line) (old new : Serving) (stop : Option Stop) : Type 0 where
  pub made : ℕ
  pub within : made ≤ events_of line
  pub cut : IsGathered stop → made < events_of line
  -- and where it failed the line is a command, which was answered
  pub last : IsOfSink stop → IsCommand line × (made ≡ 1)
  pub served : requests_of new.journal ≡ requests_of old.journal ++ take made (request_of line)
  pub events : old.events ≤ greatest_count → new.events ≡ capped (old.events + made)
  pub steps : old.steps ≤ greatest_count → new.steps ≡ capped (old.steps + steps_in line made)
  -- where memory ran out and the line asks to settle, something of the copy is left to be written
  pub left : OnMemory stop (AsksSettle line → IsUnfinished new)

-- The line at which lines stopped: all before it was made, and of its own events so many.
pub record StopsLines (lines : List Line) (old new : Serving) (stop : Option Stop) : Type 0 where
  pub done : List Line
  pub line : Line
  pub more : List Line
  pub lines_are : lines ≡ done ++ line ∷ more
  pub made : ℕ
  pub within : made ≤ events_of line
  pub cut : IsGathered stop → made < events_of line
  pub last : IsOfSink stop → IsCommand line × (made ≡ 1)
  pub served : requests_of new.journal ≡ requests_of old.journal ++ (requests_asked done ++ take made (request_of line))
  pub events : old.events ≤ greatest_count → new.events ≡ capped (old.events + (events_asked done + made))
  pub steps : old.steps ≤ greatest_count → new.steps ≡ capped (old.steps + (steps_asked done + steps_in line made))
  pub left : OnMemory stop (AsksSettle line → IsUnfinished new)

-- ---- the sink

-- What goes to the sink and is gathered while the journal grows, by why the run stops, if it does.
pub record SinkGoesOn {K : Type 0} (written : K → Option (List ℕ)) (count : K → ℕ) (old new : K) (gathered later : List ℕ) (before after : List Entry) (stop : Option Stop) : Type 0 where
  -- the text of what was added to the journal
  pub piece : List ℕ
  pub text_is : text after ≡ text before ++ piece
  -- a first part of what was gathered and of the piece was put, and the rest is gathered
  pub on : IsGathered stop → GoesOn piece (written old) (written new) gathered later
  -- where the sink failed it has a first part
  pub part : IsOfSink stop → PutsPart (written old) (written new) (gathered ++ piece)
  pub cause : CountsWriting stop (count old) (count new)

-- What is put at the end of a run that stopped so, if it did, after which it is known to stop so; the tail is what comes
-- behind the last reply.
pub record EndsSink {K : Type 0} (written : K → Option (List ℕ)) (finished count : K → ℕ) (old new : K) (gathered tail : List ℕ) (before after : Option Stop) : Type 0 where
  -- the end stops the run only where nothing else did
  pub why : (after ≡ before) ⊎ ((before ≡ None) × (after ≡ Some Writing))
  -- where the sink had failed nothing is put
  pub none : IsOfSink before → new ≡ old
  -- else a first part of what is gathered and of the tail, and all of it where the sink does not fail
  pub part : IsGathered before → PutsPart (written old) (written new) (gathered ++ tail)
  pub all : IsDone after → PutsAll (written old) (written new) (gathered ++ tail)
  pub all_finished : IsDone after → FinishesAll (written old) (finished new) (gathered ++ tail)
  -- where memory ran out or the disk failed, a first part of what is gathered alone
  pub part_of_gathered : IsElsewhere after → PutsPart (written old) (written new) gathered
  -- and where the sink did not fail all of it, which is finished
  pub whole : IsElsewhere after → ¬ (Rose (count old) (count new)) → PutsAll (written old) (written new) gathered
  pub whole_finished : IsElsewhere after → ¬ (Rose (count old) (count new)) → FinishesAll (written old) (finished new) gathered
  pub cause : IsGathered before → CountsSink after (count old) (count new)
  -- nothing more is finished than was, or all of it
  pub kept : IsElsewhere after → (finished new ≡ finished old) ⊎ FinishesAll (written old) (finished new) gathered
