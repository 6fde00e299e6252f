-- In which order events come, and where a run stops.
use Rattle.std.specs.Prelude.{◌≡◌, ◌⊎◌, ℕ, ◌+◌, ◌≤◌, List, [], ◌∷◌, ◌++◌, take, Option}
use Rattle.pm_types.specs.Counts.{greatest_count}
use Rattle.pm_types.specs.declared.entry.Entry.{Entry}
use Rattle.pm_model.specs.declared.request.Request.{Request}
use Rattle.pm_model.specs.Journal.{IsFirstPart, requests_of}
use Rattle.pm_script.specs.declared.line.Line.{Line}
use Rattle.pm_script.specs.declared.line.Line.TheVariants.{Client, Gc, Flush}
use Rattle.pm_saving.specs.Serving.{Before, Serving}
use Rattle.pm_engine.specs.declared.events.stop.Stop.{Stop}
use Rattle.pm_engine.specs.Events.Causes.{IsDone}
use Rattle.pm_script.specs.Parted.Asked.{events_asked, request_of, requests_asked, steps_asked}
use Rattle.pm_serial.specs.Stepping.{IsCommand, IsOfSink, events_of, steps_in}

-- ---- what is made before each command

-- For each command of these lines what is made before it, where so many events of the collector, and so many in all, come
-- before the lines: what the lines before it ask for.
abbrev pub course_of : ℕ → ℕ → List Line → List Before
course_of steps events [] = []
course_of steps events (Client client cmd ∷ lines) = record { steps = steps; events = events } ∷ course_of steps (events + 1) lines
course_of steps events (Gc count ∷ lines) = course_of (steps + count) (events + count) lines
course_of steps events (Flush count ∷ lines) = course_of steps (events + count) lines

-- What a part of a run tells of the entries that it was to add, by why the run stops in it, if it does: of a first part of
-- them, behind what was told before; where the run does not stop, of all.
pub record TellsPart (course : List Before) (old new : Serving) (stop : Option Stop) : Type 0 where
  pub part : IsFirstPart new.course (old.course ++ course)
  pub all : IsDone stop → new.course ≡ old.course ++ course

-- What a line tells of its command, if it is one.
abbrev pub TellsLine : Line → Serving → Serving → Option Stop → Type 0
TellsLine line old new stop = TellsPart (course_of old.steps old.events (line ∷ [])) old new stop

-- no count comes to its end over these lines
pub record FitsCounts (lines : List Line) (old : Serving) : Type 0 where
  pub events : old.events + events_asked lines ≤ greatest_count
  pub steps : old.steps + steps_asked lines ≤ greatest_count

-- What lines tell of their commands, by why the run stops in them, if it does.
abbrev pub TellsLines : List Line → Serving → Serving → Option Stop → Type 0
TellsLines lines old new stop = FitsCounts lines old → TellsPart (course_of old.steps old.events lines) old new stop

-- ---- where a run stops

-- how many events the first line asks for, if there is one
abbrev pub events_first : List Line → ℕ
events_first [] = 0
events_first (line ∷ lines) = events_of line

-- how many of the first so many of them are of the collector
abbrev pub steps_first : List Line → ℕ → ℕ
steps_first [] made = 0
steps_first (line ∷ lines) made = steps_in line made

-- what the first line asks of the graph
abbrev pub request_first : List Line → List Request
request_first [] = []
request_first (line ∷ lines) = request_of line

-- the first line, if there is one, is a command
abbrev pub IsCommandFirst : List Line → Type 0
IsCommandFirst [] = ⊥
IsCommandFirst (line ∷ lines) = IsCommand line

-- Where a run stopped for this that has this journal, and so many events, so many of them of the collector: all events were
-- made of the lines that are done, and of the next one, if there is one, so many.
pub record StopsAmong (lines : List Line) (journal : List Entry) (steps events : ℕ) (stop : Option Stop) : Type 0 where
  pub done : List Line
  pub rest : List Line
  pub lines_are : lines ≡ done ++ rest
  pub made : ℕ
  pub within : made ≤ events_first rest
  pub served : requests_of journal ≡ requests_asked done ++ take made (request_first rest)
  pub events_are : events ≡ events_asked done + made
  pub steps_are : steps ≡ steps_asked done + steps_first rest made
  -- where the sink failed nothing came behind the command whose reply it did not take, or all lines are done
  pub last : IsOfSink stop → (rest ≡ []) ⊎ (IsCommandFirst rest × (made ≡ 1))
