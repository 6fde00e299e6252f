-- A run of lines over an engine.
use Rattle.std.specs.Prelude.{◌≡◌, ◌⊎◌, ℕ, ◌<◌, ◌≤◌, List, ◌∷◌, ◌++◌, Option, Some}
use Rattle.pm_types.specs.Memory.{no_memory}
use Rattle.pm_types.specs.Counts.{greatest_count, capped}
use Rattle.pm_types.specs.declared.command.Cmd.TheVariants.{Settle}
use Rattle.pm_model.specs.declared.request.Request.{Request}
use Rattle.pm_model.specs.Journal.{IsFirstPart, requests_of}
use Rattle.pm_script.specs.declared.line.Line.{Line}
use Rattle.pm_script.specs.declared.line.Line.TheVariants.{Client}
use Rattle.pm_saving.specs.Paging.{left_of}
use Rattle.pm_saving.specs.Serving.{Serving}
use Rattle.pm_engine.specs.declared.events.stop.Stop.{Stop}
use Rattle.pm_engine.specs.declared.events.stop.Stop.TheVariants.{Memory}
use Rattle.pm_script.specs.Parted.Asked.{events_asked, requests_asked, steps_asked}
use Rattle.pm_engine.specs.Events.Causes.{IsDone, OnStop}
use Rattle.pm_serial.specs.Ordered.{StopsAmong, course_of}

-- Where memory ran out in a `settle` of these lines, which is the event that was not made where as many were made as the
-- lines before it ask for, something of the copy is left to be written, unless no event was made at all.
abbrev pub IsShortAt : List Line → Serving → Option Stop → Type 0
IsShortAt lines new stop =
    stop ≡ Some (Memory no_memory) → (done more : List Line) (client : ℕ) → lines ≡ done ++ Client client Settle ∷ more
    → new.events ≡ events_asked done → events_asked done < greatest_count → (new.events ≡ 0) ⊎ (0 < left_of new.saving.progress)

-- What is answered of lines in their order, by why the run stopped, if it did. That each reply is the world's is a law of
-- every engine.
pub record AnswersInOrder (lines : List Line) (new : Serving) (stop : Option Stop) : Type 0 where
  -- a first part of what the lines ask was answered, which may be none or all
  pub rest : List Request
  pub served : requests_of new.journal ++ rest ≡ requests_asked lines
  -- where the run is done, it is all, and every event that the lines ask for was made, each by the call for its kind
  pub all : IsDone stop → requests_of new.journal ≡ requests_asked lines
  pub events : IsDone stop → new.events ≡ capped (events_asked lines)
  pub steps : IsDone stop → new.steps ≡ capped (steps_asked lines)
  -- the events come in the order of the lines: of a first part of the commands it is told what was made before each, and
  -- where the run is done of all
  pub ordered : events_asked lines ≤ greatest_count → IsFirstPart new.course (course_of 0 0 lines)
  pub all_ordered : IsDone stop → events_asked lines ≤ greatest_count → new.course ≡ course_of 0 0 lines
  -- where it stopped: all of the lines that are done was made, and of the next one, if there is one, some events
  pub stopped : OnStop stop (events_asked lines ≤ greatest_count → StopsAmong lines new.journal new.steps new.events stop)

-- What a run of lines answers, by why it stopped, if it did.
pub record AnswersLines (lines : List Line) (new : Serving) (stop : Option Stop) : Type 0 where
  -- in the order of the lines
  pub order : AnswersInOrder lines new stop
  -- memory does not run out in a `settle` of a copy that was flushed whole
  pub short : IsShortAt lines new stop
