-- What a run by workers serves, by how it ended.
use Rattle.std.specs.Prelude.{◌≡◌, ◌⊎◌, ℕ, List, Option, Some, None, IfSome}
use Rattle.pm_types.specs.declared.entry.Entry.{Entry}
use Rattle.pm_script.specs.declared.line.Line.{Line}
use Rattle.pm_script.specs.Script.{IsScript}
use Rattle.pm_engine.specs.Shown.{tally_of}
use Rattle.pm_engine.specs.declared.tally.Tally.{Tally}
use Rattle.pm_callers.specs.Runs.{LeavesSome}
use Rattle.pm_runs.specs.declared.way.Way.{Way}
use Rattle.pm_runs.specs.declared.way.Way.TheVariants.{Turns, Passes}
use Rattle.pm_runs.specs.Threads.Running.{LeavesEvent}
use Rattle.pm_runs.specs.Threads.Ordered.{EndsInSomeOrder, ServesInSomeOrder}
use Rattle.pm_runs.specs.declared.ends.ended.Detail.{Detail}
use Rattle.pm_runs.specs.Ends.Ends.{RanShort}

-- these lines are the script that stands in the bytes, where they are told
abbrev pub IsToldScript : Option (List ℕ) → List Line → Type 0
IsToldScript told lines = (bytes : List ℕ) × (told ≡ Some bytes) × IsScript bytes lines

-- The run is one of the lines of which this is said in some order, one line behind another: each client's commands in their
-- order, and as many events of the two other kinds.
abbrev pub ServesTogether : (List Line → Type 0) → Detail → List Entry → Option Tally → Type 0
ServesTogether Asked detail journal tally = (lines : List Line) → Asked lines → ∥ ServesInSomeOrder lines detail journal tally ∥₁

-- What workers that take turns serve of the lines of which this is said.
pub record ServesInTurns (Asked : List Line → Type 0) (detail : Detail) (journal : List Entry) (tally : Option Tally) : Type 0 where
  -- in some order of them, where memory runs out, the first line that is not made asks for the event that the tally tells
  pub order : (lines : List Line) → Asked lines → ∥ EndsInSomeOrder lines detail journal tally ∥₁
  -- where memory runs out, no event was made, or the one is left that the tally tells: it is no settle of a copy that was
  -- flushed whole
  pub short : RanShort detail → (lines : List Line) → Asked lines
      → IfSome tally (λ it. ∥ LeavesEvent (tally_of it).unmade lines journal (tally_of it).steps (tally_of it).events (tally_of it).left ∥₁)
  -- where it does not, the tally tells none
  pub noted : (RanShort detail → ⊥) → IfSome tally (λ it. (tally_of it).unmade ≡ None)

-- What workers with passes serve of them: where memory runs out, no event was made, or a client's command, an event of the
-- collector or a flush event that they ask is not among what was answered and made.
abbrev pub ServesByPasses : (List Line → Type 0) → Detail → List Entry → Option Tally → Type 0
ServesByPasses Asked detail journal tally =
    RanShort detail → (lines : List Line) → Asked lines
    → IfSome tally (λ it. ((tally_of it).events ≡ 0) ⊎ LeavesSome lines journal (tally_of it).steps (tally_of it).events)

-- what is served besides, by the way in which the workers share the engine
abbrev pub ServesBy : Way → (List Line → Type 0) → Detail → List Entry → Option Tally → Type 0
ServesBy Turns Asked detail journal tally = ServesInTurns Asked detail journal tally
ServesBy Passes Asked detail journal tally = ServesByPasses Asked detail journal tally
