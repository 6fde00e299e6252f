-- A run in threads over an engine.
use Rattle.std.specs.Prelude.{◌≡◌, ◌⊎◌, ℕ, ◌+◌, ◌<◌, true, List, ◌∷◌, ◌++◌, Option, Some, None, length}
use Rattle.pm_types.specs.Memory.{no_memory}
use Rattle.pm_types.specs.declared.command.Cmd.{Cmd}
use Rattle.pm_types.specs.declared.entry.Entry.{Entry}
use Rattle.pm_model.specs.Frames.{is_settle}
use Rattle.pm_model.specs.Journal.{commands_of, part}
use Rattle.pm_script.specs.declared.line.Line.{Line}
use Rattle.pm_script.specs.Parted.Asked.{flushes_asked, requests_asked, steps_asked}
use Rattle.pm_saving.specs.Paging.{left_of}
use Rattle.pm_saving.specs.Serving.{Serving}
use Rattle.pm_engine.specs.declared.unmade.Unmade.{Unmade}
use Rattle.pm_engine.specs.declared.unmade.Unmade.TheVariants.{OfClient, OfCollector, OfFlusher}
use Rattle.pm_engine.specs.declared.events.stop.Stop.{Stop}
use Rattle.pm_engine.specs.declared.events.stop.Stop.TheVariants.{Memory}
use Rattle.pm_engine.specs.Events.Causes.{OnMemory}
use Rattle.pm_callers.specs.Runs.{IsLeft}
use Rattle.pm_runs.specs.declared.way.Way.{Way}
use Rattle.pm_runs.specs.declared.way.Way.TheVariants.{Turns, Passes}
use Rattle.pm_runs.specs.Threads.Ordered.{StopsInSomeOrder}

-- a command of this client was not answered; where it is to settle, something of the copy in progress is left to be written
pub record AwaitsCommand (client : ℕ) (lines : List Line) (journal : List Entry) (left : ℕ) : Type 0 where
  pub cmd : Cmd
  pub rest : List Cmd
  pub next : part client journal ++ cmd ∷ rest ≡ commands_of client (requests_asked lines)
  pub unfinished : is_settle cmd ≡ true → 0 < left

-- The event for which memory ran out is left of what these lines ask for, by what was answered, how many events of the
-- collector and in all were made, and how many pages of the copy in progress are left: a command of that client, one of the
-- collector, or a flush event. Where it ran out for none, none was made.
abbrev pub LeavesEvent : Option Unmade → List Line → List Entry → ℕ → ℕ → ℕ → Type 0
LeavesEvent None lines journal steps events left = events ≡ 0
LeavesEvent (Some (OfClient client)) lines journal steps events left = AwaitsCommand client lines journal left
LeavesEvent (Some OfCollector) lines journal steps events left = steps < steps_asked lines
LeavesEvent (Some OfFlusher) lines journal steps events left = events < length journal + steps + flushes_asked lines

-- What is answered of lines by workers that take turns, by the event that the engine noted, and by why the run stopped, if
-- it did.
pub record AnswersInTurns (lines : List Line) (new : Serving) (unmade : Option Unmade) (stop : Option Stop) : Type 0 where
  -- where memory ran out, the event that was noted is left, and it is no `settle` of a copy that was flushed whole
  pub short : stop ≡ Some (Memory no_memory) → ∥ LeavesEvent unmade lines new.journal new.steps new.events (left_of new.saving.progress) ∥₁
  -- where it did not, none was noted
  pub noted : (stop ≡ Some (Memory no_memory) → ⊥) → unmade ≡ None
  -- in some order of the lines the noted event is the first that is left
  pub order : ∥ StopsInSomeOrder lines new unmade stop ∥₁

-- Where memory ran out for a worker, and the others went on: no event was made, or something is left that the lines ask.
abbrev pub AnswersByPasses : List Line → Serving → Option Stop → Type 0
AnswersByPasses lines new stop = OnMemory stop ((new.events ≡ 0) ⊎ IsLeft lines new)

-- what is answered besides, by the way in which the workers share the engine
abbrev pub AnswersBy : Way → List Line → Serving → Option Unmade → Option Stop → Type 0
AnswersBy Turns lines new unmade stop = AnswersInTurns lines new unmade stop
AnswersBy Passes lines new unmade stop = AnswersByPasses lines new stop
