-- A run whose clients are asked in any order.
use Rattle.std.specs.Prelude.{◌≡◌, ℕ, List, Option, length}
use Rattle.pm_model.specs.Journal.{IsFirstPart, Serves, commands_of, part}
use Rattle.pm_script.specs.declared.line.Line.{Line}
use Rattle.pm_script.specs.Parted.Asked.{events_asked, requests_asked, steps_asked}
use Rattle.pm_saving.specs.Serving.{Serving}
use Rattle.pm_engine.specs.declared.events.stop.Stop.{Stop}
use Rattle.pm_engine.specs.Events.Causes.{IsDone}
use Rattle.pm_serial.specs.Made.{IsOrderOf}
use Rattle.pm_serial.specs.Running.{AnswersInOrder}

-- What is answered of lines whose clients are asked in any order, by why the run stopped, if it did. That each reply is the
-- world's is a law of every engine.
pub record AnswersClients (lines : List Line) (new : Serving) (stop : Option Stop) : Type 0 where
  -- of each client's commands a first part was answered, in their order, which may be none or all
  pub parts : (client : ℕ) → IsFirstPart (part client new.journal) (commands_of client (requests_asked lines))
  -- where the run is done, all of each was, and every event that the lines ask for was made, each by the call for its kind
  pub serves : IsDone stop → Serves new.journal (requests_asked lines)
  pub long : IsDone stop → length new.journal ≡ length (requests_asked lines)
  pub events : IsDone stop → new.events ≡ events_asked lines
  pub steps : IsDone stop → new.steps ≡ steps_asked lines

-- An engine has answered the lines in some order, one line behind another, by why it stopped, if it did.
pub record AnswersInSomeOrder (lines : List Line) (new : Serving) (stop : Option Stop) : Type 0 where
  pub other : List Line
  pub is_order : IsOrderOf lines other
  pub as_many : events_asked other ≡ events_asked lines
  pub answers : AnswersInOrder other new stop
