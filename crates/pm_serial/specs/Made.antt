-- What an engine has made, as lines of one event each, and lines in another order.
use Rattle.std.specs.Prelude.{◌≡◌, ℕ, List}
use Rattle.std.specs.List.{AllByRecursion}
use Rattle.pm_model.specs.Journal.{commands_of, requests_of}
use Rattle.pm_script.specs.declared.line.Line.{Line}
use Rattle.pm_script.specs.Parted.Asked.{events_asked, flushes_asked, requests_asked, steps_asked}
use Rattle.pm_saving.specs.Serving.{Serving}
use Rattle.pm_serial.specs.Ordered.{course_of}
use Rattle.pm_serial.specs.Stepping.{events_of}

-- These lines are what an engine has made, in this order, one event a line: what it answered and in which order, before which
-- command so many events were made, and how many in all.
pub record AreMade (lines : List Line) (it : Serving) : Type 0 where
  pub single : AllByRecursion (λ line. events_of line ≡ 1) lines
  pub answered : requests_of it.journal ≡ requests_asked lines
  pub course : it.course ≡ course_of 0 0 lines
  pub steps : it.steps ≡ steps_asked lines
  pub events : it.events ≡ events_asked lines

-- some lines are
pub record HasMade (it : Serving) : Type 0 where
  pub lines : List Line
  pub made : AreMade lines it

-- The other lines ask for the same, in some order: each client's commands, in their order, and as many events of the
-- collector and as many that write pages.
pub record IsOrderOf (lines other : List Line) : Type 0 where
  pub clients : (client : ℕ) → commands_of client (requests_asked other) ≡ commands_of client (requests_asked lines)
  pub steps : steps_asked other ≡ steps_asked lines
  pub flushes : flushes_asked other ≡ flushes_asked lines
