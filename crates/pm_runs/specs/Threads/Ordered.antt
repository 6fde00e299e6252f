-- A run by workers is a run of the same lines in some order.
use Rattle.std.specs.Prelude.{◌≡◌, ℕ, List, ◌∷◌, ◌++◌, Option, IfSome}
use Rattle.pm_types.specs.declared.entry.Entry.{Entry}
use Rattle.pm_script.specs.declared.line.Line.{Line}
use Rattle.pm_script.specs.declared.line.Line.TheVariants.{Client, Gc, Flush}
use Rattle.pm_script.specs.Parted.Asked.{events_asked}
use Rattle.pm_saving.specs.Serving.{Serving}
use Rattle.pm_engine.specs.Shown.{tally_of}
use Rattle.pm_engine.specs.declared.tally.Tally.{Tally}
use Rattle.pm_engine.specs.declared.unmade.Unmade.{Unmade}
use Rattle.pm_engine.specs.declared.unmade.Unmade.TheVariants.{OfClient, OfCollector, OfFlusher}
use Rattle.pm_engine.specs.declared.events.stop.Stop.{Stop}
use Rattle.pm_serial.specs.Made.{IsOrderOf}
use Rattle.pm_serial.specs.Running.{IsShortAt}
use Rattle.pm_serial.specs.Together.{AnswersInSomeOrder}
use Rattle.pm_runs.specs.declared.ends.ended.Detail.{Detail}
use Rattle.pm_runs.specs.Ends.Journals.{FollowsLines, IsShortRun}

-- the line asks for this event: a command of that client, an event of the collector, or one that writes a page
abbrev pub AsksFor : Unmade → Line → Type 0
AsksFor (OfClient client) (Client who cmd) = who ≡ client
AsksFor (OfClient client) (Gc count) = ⊥
AsksFor (OfClient client) (Flush count) = ⊥
AsksFor OfCollector (Client who cmd) = ⊥
AsksFor OfCollector (Gc count) = Unit {0}
AsksFor OfCollector (Flush count) = ⊥
AsksFor OfFlusher (Client who cmd) = ⊥
AsksFor OfFlusher (Gc count) = ⊥
AsksFor OfFlusher (Flush count) = Unit {0}

-- where so many events were made, the first of these lines that is not made asks for this one
pub record StopsAt (lines : List Line) (events : ℕ) (event : Unmade) : Type 0 where
  pub done : List Line
  pub line : Line
  pub rest : List Line
  pub lines_are : lines ≡ done ++ line ∷ rest
  pub events_are : events ≡ events_asked done
  pub asks : AsksFor event line

-- An engine that noted this has answered the lines in some order, one line behind another, by why it stopped, if it did:
-- memory does not run out in a `settle` of a copy that was flushed whole, and the noted event is the first that is left.
pub record StopsInSomeOrder (lines : List Line) (new : Serving) (unmade : Option Unmade) (stop : Option Stop) : Type 0 where
  pub some : AnswersInSomeOrder lines new stop
  pub short : IsShortAt some.other new stop
  pub stops : IfSome unmade (StopsAt some.other new.events)

-- A run that ended so is a run of the lines in some order, one line behind another.
pub record ServesInSomeOrder (lines : List Line) (detail : Detail) (journal : List Entry) (tally : Option Tally) : Type 0 where
  pub other : List Line
  pub is_order : IsOrderOf lines other
  pub as_many : events_asked other ≡ events_asked lines
  pub serves : FollowsLines other detail journal tally

-- The same of workers that take turns: where memory runs out the first line that is not made asks for the event that the
-- tally tells, and it is no `settle` of a copy that was flushed whole.
pub record EndsInSomeOrder (lines : List Line) (detail : Detail) (journal : List Entry) (tally : Option Tally) : Type 0 where
  pub some : ServesInSomeOrder lines detail journal tally
  pub short : IsShortRun some.other detail tally
  pub stops : IfSome tally (λ it. IfSome (tally_of it).unmade (StopsAt some.other (tally_of it).events))
