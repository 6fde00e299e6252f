-- What many turns, and a whole run in threads, come to.
use Rattle.std.specs.Prelude.{◌≡◌, ℕ, ◌+◌, List, None, length}
use Rattle.pm_disk.specs.declared.disk.Disk.{Ghosts}
use Rattle.pm_model.specs.Journal.{Serves}
use Rattle.pm_script.specs.declared.line.Line.{Line}
use Rattle.pm_script.specs.Parted.Asked.{flushes_asked, requests_asked, steps_asked}
use Rattle.pm_saving.specs.Serving.{Serving}
use Rattle.pm_engine.specs.Shown.{chooser}
use Rattle.pm_lock.specs.declared.book.Book.{Book}
use Rattle.pm_lock.specs.Shown.{engine_in, fault_in, first_in, lines_in}
use Rattle.pm_lock.specs.Turns.{HasNothing}

-- All that the lines ask was answered and made: each client's part of the journal is the list of its commands, and so many
-- events were made, so many of them by the collector.
pub record MakesAllOf (lines : List Line) (it : Serving) : Type 0 where
  pub serves : Serves it.journal (requests_asked lines)
  pub steps : it.steps ≡ steps_asked lines
  pub events : it.events ≡ length it.journal + steps_asked lines + flushes_asked lines

module _ {D : Type 0} {F : Type 0} {g : Ghosts D} where
  -- What turns leave of a book, however many were made.
  pub record LastsBook (old new : Book D F g) : Type 0 where
    -- what it was made of, and the chooser of its engine
    pub first : first_in new ≡ first_in old
    pub lines_are : lines_in new ≡ lines_in old
    pub chooser : chooser (engine_in new) ≡ chooser (engine_in old)
    -- a fault that is kept is kept
    pub fault : fault_in new ≡ None → fault_in old ≡ None
    -- who has nothing left has nothing left
    pub nothing : (who : ℕ) → HasNothing who old → HasNothing who new
