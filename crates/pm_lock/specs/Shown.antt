-- What contracts see of a book.
use Rattle.std.specs.Prelude.{◌≡◌, ℕ, List, Option, None}
use Rattle.pm_types.specs.declared.command.Cmd.{Cmd}
use Rattle.pm_types.specs.declared.fault.EngineFault.{EngineFault}
use Rattle.pm_disk.specs.declared.disk.Disk.{Ghosts}
use Rattle.pm_model.specs.Journal.{commands_of}
use Rattle.pm_script.specs.declared.line.Line.{Line}
use Rattle.pm_script.specs.Parted.Asked.{flushes_asked, requests_asked, steps_asked}
use Rattle.pm_script.specs.Parted.Left.{lists_in}
use Rattle.pm_script.specs.Parted.Lists.{list_of}
use Rattle.pm_engine.specs.declared.engine.Engine.{Engine}
use Rattle.pm_engine.specs.Shown.{KeepsStart, disk_in, serving}
use Rattle.pm_lock.specs.declared.book.Book.{Book}

module _ {D : Type 0} {F : Type 0} {g : Ghosts D} where
  -- its engine
  abbrev pub engine_in : Book D F g → Engine D F g
  engine_in it = it.engine

  -- each client's commands that are still to be asked
  abbrev pub left_in : Book D F g → List (List Cmd)
  left_in it = lists_in it.parts

  -- how many of the collector's events, and how many flush events, are still to be made
  abbrev pub collects_in : Book D F g → ℕ
  collects_in it = it.collects

  abbrev pub flushes_in : Book D F g → ℕ
  flushes_in it = it.flushes

  -- the fault that is kept, if one is
  abbrev pub fault_in : Book D F g → Option EngineFault
  fault_in it = it.fault

  -- the engine as it was when the book was made of it
  abbrev pub first_in : Book D F g → Engine D F g
  first_in it = it.first.value

  -- the lines of its script
  abbrev pub lines_in : Book D F g → List Line
  lines_in it = it.script.value

  -- The book is made of this engine and these lines: nothing was made yet, and all is left.
  pub record BeginsBook (engine : Engine D F g) (lines : List Line) (book : Book D F g) : Type 0 where
    pub first : first_in book ≡ engine
    pub lines_are : lines_in book ≡ lines
    pub lists : (client : ℕ) → list_of (left_in book) client ≡ commands_of client (requests_asked lines)
    pub collects : collects_in book ≡ steps_asked lines
    pub flushes : flushes_in book ≡ flushes_asked lines
    pub fault : fault_in book ≡ None
    pub serving : serving (engine_in book) ≡ serving engine
    pub disk : disk_in (engine_in book) ≡ disk_in engine
    pub start : KeepsStart engine (engine_in book)
