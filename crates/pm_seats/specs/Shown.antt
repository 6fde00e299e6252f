-- What contracts see of a logbook.
use Rattle.std.specs.Prelude.{◌≡◌, ℕ, ◌+◌, ◌-◌, List, [], length, zip, Option, Some, None}
use Rattle.pm_types.specs.declared.entry.Entry.{Entry}
use Rattle.pm_disk.specs.declared.disk.Disk.{Ghosts}
use Rattle.pm_saving.specs.Serving.{Serving}
use Rattle.pm_engine.specs.declared.engine.Engine.{Engine}
use Rattle.pm_engine.specs.Shown.{disk_in, serving}
use Rattle.pm_passes.specs.declared.view.Numbers.{Numbers}
use Rattle.pm_seats.specs.declared.logbook.Logbook.{Logbook}
use Rattle.pm_seats.specs.Callers.{callers_of}

-- how many calls were answered with a fault of the disk: one, where the engine is stopped
abbrev pub struck_of : Option ℕ → ℕ
struck_of None = 0
struck_of (Some count) = 1

-- What is counted of an engine and its disk's failed calls: the events of the collector; the flush events, which are
-- what is neither an entry nor the collector's; the calls that were answered with a fault of the disk; and all events.
abbrev pub numbers_of : Serving → ℕ → Numbers
numbers_of it faults = record {
  made = it.steps;
  flushed = it.events - (it.steps + length it.journal);
  struck = struck_of it.stopped;
  faults = faults;
  events = it.events;
}

module _ {D : Type 0} {F : Type 0} {g : Ghosts D} where
  -- its engine
  abbrev pub engine_in : Logbook D F g → Engine D F g
  engine_in it = it.engine

  -- the callers of the entries
  abbrev pub callers_in : Logbook D F g → List ℕ
  callers_in it = callers_of it.callers

  -- the number of the next pass
  abbrev pub next_in : Logbook D F g → ℕ
  next_in it = it.next

  -- the engine as it was when the logbook was made of it
  abbrev pub first_in : Logbook D F g → Engine D F g
  first_in it = it.first.value

  -- the entries, each with its caller
  abbrev pub log_in : Logbook D F g → List (ℕ × Entry)
  log_in it = zip (callers_in it) (serving (engine_in it)).journal

  -- what is counted
  abbrev pub numbers_in : Logbook D F g → Numbers
  numbers_in it = numbers_of (serving (engine_in it)) (g.count (disk_in (engine_in it)))

  -- The logbook is made of this engine: it has no entry, the next pass is number 1, and nothing is counted yet.
  pub record BeginsLogbook (engine : Engine D F g) (book : Logbook D F g) : Type 0 where
    pub engine_is : engine_in book ≡ engine
    pub first : first_in book ≡ engine
    pub log : log_in book ≡ []
    pub next : next_in book ≡ 1
    pub numbers : numbers_in book
        ≡ record { made = 0; flushed = 0; struck = 0; faults = g.count (disk_in engine); events = 0 }
