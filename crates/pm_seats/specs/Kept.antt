-- What the type of a logbook keeps.
use Rattle.std.specs.Prelude.{◌≡◌, ℕ, ◌+◌, ◌<◌, ◌≤◌, ◌^◌, List, [], length, Option, Some, None}
use Rattle.std.specs.List.{AllByRecursion}
use Rattle.pm_types.specs.Counts.{Rose}
use Rattle.pm_types.specs.declared.entry.Entry.{Entry}
use Rattle.pm_disk.specs.declared.disk.Disk.{Ghosts}
use Rattle.pm_engine.specs.declared.engine.Engine.{Engine}
use Rattle.pm_engine.specs.declared.events.stop.Stop.{Stop}
use Rattle.pm_engine.specs.declared.events.stop.Stop.TheVariants.{Device}
use Rattle.pm_engine.specs.Shown.{disk_in, past_of, serving}
use Rattle.pm_engine.specs.Events.Events.{EngineGoesOn, FitsLine}

-- each entry of the journal has a caller, whose number was drawn: it is below the next one, which is over 0
pub record IsPaired (callers : List ℕ) (journal : List Entry) (next : ℕ) : Type 0 where
  pub each : length callers ≡ length journal
  pub drawn : AllByRecursion (λ number. number < next) callers
  pub some : 0 < next

-- why no event is made any more, where the engine is stopped: its disk failed
abbrev pub stop_in : Option ℕ → Option Stop
stop_in None = None
stop_in (Some count) = Some Device

-- an engine that is stopped with this count has the disk's count now, which rose since the first
abbrev pub StopsNow : Option ℕ → ℕ → ℕ → Type 0
StopsNow None first now = Unit {0}
StopsNow (Some count) first now = (count ≡ now) × Rose first now

-- What a logbook keeps of its engine, beside the one that it was made of, and of who made each entry.
pub record KeepsLogbook {D : Type 0} {F : Type 0} {g : Ghosts D} (first now : Engine D F g) (callers : List ℕ)
    (next : ℕ) : Type 0 where
  -- each entry has a caller
  pub paired : IsPaired callers (serving now).journal next
  -- the engine went on from the first as a run does, which stops only where the engine is stopped
  pub goes : EngineGoesOn first now (stop_in (serving now).stopped)
  -- no entry was let go
  pub whole : past_of now ≡ []
  -- where the engine is stopped it has the disk's count of failed calls now, which rose
  pub stopped : StopsNow (serving now).stopped (g.count (disk_in first)) (g.count (disk_in now))
  -- entries and the collector's events are events
  pub counted : length (serving now).journal + (serving now).steps ≤ (serving now).events
  -- which are so few that no count has stopped at its end
  pub few : (serving now).events < 2 ^ 50
  -- each entry's text is a line
  pub lines : AllByRecursion FitsLine (serving now).journal
