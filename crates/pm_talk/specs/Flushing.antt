-- One flush event, and why events, or a command, were not made.
use Rattle.std.specs.Prelude.{◌≡◌, ◌⊎◌, ℕ, ◌+◌, ◌<◌, ◌≤◌, true, List, IsSome}
use Rattle.pm_types.specs.declared.command.Cmd.{Cmd}
use Rattle.pm_types.specs.declared.event.Flushed.{Flushed}
use Rattle.pm_types.specs.declared.event.Flushed.TheVariants.{Wrote, AllFlushed}
use Rattle.pm_types.specs.declared.fault.EngineFault.{EngineFault}
use Rattle.pm_types.specs.declared.fault.EngineFault.TheVariants.{Memory, Disk, Reopen}
use Rattle.pm_types.specs.declared.caused.Fault.{Fault}
use Rattle.pm_types.specs.declared.caused.Fault.TheVariants.{Bad, Memory as NoRoom}
use Rattle.pm_script.specs.declared.fault.Cause.{Cause}
use Rattle.pm_model.specs.Frames.{is_settle}
use Rattle.pm_saving.specs.Paging.{left_of}
use Rattle.pm_saving.specs.Serving.{Serving}
use Rattle.pm_saving.specs.Events.{Flushes, ServesNothing}
use Rattle.pm_engine.specs.Events.Events.{IsUnfinished}
use Rattle.pm_talk.specs.Events.{FlushesFewer, FlushesUntil}
use Rattle.pm_talk.specs.Texts.{fault_line, no_memory_line}

-- memory ran out
abbrev pub IsOfMemory : EngineFault → Type 0
IsOfMemory (Memory _) = Unit {0}
IsOfMemory fault = ⊥

-- how many pages a flush event wrote
abbrev pub pages_by : Flushed → ℕ
pages_by (Wrote page) = 1
pages_by AllFlushed = 0

-- A flush event was made, and wrote so many pages, one at most: none where none is left.
pub record FlushesOne (wrote : ℕ) (old new : Serving) : Type 0 where
  pub flushes : Flushes old new
  pub written : wrote + left_of new.saving.progress ≡ left_of old.saving.progress
  pub within : wrote ≤ 1
  pub none : wrote < 1 → left_of new.saving.progress ≡ 0

-- why not all of so many flush events were made
abbrev pub StopsFlushing : ℕ → Serving → Serving → EngineFault → Type 0
StopsFlushing count old new (Memory _) = FlushesFewer count old new
StopsFlushing count old new (Disk before after) = FlushesUntil count old new
StopsFlushing count old new (Reopen since) = ⊥

-- the line that is told to one that was not read
abbrev pub IsUnread : Fault Cause → List ℕ → Type 0
IsUnread (Bad cause) line = line ≡ fault_line cause
IsUnread (NoRoom _) line = line ≡ no_memory_line

-- why a command was not answered: after want of memory nothing changed, unless `settle` wrote pages, and one is left
abbrev pub StopsCommand : Cmd → Serving → Serving → EngineFault → Type 0
StopsCommand cmd old new (Memory _) = (new ≡ old) ⊎ ((is_settle cmd ≡ true) × ServesNothing old new × IsUnfinished new)
StopsCommand cmd old new (Disk before after) = (is_settle cmd ≡ true) × ServesNothing old new × IsSome new.stopped
StopsCommand cmd old new (Reopen since) = ⊥
