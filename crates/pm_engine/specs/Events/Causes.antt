-- Why a run of events stops, and what that says of the count of failed calls.
use Rattle.std.specs.Prelude.{◌≡◌, ℕ, Option, Some, None, Result, Ok, Err}
use Rattle.pm_types.specs.Memory.{no_memory}
use Rattle.pm_types.specs.Counts.{Rose}
use Rattle.pm_types.specs.declared.fault.EngineFault.{EngineFault}
use Rattle.pm_types.specs.declared.fault.EngineFault.TheVariants.{Memory as NoRoom, Disk, Reopen}
use Rattle.pm_engine.specs.declared.events.stop.Stop.{Stop}
use Rattle.pm_engine.specs.declared.events.stop.Stop.TheVariants.{Memory, Device}

-- why the run stops after this fault
abbrev pub stop_of : EngineFault → Stop
stop_of (NoRoom _) = Memory no_memory
stop_of (Disk before after) = Device
stop_of (Reopen count) = Device

-- why a call failed, if it did
abbrev pub why : {T E : Type 0} → Result T E → Option E
why (Ok x) = None
why (Err e) = Some e

-- why a run stops after this answer of the engine, if it does
abbrev pub stop_after : {T : Type 0} → Result T EngineFault → Option Stop
stop_after (Ok x) = None
stop_after (Err fault) = Some (stop_of fault)

-- the disk's count rose where the run stopped for it, and else stands still
abbrev pub CountsDisk : Option Stop → ℕ → ℕ → Type 0
CountsDisk (Some Device) before after = Rose before after
CountsDisk stop before after = after ≡ before

-- the run came to its end
abbrev pub IsDone : Option Stop → Type 0
IsDone None = Unit {0}
IsDone (Some stop) = ⊥

-- the run stopped for the disk
abbrev pub IsOfDisk : Option Stop → Type 0
IsOfDisk (Some Device) = Unit {0}
IsOfDisk stop = ⊥

-- where memory ran out
abbrev pub OnMemory : Option Stop → Type 0 → Type 0
OnMemory (Some (Memory _)) P = P
OnMemory stop P = Unit {0}

-- where the run stopped
abbrev pub OnStop : Option Stop → Type 0 → Type 0
OnStop None P = Unit {0}
OnStop (Some stop) P = P
