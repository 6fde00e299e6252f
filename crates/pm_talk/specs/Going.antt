-- What parts of a conversation do to engine and disk, one behind another.
use Rattle.std.specs.Prelude.{◌≡◌, ℕ, List, [], Contains, Option, Some, None, Result, Ok, Err}
use Rattle.pm_types.specs.declared.fault.EngineFault.{EngineFault}
use Rattle.pm_types.specs.declared.fault.EngineFault.TheVariants.{Memory, Disk, Reopen}
use Rattle.pm_disk.specs.declared.disk.Disk.{Ghosts}
use Rattle.pm_disk.specs.Disk.{LeavesOnly}
use Rattle.pm_model.specs.Journal.{chain}
use Rattle.pm_model.specs.World.{Copy}
use Rattle.pm_saving.specs.Serving.{opening}
use Rattle.pm_saving.specs.Images.{IsLast, IsOfRun, IsTold}
use Rattle.pm_engine.specs.declared.engine.Engine.{Engine}
use Rattle.pm_engine.specs.Shown.{KeepsStart, disk_in, opened_disk, serving}
use Rattle.pm_engine.specs.declared.events.stop.Stop.{Stop}
use Rattle.pm_engine.specs.declared.events.stop.Stop.TheVariants.{Device}
use Rattle.pm_engine.specs.Events.Causes.{CountsDisk, IsOfDisk}
use Rattle.pm_engine.specs.Events.Events.{WasIdle}

-- why a conversation stops after this fault, if it does: memory ends nothing
abbrev pub halt_of : EngineFault → Option Stop
halt_of (Memory _) = None
halt_of (Disk before after) = Some Device
halt_of (Reopen count) = Some Device

-- the same of what a call answered
abbrev pub halt_after : {T : Type 0} → Result T EngineFault → Option Stop
halt_after (Ok x) = None
halt_after (Err fault) = halt_of fault

module _ {D : Type 0} {F : Type 0} {g : Ghosts D} where
  -- What a part of a conversation does to engine and disk, by why it stops in it, if it does. Entries may be let go.
  pub record TalkGoesOn (old new : Engine D F g) (stop : Option Stop) : Type 0 where
    pub start : KeepsStart old new
    -- what was acknowledged stays so
    pub grows : (kept : ℕ × Copy) → Contains (chain (opening (serving old)) (serving old).journal) kept → Contains (chain (opening (serving new)) (serving new).journal) kept
    -- at each moment a crash leaves a copy that was acknowledged; where the disk failed, or the one in progress
    pub leaves : IsTold (g.contents (opened_disk old)) → LeavesOnly g.moment g.since (disk_in old) (disk_in new) (IsOfRun (serving new))
    -- where it failed, that is the last acknowledged one
    pub last : IsOfDisk stop → IsTold (g.contents (opened_disk old)) → (left : List ℕ) → g.image (disk_in new) left → IsLast (serving new) left
    -- the engine is stopped only where the disk failed
    pub going : (IsOfDisk stop → ⊥) → (serving new).stopped ≡ None
    -- whose count of failed calls rose
    pub cause : CountsDisk stop (g.count (disk_in old)) (g.count (disk_in new))
    -- no read reached past the end of what the disk told
    pub past : (g.made (disk_in new)).past ≡ (g.made (disk_in old)).past
    -- where no command is answered still
    pub idle : (serving new).journal ≡ [] → WasIdle (serving old) (serving new) (disk_in old) (disk_in new)
