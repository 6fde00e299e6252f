-- Any call of an engine with a nursery that makes an event.
use Rattle.std.specs.Prelude.{◌≡◌, ◌⊎◌, ℕ, List, Option, Some, None, Result, Ok, Err}
use Rattle.std.specs.Borrow.{Bor}
use Rattle.std.specs.Fn.{Shared}
use Rattle.pm_types.specs.declared.command.Cmd.{Cmd}
use Rattle.pm_types.specs.declared.event.Flushed.{Flushed}
use Rattle.pm_types.specs.declared.event.Step.{Step}
use Rattle.pm_types.specs.declared.fault.EngineFault.{EngineFault}
use Rattle.pm_types.specs.declared.fault.EngineFault.TheVariants.{Memory, Disk, Reopen}
use Rattle.pm_types.specs.declared.reply.Reply.{Reply}
use Rattle.pm_disk.specs.declared.disk.Disk.{Ghosts}
use Rattle.pm_young.specs.declared.engine.YoungEngine.{YoungEngine}
use Rattle.pm_young.specs.Calls.{AnswersYoungCollect, AnswersYoungFlush, Sweeps}
use Rattle.pm_young.specs.Clients.{AnswersYoungClient}

-- what a call answered: no fault, or this one
abbrev pub fault_of : {T : Type 0} → Result T EngineFault → Option EngineFault
fault_of (Ok answer) = None
fault_of (Err fault) = Some fault

-- no fault, or want of memory
abbrev pub IsOkOrMemory : Option EngineFault → Type 0
IsOkOrMemory None = Unit {0}
IsOkOrMemory (Some (Memory _)) = Unit {0}
IsOkOrMemory (Some (Disk before after)) = ⊥
IsOkOrMemory (Some (Reopen count)) = ⊥

module _ {D : Type 0} {F : Type 0} {g : Ghosts D} where
  -- a command of some client was asked by `client` or `give`
  abbrev pub IsAsked : YoungEngine D F g → YoungEngine D F g → Option EngineFault → Type 0
  IsAsked old new fault = (client : ℕ) × (cmd : Cmd) × (result : Result Reply EngineFault) × AnswersYoungClient client cmd old new result × (fault_of result ≡ fault)

  abbrev pub IsSweep : YoungEngine D F g → YoungEngine D F g → Option EngineFault → Type 0
  IsSweep old new fault = (result : Result (Unit {0}) EngineFault) × Sweeps old new result × (fault_of result ≡ fault)

  abbrev pub IsCollect : Shared F (Bor (List ℕ) × Unit {0}) ℕ → YoungEngine D F g → YoungEngine D F g → Option EngineFault → Type 0
  IsCollect calls old new fault = (result : Result Step EngineFault) × AnswersYoungCollect calls old new result × (fault_of result ≡ fault)

  abbrev pub IsFlush : YoungEngine D F g → YoungEngine D F g → Option EngineFault → Type 0
  IsFlush old new fault = (result : Result Flushed EngineFault) × AnswersYoungFlush old new result × (fault_of result ≡ fault)

  -- a call was made that makes an event, whichever it is, and answered this fault or none; the calls are those of the chooser
  abbrev pub IsCalled : Shared F (Bor (List ℕ) × Unit {0}) ℕ → YoungEngine D F g → YoungEngine D F g → Option EngineFault → Type 0
  IsCalled calls old new fault = IsSweep old new fault ⊎ IsCollect calls old new fault ⊎ IsFlush old new fault ⊎ IsAsked old new fault
