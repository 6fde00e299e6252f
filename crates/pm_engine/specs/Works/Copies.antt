-- What becomes of an engine's copies while a command is answered.
use Rattle.std.specs.Prelude.{◌≡◌, ◌⊎◌, ℕ, true, List, Result, MatchResult}
use Rattle.pm_types.specs.declared.command.Cmd.{Cmd}
use Rattle.pm_types.specs.declared.fault.EngineFault.{EngineFault}
use Rattle.pm_types.specs.declared.fault.EngineFault.TheVariants.{Memory, Disk, Reopen}
use Rattle.pm_types.specs.declared.reply.Reply.{Reply}
use Rattle.pm_model.specs.Frames.{is_settle}
use Rattle.pm_saving.specs.Serving.{Serving, world}
use Rattle.pm_saving.specs.Images.{IsCopyInProgress, IsSettledCopy}

-- the fault is one of the disk
abbrev pub IsOfDisk : EngineFault → Type 0
IsOfDisk (Memory _) = ⊥
IsOfDisk (Disk before after) = Unit {0}
IsOfDisk (Reopen count) = ⊥

-- the copy in progress stays, with the cars that were frozen for it, and so do the settled cars
pub record KeepsCopies (old new : Serving) : Type 0 where
  pub saving : new.saving ≡ old.saving
  pub frozen : new.frozen ≡ old.frozen

-- What may stand at a moment of a call: the copy that had settled; or, where `settle` was answered, or the disk failed in
-- it, the one that was in progress.
abbrev pub MayStand : Cmd → Serving → Result Reply EngineFault → List ℕ → Type 0
MayStand cmd it result image =
    IsSettledCopy (world it) image ⊎ ((is_settle cmd ≡ true) × MatchResult result (λ _. Unit {0}) IsOfDisk × IsCopyInProgress (world it) image)
