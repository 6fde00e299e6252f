-- What a command of a client does to the space.
use Rattle.std.specs.Prelude.{◌≡◌, ℕ, true, false}
use Rattle.pm_types.specs.declared.command.Cmd.{Cmd}
use Rattle.pm_types.specs.declared.reply.Reply.{Reply}
use Rattle.pm_view.specs.View.{SpaceView}
use Rattle.pm_view.specs.Commands.{is_act, is_new}
use Rattle.pm_view.specs.Objects.{KeepsObjects}
use Rattle.pm_mutate.specs.Acts.{IsBirth, IsStill}
use Rattle.pm_mutate.specs.Commands.Picked.{IsRow}

-- A command on the space: its reply, and the whole space after it, are those of its row. A refusal leaves the space as it
-- is. A `new` that is not refused adds one object to the open train, which is a new one exactly where 1,024 objects were
-- born in the one before; every other command leaves each object where it stands.
pub record DoesItsRow (client : ℕ) (cmd : Cmd) (old new : SpaceView) (reply : Reply) : Type 0 where
  pub row : IsRow old client cmd (reply, new)
  pub refused : IsStill old cmd reply new
  pub still : is_new cmd ≡ false → KeepsObjects old new
  pub born : IsBirth old cmd reply new

-- A command on the space does its row, and every other one leaves the space as it is. None completes a collection, and none
-- begins or ends one.
pub record ChangesSpace (client : ℕ) (cmd : Cmd) (old new : SpaceView) (reply : Reply) : Type 0 where
  pub acts : is_act cmd ≡ true → DoesItsRow client cmd old new reply
  pub stays : is_act cmd ≡ false → new ≡ old
  pub completed : new.completed ≡ old.completed
  pub phase : new.phase ≡ old.phase
