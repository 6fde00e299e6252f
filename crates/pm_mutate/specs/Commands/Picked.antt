-- Rows of commands for what was picked.
use Rattle.std.specs.Prelude.{◌≡◌, ℕ}
use Rattle.pm_types.specs.declared.command.Cmd.{Cmd}
use Rattle.pm_types.specs.declared.reply.Reply.{Reply}
use Rattle.pm_roots.specs.Bindings.{IsFree}
use Rattle.pm_view.specs.View.{SpaceView}
use Rattle.pm_view.specs.Rows.{IsVacant}
use Rattle.pm_view.specs.Commands.{Picks, ArePicked, row}

-- this is the row for some number of a root that no name has
abbrev pub IsForSomeRoot : SpaceView → (ℕ → Reply × SpaceView) → Reply × SpaceView → Type 0
IsForSomeRoot view row given = (number : ℕ) × IsFree view.roots number × (given ≡ row number)

-- this is the row for the least number from 1 on that no car has
abbrev pub IsForSomeCar : {A : Type 0} → SpaceView → (ℕ → A × SpaceView) → A × SpaceView → Type 0
IsForSomeCar view row given = (number : ℕ) × IsVacant view.cars number × (given ≡ row number)

-- this is the command's row, for what is picked for it
abbrev pub IsRow : SpaceView → ℕ → Cmd → Reply × SpaceView → Type 0
IsRow view client cmd given = (picks : Picks) × ArePicked view picks × (given ≡ row view client cmd picks)
