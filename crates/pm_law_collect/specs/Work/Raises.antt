-- How much a command may add.
use Rattle.std.specs.Prelude.{ℕ, if◌then◌else◌}
use Rattle.pm_types.specs.declared.command.Cmd.{Cmd}
use Rattle.pm_view.specs.Commands.{is_close}

-- by how much a command raises the work that is left, at most
abbrev pub raises : Cmd → ℕ
raises cmd = if is_close cmd then 3072 else 6
