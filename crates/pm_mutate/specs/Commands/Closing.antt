-- How many changes cars are told where the registers of a client are emptied.
use Rattle.std.specs.Prelude.{ℕ, ◌+◌, zero, suc}
use Rattle.std.specs.FinMap.{get}
use Rattle.pm_view.specs.View.{Registers}
use Rattle.pm_space.specs.Linked.{told_by}

-- how many of the registers of a client below a number store an address in this car
abbrev pub stored_in : Registers → ℕ → ℕ → ℕ → ℕ
stored_in registers client zero car = 0
stored_in registers client (suc register) car = stored_in registers client register car + told_by car (get registers (client, register))
