-- What holds of the registers at every moment.
use Rattle.std.specs.Prelude.{ℕ, ◌<◌, IsSome}
use Rattle.std.specs.FinMap.{get}
use Rattle.pm_handles.specs.Handles.{Registers}
use Rattle.pm_types.specs.declared.limits.TheConstants.{CLIENTS, REGISTERS}

-- a register that holds an address is one of 1,024 of one of 8 clients
pub record IsSound (registers : Registers) : Type 0 where
  pub clients : (client register : ℕ) → IsSome (get registers (client, register)) → client < CLIENTS
  pub numbers : (client register : ℕ) → IsSome (get registers (client, register)) → register < REGISTERS
