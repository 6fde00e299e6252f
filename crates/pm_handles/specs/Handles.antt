-- The registers of all clients as a finite map.
use Rattle.std.specs.Prelude.{ℕ, ◌+◌, ◌/◌, ◌%◌, List, [], ◌∷◌, Option, Some, None}
use Rattle.std.specs.FinMap.{FinMap, insert, remove}
use Rattle.pm_types.specs.declared.address.Addr.{Addr}
use Rattle.pm_types.specs.Orders.{place_cmp}
use Rattle.pm_types.specs.declared.limits.TheConstants.{REGISTERS}

-- the address that each register holds, at (client, register); an empty register has none
abbrev pub Registers : Type 0
Registers = FinMap place_cmp Addr

-- the registers where this one holds the address, or nothing, and every other one what it held
abbrev pub with_register : Registers → ℕ × ℕ → Option Addr → Registers
with_register registers place None = remove registers place
with_register registers place (Some at) = insert registers place at

-- what registers hold that are listed one after another, the first being the one of this number
abbrev pub held_from : ℕ → List (Option Addr) → List ((ℕ × ℕ) × Addr)
held_from number [] = []
held_from number (None ∷ rest) = held_from (number + 1) rest
held_from number (Some at ∷ rest) = ((number / REGISTERS, number % REGISTERS), at) ∷ held_from (number + 1) rest
