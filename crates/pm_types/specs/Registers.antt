-- Registers of a command.
use Rattle.std.specs.Prelude.{◌<◌}
use Rattle.pm_types.specs.declared.limits.TheConstants.{REGISTERS}
use Rattle.pm_types.specs.declared.command.Cmd.{Cmd}
use Rattle.pm_types.specs.declared.command.Cmd.TheVariants.{New, Load, Store, Clear, Show, Put, Copy, IdOf, Forget, Bind, Find, Swap}

-- each register of the command is one that a client has
abbrev pub HasRegisters : Cmd → Type 0
HasRegisters (New reg count bytes) = reg < REGISTERS
HasRegisters (Load to reg index) = (to < REGISTERS) × (reg < REGISTERS)
HasRegisters (Store reg index value) = (reg < REGISTERS) × (value < REGISTERS)
HasRegisters (Clear reg index) = reg < REGISTERS
HasRegisters (Show reg) = reg < REGISTERS
HasRegisters (Put reg at bytes) = reg < REGISTERS
HasRegisters (Copy to reg) = (to < REGISTERS) × (reg < REGISTERS)
HasRegisters (IdOf reg) = reg < REGISTERS
HasRegisters (Forget reg) = reg < REGISTERS
HasRegisters (Bind name reg) = reg < REGISTERS
HasRegisters (Find to name) = to < REGISTERS
HasRegisters (Swap reg index old value) = (reg < REGISTERS) × (old < REGISTERS) × (value < REGISTERS)
HasRegisters cmd = Unit {0}
