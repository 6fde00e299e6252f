-- On which side a command's registers lie.
use Rattle.std.specs.Prelude.{ℕ, Option, Some, None}
use Rattle.std.specs.FinMap.{get}
use Rattle.pm_types.specs.declared.command.Cmd.{Cmd}
use Rattle.pm_types.specs.declared.command.Cmd.TheVariants.{Load, Clear, Show, Put, Copy, IdOf, Forget, Bind, Store, Swap}
use Rattle.pm_nursery.specs.Young.{NurseryView}
use Rattle.pm_young.specs.declared.sides.Side.{Side}
use Rattle.pm_young.specs.declared.sides.Side.TheVariants.{Within, Young, Both}
use Rattle.pm_young.specs.Setting.{ReadsNone, ReadsYoung}

-- the command reads no register that holds a young object; or such ones alone; or others
abbrev pub IsOnSide : NurseryView → ℕ → Cmd → Side → Type 0
IsOnSide nursery client cmd Within = ReadsNone nursery client cmd
IsOnSide nursery client cmd Young = ReadsYoung nursery client cmd
IsOnSide nursery client cmd Both = Unit {0}

-- the side of what a register of the nursery holds
abbrev pub side_held : Option ℕ → Side
side_held None = Within
side_held (Some id) = Young

-- the side of two
abbrev pub side_both : Side → Side → Side
side_both Within Within = Within
side_both Young Young = Young
side_both one other = Both

-- the side of a register
abbrev pub side_at : NurseryView → ℕ → ℕ → Side
side_at nursery client reg = side_held (get nursery.registers (client, reg))

-- the side of the registers that the command reads: within, if it reads none
abbrev pub side_of : NurseryView → ℕ → Cmd → Side
side_of nursery client (Load to reg index) = side_at nursery client reg
side_of nursery client (Clear reg index) = side_at nursery client reg
side_of nursery client (Show reg) = side_at nursery client reg
side_of nursery client (Put reg at bytes) = side_at nursery client reg
side_of nursery client (Copy to reg) = side_at nursery client reg
side_of nursery client (IdOf reg) = side_at nursery client reg
side_of nursery client (Forget reg) = side_at nursery client reg
side_of nursery client (Bind name reg) = side_at nursery client reg
side_of nursery client (Store reg index value) = side_both (side_at nursery client reg) (side_at nursery client value)
side_of nursery client (Swap reg index old value) =
    side_both (side_at nursery client reg) (side_both (side_at nursery client old) (side_at nursery client value))
side_of nursery client cmd = Within
