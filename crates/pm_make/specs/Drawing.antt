-- Numbers that are drawn one after the other, each from the state that the one before left.
use Rattle.std.specs.Prelude.{ℕ, zero, suc, Bool, ◌+◌, ◌*◌, ◌/◌, ◌%◌, ◌^◌, ◌==◌, ◌<◌, if◌then◌else◌, Option, Some, None, IfSome}
use Rattle.pm_make.specs.declared.drawing.Turn.{Turn}

-- a draw makes this state of the state before it
unfoldable pub stepped : ℕ → ℕ
stepped x = (x * 69069 + 1) % 2 ^ 32

-- and gives this number below a limit
unfoldable pub drawn : ℕ → ℕ → ℕ
drawn x limit = (x / 65536) % limit

-- the state after so many draws
abbrev pub after : ℕ → ℕ → ℕ
after zero x = x
after (suc draws) x = stepped (after draws x)

-- one draw in eight is 0: then a name is bound
abbrev pub binds : ℕ → Bool
binds x = drawn (after 1 x) 8 == 0

-- the number of the name, which is drawn only where one is bound
abbrev pub name_from : ℕ → Option ℕ
name_from x = if binds x then Some (drawn (after 2 x) 16) else None

-- the state after that
abbrev pub named : ℕ → ℕ
named x = if binds x then after 2 x else after 1 x

-- what a turn draws, in this order, the state before it being x: a register, two bytes, another register, the index of
-- a field, and whether a name is bound, and which
abbrev pub turn_of : ℕ → Turn
turn_of x = record {
  register = drawn (after 1 x) 64;
  bytes = drawn (after 2 x) 65536;
  value = drawn (after 3 x) 64;
  index = drawn (after 4 x) 4;
  name = name_from (after 4 x);
}

-- each number of a turn is below the limit under which it is drawn
pub record IsDrawn (turn : Turn) : Type 0 where
  pub register : turn.register < 64
  pub bytes : turn.bytes < 65536
  pub value : turn.value < 64
  pub index : turn.index < 4
  pub name : IfSome turn.name (λ name. name < 16)

-- the state after a turn
abbrev pub turned : ℕ → ℕ
turned x = named (after 4 x)

-- the state after so many turns; before the first it is the seed
abbrev pub state_after : ℕ → ℕ → ℕ
state_after seed zero = seed
state_after seed (suc turns) = turned (state_after seed turns)
