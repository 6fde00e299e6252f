-- What a turn draws is below its limits.
use Rattle.std.proofs.Common.{ℕ, ◌<◌, Bool, true, false, Some, None, arith, lit<, if◌then◌else◌}
use Rattle.std.specs.Prelude.{IfSome}
use Rattle.pm_make.specs.Drawing.{drawn, after, binds, turn_of, IsDrawn}

pub drawn_small : (x limit : ℕ) → 0 < limit → drawn x limit < limit
unfolding drawn
drawn_small x limit some = omega arith

name_by : (test : Bool) (name : ℕ) → name < 16 → IfSome (if test then Some name else None) (λ name. name < 16)
name_by true name small = small
name_by false name small = tt

pub turn_drawn : (x : ℕ) → IsDrawn (turn_of x)
turn_drawn x = record {
  register = drawn_small (after 1 x) 64 (lit< tt);
  bytes = drawn_small (after 2 x) 65536 (lit< tt);
  value = drawn_small (after 3 x) 64 (lit< tt);
  index = drawn_small (after 4 x) 4 (lit< tt);
  name = name_by (binds (after 4 x)) (drawn (after 2 (after 4 x)) 16) (drawn_small (after 2 (after 4 x)) 16 (lit< tt));
}
