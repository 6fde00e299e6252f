use Rattle.std.proofs.Common.{◌≡◌}
use Rattle.pm_make.specs.Drawing.{state_after}
use Rattle.pm_make.specs.Made.{first_lines}
use Rattle.pm_make.proofs.script_lines.make_lines.Given as goal

-- the lines of the turns so far, and the state after them
abbrev pub invariant-loop-turn : goal.invariant-loop-turn
invariant-loop-turn l = (l.lines.items ≡ first_lines l.seed l.turn) × (l.draws.state ≡ state_after l.seed l.turn)
