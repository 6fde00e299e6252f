use Rattle.std.proofs.Common.{subst, sym}
use Rattle.pm_make.specs.Drawing.{IsDrawn}
use Rattle.pm_make.proofs.Drawn.{turn_drawn}
use Rattle.pm_make.proofs.script_lines.make_lines.Goals as goal

pub add_turn-requires : goal.add_turn-requires
add_turn-requires c = subst IsDrawn (sym c.turn-drawn.ensures.turn) (turn_drawn c.loop-turn.draws.state)
