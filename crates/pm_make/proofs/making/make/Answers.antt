use Rattle.std.proofs.Common.{subst, sym, ap, ◌∙◌, ◌<◌, ◌++◌, ◌+◌, List, ℕ}
use Rattle.pm_script.specs.Script.{text_of}
use Rattle.pm_make.specs.declared.drawing.Turn.{Turn}
use Rattle.pm_make.specs.Made.{thousandth_lines}
use Rattle.pm_make.proofs.Drawn.{turn_drawn}
use Rattle.pm_make.proofs.Turns.{text_more, state_more}
use Rattle.pm_make.proofs.making.make.Goals as goal

pub append_turn-requires : goal.append_turn-requires
append_turn-requires c = subst (λ (t : Turn). t.bytes < 65536) (sym c.turn-drawn.ensures.turn) (turn_drawn c.loop-turn.draws.state).bytes

pub loop-turn-preserved : goal.loop-turn-preserved
loop-turn-preserved c = (
  c.in_ok-append_thousandth.ensures
      ∙ ap (λ (t : List ℕ). t ++ text_of (thousandth_lines (c.loop-turn.turn + 1))) c.in_ok-append_turn.ensures
      ∙ text_more c.args.seed c.loop-turn.turn c.loop-turn.draws.state c.turn-drawn.result c.loop-turn.out.items c.loop-turn.invariant.0 c.loop-turn.invariant.1 c.turn-drawn.ensures.turn,
  state_more c.args.seed c.loop-turn.turn c.loop-turn.draws.state c.turn-drawn.new.self.state c.loop-turn.invariant.1 c.turn-drawn.ensures.state,
)
