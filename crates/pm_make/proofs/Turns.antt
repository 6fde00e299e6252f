-- One more turn: the text of its lines stands behind that of the turns before it.
use Rattle.std.proofs.Common.{◌≡◌, ℕ, suc, ◌+◌, List, ◌++◌, ap, sym, ◌∙◌, add-one}
use Rattle.std.proofs.lemmas.Grind.{flat_map-append}
use Rattle.pm_script.specs.declared.line.Line.{Line}
use Rattle.pm_script.specs.Lines.{ended}
use Rattle.pm_script.specs.Script.{spelling, text_of}
use Rattle.pm_make.specs.declared.drawing.Turn.{Turn}
use Rattle.pm_make.specs.Drawing.{turn_of, turned, state_after}
use Rattle.pm_make.specs.Made.{turn_lines, thousandth_lines, first_lines}

texts : (a b c : List Line) → text_of ((a ++ b) ++ c) ≡ (text_of a ++ text_of b) ++ text_of c
texts a b c = flat_map-append (λ line. ended (spelling line)) (a ++ b) c ∙ ap (λ (t : List ℕ). t ++ text_of c) (flat_map-append (λ line. ended (spelling line)) a b)

-- the text after one more turn
pub text_more : (seed turns state : ℕ) (turn : Turn) (text : List ℕ) → text ≡ text_of (first_lines seed turns) → state ≡ state_after seed turns → turn ≡ turn_of state
    → (text ++ text_of (turn_lines turn)) ++ text_of (thousandth_lines (turns + 1)) ≡ text_of (first_lines seed (turns + 1))
text_more seed turns state turn text so_far at is =
    rw (is, at, so_far, add-one) (sym (texts (first_lines seed turns) (turn_lines (turn_of (state_after seed turns))) (thousandth_lines (suc turns))))

-- the state after one more turn
pub state_more : (seed turns state next : ℕ) → state ≡ state_after seed turns → next ≡ turned state → next ≡ state_after seed (turns + 1)
state_more seed turns state next at is = rw add-one (is ∙ ap turned at)
