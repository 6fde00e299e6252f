-- How many lines a script has, and that it keeps the limits of scripts.
use Rattle.std.proofs.Common.{◌≡◌, ℕ, zero, suc, ◌+◌, ◌*◌, ◌/◌, ◌%◌, ◌≤◌, ◌==◌, Bool, true, false, List, [], ◌∷◌, ◌++◌, length, Option, Some, None, refl, arith, length-append, if◌then◌else◌}
use Rattle.std.specs.List.{AllByRecursion}
use Rattle.std.proofs.lemmas.Bool.{eqb-true}
use Rattle.pm_script.specs.declared.line.Line.{Line}
use Rattle.pm_script.specs.Lines.{ended}
use Rattle.pm_script.specs.Script.{IsLine, spelling, text_of, HasSpelling}
use Rattle.pm_make.specs.Drawing.{state_after, turn_of}
use Rattle.pm_make.specs.Made.{root_lines, turn_lines, checkpoint_lines, thousandth_lines, first_lines, last_lines, made_lines}
use Rattle.pm_make.proofs.Short.{IsShort, made_short}

root_count : (name : Option ℕ) (register : ℕ) → length (root_lines name register) ≤ 1
root_count None register = omega arith
root_count (Some name) register = omega arith

turn_count : (x : ℕ) → length (turn_lines (turn_of x)) ≤ 4
turn_count x = let turn = turn_of x in let few = root_count turn.name turn.register in simp length-append (omega (arith, few))

thousandth_count_by : (turns : ℕ) (test : Bool) → (suc turns % 1000 == 0) ≡ test → length (if test then checkpoint_lines else []) + 2 * (turns / 1000) ≤ 2 * (suc turns / 1000)
thousandth_count_by turns true is = let none = eqb-true (suc turns % 1000) 0 is in omega (arith, none)
thousandth_count_by turns false is = omega arith

first_count : (seed turns : ℕ) → length (first_lines seed turns) ≤ 4 * turns + 2 * (turns / 1000)
first_count seed zero = omega arith
first_count seed (suc turns) =
    let before = first_count seed turns in
    let turn = turn_count (state_after seed turns) in
    let rest = thousandth_count_by turns (suc turns % 1000 == 0) refl in
    let a = length-append (first_lines seed turns ++ turn_lines (turn_of (state_after seed turns))) (thousandth_lines (suc turns)) in
    let b = length-append (first_lines seed turns) (turn_lines (turn_of (state_after seed turns))) in
    omega (arith, before, turn, rest, a, b)

-- a script has few lines for its turns
pub made_count : (seed turns : ℕ) → length (made_lines seed turns) ≤ 4 * turns + 2 * (turns / 1000) + 5
made_count seed turns =
    let before = first_count seed turns in
    let a = length-append (first_lines seed turns) last_lines in
    omega (arith, before, a)

-- and few for the most turns
pub made_few : (seed turns : ℕ) → turns ≤ 16000 → length (made_lines seed turns) ≤ 64037
made_few seed turns few = let count = made_count seed turns in omega (arith, count)

each_line : (lines : List Line) → AllByRecursion IsShort lines → AllByRecursion IsLine lines
each_line [] are = tt
each_line (line ∷ lines) are = (are.0.is, each_line lines are.1)

each_narrow : (lines : List Line) → AllByRecursion IsShort lines → AllByRecursion (λ line. length (spelling line) ≤ 16384) lines
each_narrow [] are = tt
each_narrow (line ∷ lines) are = (let short = are.0.short in let long = length-append (spelling line) (10 ∷ []) in omega (arith, short, long), each_narrow lines are.1)

text_short : (lines : List Line) → AllByRecursion IsShort lines → length (text_of lines) ≤ 32 * length lines
text_short [] are = omega arith
text_short (line ∷ lines) are =
    let more = text_short lines are.1 in
    let short = are.0.short in
    let both = length-append (ended (spelling line)) (text_of lines) in
    omega (arith, more, short, both)

-- a script keeps the limits
pub made_spelled : (seed turns : ℕ) → turns ≤ 16000 → HasSpelling (made_lines seed turns)
made_spelled seed turns few =
    let are = made_short seed turns in
    let count = made_few seed turns few in
    let short = text_short (made_lines seed turns) are in
    record {
      each = each_line (made_lines seed turns) are;
      narrow = each_narrow (made_lines seed turns) are;
      few = omega (arith, count);
      short = omega (arith, count, short);
    }
