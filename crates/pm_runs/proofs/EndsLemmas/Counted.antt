-- How many events the lines of a script ask for: so few that no count comes to its end.
use Rattle.std.proofs.Common.{◌≡◌, ℕ, ◌+◌, ◌*◌, ◌<◌, ◌≤◌, List, [], ◌∷◌, length, sym, ap, ◌∙◌, arith}
use Rattle.std.proofs.lemmas.List.Sums.{sum_by-cons}
use Rattle.pm_types.specs.Counts.{greatest_count}
use Rattle.pm_types.specs.declared.entry.Entry.{Entry}
use Rattle.pm_script.specs.declared.line.Line.{Line}
use Rattle.pm_script.specs.declared.line.Line.TheVariants.{Client, Gc, Flush}
use Rattle.pm_script.specs.Words.{AreSpelled}
use Rattle.pm_script.specs.Script.{AreBodies, IsScript, said}
use Rattle.pm_script.proofs.ScriptLaws.{lines_of_script}
use Rattle.pm_engine.specs.Shown.{Total}
use Rattle.pm_script.specs.Parted.Asked.{events_asked, flushes_asked, flushes_of, requests_asked, steps_asked, steps_of}
use Rattle.pm_runs.specs.Ends.Journals.{MakesAll}

-- what a line asks for is below 2^32
pub line_steps : (line : Line) (words : List (List ℕ)) → AreSpelled (said line).1 words → steps_of line ≤ 4294967295
line_steps (Client client cmd) words spelled = omega arith
line_steps (Gc count) [] spelled = absurd spelled
line_steps (Gc count) (word ∷ words) spelled = let below : count < 4294967296 = spelled.0.0 in omega arith
line_steps (Flush count) words spelled = omega arith

pub line_flushes : (line : Line) (words : List (List ℕ)) → AreSpelled (said line).1 words → flushes_of line ≤ 4294967295
line_flushes (Client client cmd) words spelled = omega arith
line_flushes (Gc count) words spelled = omega arith
line_flushes (Flush count) [] spelled = absurd spelled
line_flushes (Flush count) (word ∷ words) spelled = let below : count < 4294967296 = spelled.0.0 in omega arith

few_steps : (bodies : List (List ℕ)) (lines : List Line) → AreBodies bodies lines → steps_asked lines ≤ length lines * 4294967295
few_steps [] [] are = omega arith
few_steps [] (line ∷ lines) are = absurd are
few_steps (body ∷ bodies) [] are = absurd are
few_steps (body ∷ bodies) (line ∷ lines) are =
    let one = line_steps line are.0.words are.0.values in
    let more = few_steps bodies lines are.1 in
    omega (arith, one, more, sum_by-cons steps_of line lines)

few_flushes : (bodies : List (List ℕ)) (lines : List Line) → AreBodies bodies lines → flushes_asked lines ≤ length lines * 4294967295
few_flushes [] [] are = omega arith
few_flushes [] (line ∷ lines) are = absurd are
few_flushes (body ∷ bodies) [] are = absurd are
few_flushes (body ∷ bodies) (line ∷ lines) are =
    let one = line_flushes line are.0.words are.0.values in
    let more = few_flushes bodies lines are.1 in
    omega (arith, one, more, sum_by-cons flushes_of line lines)

pub few_requests : (lines : List Line) → length (requests_asked lines) ≤ length lines
few_requests [] = omega arith
few_requests (Client client cmd ∷ lines) = let more = few_requests lines in omega (arith, more)
few_requests (Gc count ∷ lines) = let more = few_requests lines in omega (arith, more)
few_requests (Flush count ∷ lines) = let more = few_requests lines in omega (arith, more)

pub summed : (n r s f : ℕ) → n ≤ 65536 → r ≤ n → s ≤ n * 4294967295 → f ≤ n * 4294967295 → r + s + f ≤ 18446744073709551615
summed n r s f few is_r is_s is_f = omega arith

-- no count comes to its end over the lines of a script
pub few_events : (bytes : List ℕ) (lines : List Line) → IsScript bytes lines → events_asked lines ≤ greatest_count
few_events bytes lines script =
    summed (length lines) (length (requests_asked lines)) (steps_asked lines) (flushes_asked lines) (lines_of_script bytes lines script).few (few_requests lines) (few_steps _ lines script.each) (few_flushes _ lines script.each)

-- every event was made for which the lines ask
pub made_all : (lines : List Line) (journal : List Entry) (total : Total) → length journal ≡ length (requests_asked lines)
    → total.steps ≡ steps_asked lines → total.events ≡ events_asked lines → MakesAll lines journal total
made_all lines journal total long steps events =
    let all : length (requests_asked lines) ≡ length journal = sym long in
    record { steps = steps; events = events ∙ ap (λ (n : ℕ). n + steps_asked lines + flushes_asked lines) all }
