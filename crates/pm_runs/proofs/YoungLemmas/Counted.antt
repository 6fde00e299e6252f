-- How many events the lines of a script for a run with a nursery ask for: so few that no count comes to its end.
use Rattle.std.proofs.Common.{◌≡◌, ℕ, ◌*◌, ◌≤◌, List, [], ◌∷◌, length, refl, ◌∙◌, arith}
use Rattle.std.specs.List.{AllByRecursion}
use Rattle.std.proofs.lemmas.List.Sums.{sum_by-cons}
use Rattle.pm_types.specs.Counts.{greatest_count}
use Rattle.pm_types.specs.declared.entry.Entry.{Entry}
use Rattle.pm_script.specs.declared.line.YoungLine.{YoungLine}
use Rattle.pm_script.specs.declared.line.YoungLine.TheVariants.{Base, Young}
use Rattle.pm_script.specs.Lines.{lines_of, spoken}
use Rattle.pm_script.specs.Young.{IsYoungBody, IsYoungScript}
use Rattle.pm_script.specs.Parted.Asked.{events_asked, flushes_asked, flushes_of, requests_asked, steps_asked, steps_of}
use Rattle.pm_script.proofs.Readings.{each_has}
use Rattle.pm_script.proofs.YoungLaws.{lines_of_young_script}
use Rattle.pm_young.specs.Seen.{YoungTotal}
use Rattle.pm_young_run.specs.Asked.{as_line, as_lines}
use Rattle.pm_young_run.proofs.Asking.{flushes_same, steps_same}
use Rattle.pm_runs.specs.Young.Journals.{MakesYoung}
use Rattle.pm_runs.proofs.EndsLemmas.Counted.{few_requests, line_flushes, line_steps, summed}

-- what a line asks for is below 2^32
AsksFew : YoungLine → Type 0
AsksFew line = (steps_of (as_line line) ≤ 4294967295) × (flushes_of (as_line line) ≤ 4294967295)

asks_few : (body : List ℕ) (line : YoungLine) → IsYoungBody body line → AsksFew line
unfolding AsksFew
asks_few body (Base line) is = (line_steps line is.0.words is.0.values, line_flushes line is.0.words is.0.values)
asks_few body Young is = (omega arith, omega arith)

few_steps : (lines : List YoungLine) → AllByRecursion AsksFew lines → steps_asked (as_lines lines) ≤ length (as_lines lines) * 4294967295
unfolding AsksFew
few_steps [] are = omega arith
few_steps (line ∷ lines) are =
    let one = are.0.0 in
    let more = few_steps lines are.1 in
    omega (arith, one, more, sum_by-cons steps_of (as_line line) (as_lines lines))

few_flushes : (lines : List YoungLine) → AllByRecursion AsksFew lines → flushes_asked (as_lines lines) ≤ length (as_lines lines) * 4294967295
unfolding AsksFew
few_flushes [] are = omega arith
few_flushes (line ∷ lines) are =
    let one = are.0.1 in
    let more = few_flushes lines are.1 in
    omega (arith, one, more, sum_by-cons flushes_of (as_line line) (as_lines lines))

as_many : (lines : List YoungLine) → length (as_lines lines) ≡ length lines
as_many [] = refl
as_many (line ∷ lines) = let more = as_many lines in omega (arith, more)

-- no count comes to its end over the lines of a script
pub few_young_events : (bytes : List ℕ) (lines : List YoungLine) → IsYoungScript bytes lines → events_asked (as_lines lines) ≤ greatest_count
few_young_events bytes lines script =
    let many = as_many lines in
    let few : length lines ≤ 65536 = (lines_of_young_script bytes lines script).few in
    let each = each_has IsYoungBody AsksFew asks_few (spoken (lines_of bytes)) lines script.each in
    summed (length (as_lines lines)) (length (requests_asked (as_lines lines))) (steps_asked (as_lines lines)) (flushes_asked (as_lines lines)) (omega (arith, many, few))
    (few_requests (as_lines lines)) (few_steps lines each) (few_flushes lines each)

-- every event was made for which the lines ask
pub made_young : (lines : List YoungLine) (journal : List Entry) (total : YoungTotal) → total.entries ≡ length journal → length journal ≡ length (requests_asked (as_lines lines))
    → total.steps ≡ steps_asked (as_lines lines) → total.events ≡ events_asked (as_lines lines) → MakesYoung lines journal total
made_young lines journal total entries long steps events =
    let less = steps_same lines in
    let more = flushes_same lines in
    record { entries = entries; steps = steps ∙ less; events = omega (arith, events, long, less, more) }
