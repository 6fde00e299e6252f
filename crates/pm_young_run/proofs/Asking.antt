-- What lines for a run with a nursery ask, one behind another.
use Rattle.std.proofs.Common.{◌≡◌, ℕ, ◌+◌, ◌<◌, List, [], ◌∷◌, ◌++◌, length, take, get_or, arith, refl, ap, sym, ◌∙◌, length-append}
use Rattle.std.proofs.lemmas.List.{map-append, take_more}
use Rattle.std.proofs.lemmas.List.Sums.{sum_by-cons}
use Rattle.pm_script.specs.declared.line.Line.{Line}
use Rattle.pm_script.specs.declared.line.Line.TheVariants.{Flush}
use Rattle.pm_script.specs.declared.line.YoungLine.{YoungLine}
use Rattle.pm_script.specs.declared.line.YoungLine.TheVariants.{Base, Young}
use Rattle.pm_model.specs.declared.request.Request.{Request}
use Rattle.pm_script.specs.Parted.Asked.{events_asked, flushes_asked, flushes_of, request_of, requests_asked, steps_asked, steps_of}
use Rattle.pm_serial.proofs.Answering.{requests_push}
use Rattle.pm_young_run.specs.Asked.{as_line, as_lines, bases_of, sweeps_asked, sweeps_of, young_events_asked}

-- ---- lines of any script

pub requests_same : (lines : List YoungLine) → requests_asked (as_lines lines) ≡ requests_asked (bases_of lines)
requests_same [] = refl
requests_same (Base line ∷ lines) = ap (λ (more : List Request). request_of line ++ more) (requests_same lines)
requests_same (Young ∷ lines) = requests_same lines

pub steps_same : (lines : List YoungLine) → steps_asked (as_lines lines) ≡ steps_asked (bases_of lines)
steps_same [] = refl
steps_same (Base line ∷ lines) =
    let more = steps_same lines in
    let one = sum_by-cons steps_of line (as_lines lines) in
    let two = sum_by-cons steps_of line (bases_of lines) in
    one ∙ ap (λ (n : ℕ). steps_of line + n) more ∙ sym two
steps_same (Young ∷ lines) =
    let more = steps_same lines in
    let one = sum_by-cons steps_of (Flush 1) (as_lines lines) in
    omega (arith, more, one)

pub flushes_same : (lines : List YoungLine) → flushes_asked (as_lines lines) ≡ flushes_asked (bases_of lines) +
    sweeps_asked lines
flushes_same [] = refl
flushes_same (Base line ∷ lines) =
    let more = flushes_same lines in
    let one = sum_by-cons flushes_of line (as_lines lines) in
    let two = sum_by-cons flushes_of line (bases_of lines) in
    let three = sum_by-cons sweeps_of (Base line) lines in
    omega (arith, more, one, two, three)
flushes_same (Young ∷ lines) =
    let more = flushes_same lines in
    let one = sum_by-cons flushes_of (Flush 1) (as_lines lines) in
    let three = sum_by-cons sweeps_of Young lines in
    omega (arith, more, one, three)

pub events_same : (lines : List YoungLine) → events_asked (as_lines lines) ≡ young_events_asked lines
events_same lines =
    let requests = ap length (requests_same lines) in
    let steps = steps_same lines in
    let flushes = flushes_same lines in
    omega (arith, requests, steps, flushes)

-- ---- lines so far

pub as_lines_push : (lines : List YoungLine) (line : YoungLine)
    → as_lines (lines ++ line ∷ []) ≡ as_lines lines ++ as_line line ∷ []
as_lines_push lines line = map-append as_line lines (line ∷ [])

-- the lines that are done, the next, and what is left
pub lines_parted : (lines done rest : List YoungLine) (line : YoungLine) → done ++ line ∷ rest ≡ lines
    → as_lines done ++ as_line line ∷ as_lines rest ≡ as_lines lines
lines_parted lines done rest line parted = sym (map-append as_line done (line ∷ rest)) ∙ ap as_lines parted

-- the entries of one line more
pub entries_next : (lines : List YoungLine) (i : ℕ) (line : YoungLine) → i < length lines → line ≡ get_or lines i line
    → length (requests_asked (as_lines (take (i + 1) lines))) ≡ length (requests_asked (as_lines (take i lines))) +
    length (request_of (as_line line))
entries_next lines i line within is =
    ap (λ (some : List YoungLine). length (requests_asked (as_lines some)))
    (take_more lines i line within ∙ ap (λ (one : YoungLine). take i lines ++ one ∷ []) (sym is))
    ∙ ap (λ (some : List Line). length (requests_asked some)) (as_lines_push (take i lines) line)
    ∙ ap length (requests_push (as_lines (take i lines)) (as_line line))
    ∙ length-append (requests_asked (as_lines (take i lines))) (request_of (as_line line))
