-- What parts of a run answer, one behind another.
use Rattle.std.proofs.Common.{◌≡◌, ℕ, ◌+◌, ◌≤◌, min, length, arith, List, [], ◌∷◌, ◌++◌, Option, refl, ap, sym, ◌∙◌, append_assoc, length-append}
use Rattle.std.proofs.lemmas.List.{append-nil, length-map}
use Rattle.std.proofs.lemmas.List.Sums.{sum_by-cons, sum_by_push}
use Rattle.std.proofs.lemmas.Grind.{flat_map-append}
use Rattle.pm_types.specs.Counts.{greatest_count}
use Rattle.pm_types.specs.declared.entry.Entry.{Entry}
use Rattle.pm_model.specs.declared.request.Request.{Request}
use Rattle.pm_model.specs.Journal.{IsFirstPart, requests_of}
use Rattle.pm_script.specs.declared.line.Line.{Line}
use Rattle.pm_saving.specs.Serving.{Serving}
use Rattle.pm_serial.specs.declared.kind.Kind.{Kind}
use Rattle.pm_serial.specs.declared.kind.Kind.TheVariants.{Collect, Flush}
use Rattle.pm_engine.specs.declared.events.stop.Stop.{Stop}
use Rattle.pm_script.specs.Parted.Asked.{events_asked, flushes_of, request_of, requests_asked, steps_asked, steps_of}
use Rattle.pm_engine.specs.Events.Causes.{IsDone, OnStop}
use Rattle.pm_serial.specs.Ordered.{StopsAmong, course_of}
use Rattle.pm_serial.specs.Running.{AnswersLines, IsShortAt}
use Rattle.pm_engine.specs.Events.Running.{IsFresh}
use Rattle.pm_engine.specs.Events.Events.{AnswersPart}
use Rattle.pm_serial.specs.Stepping.{events_of, steps_made}

-- ---- lines so far

pub requests_push : (lines : List Line) (line : Line) → requests_asked (lines ++ line ∷ []) ≡ requests_asked lines ++ request_of line
requests_push lines line = flat_map-append request_of lines (line ∷ []) ∙ ap (λ (more : List Request). requests_asked lines ++ more) (append-nil (request_of line))

pub steps_push : (lines : List Line) (line : Line) → steps_asked (lines ++ line ∷ []) ≡ steps_asked lines + steps_of line
steps_push lines line = sum_by_push steps_of lines line

-- the events of lines, and of one behind them
pub events_push : (lines : List Line) (line : Line) → events_asked (lines ++ line ∷ []) ≡ events_asked lines + events_of line
events_push lines line =
    let requests : length (requests_asked (lines ++ line ∷ [])) ≡ length (requests_asked lines) + length (request_of line) =
    ap length (requests_push lines line) ∙ length-append (requests_asked lines) (request_of line) in
    let steps = sum_by_push steps_of lines line in
    let flushes = sum_by_push flushes_of lines line in
    omega (arith, requests, steps, flushes)

-- and of one before them
pub events_cons : (line : Line) (lines : List Line) → events_asked (line ∷ lines) ≡ events_of line + events_asked lines
events_cons line lines =
    let requests = length-append (request_of line) (requests_asked lines) in
    let steps = sum_by-cons steps_of line lines in
    let flushes = sum_by-cons flushes_of line lines in
    omega (arith, requests, steps, flushes)

-- what lines ask that are parted at one
pub asked_parted : (lines done rest : List Line) (line : Line) → done ++ line ∷ rest ≡ lines → (requests_asked done ++ request_of line) ++ requests_asked rest ≡ requests_asked lines
asked_parted lines done rest line parted =
    append_assoc (requests_asked done) (request_of line) (requests_asked rest) ∙ sym (flat_map-append request_of done (line ∷ rest)) ∙ ap requests_asked parted

-- so many requests are asked before a line that there is one for its own
pub asked_within : (lines done rest : List Line) (line : Line) → done ++ line ∷ rest ≡ lines → length (requests_asked done) + length (request_of line) ≤ length (requests_asked lines)
asked_within lines done rest line parted =
    let front = length-append (requests_asked done) (request_of line) in
    let whole : length (requests_asked lines) ≡ length (requests_asked done ++ request_of line) + length (requests_asked rest) =
    ap length (sym (asked_parted lines done rest line parted)) ∙ length-append (requests_asked done ++ request_of line) (requests_asked rest) in
    omega (arith, front, whole)

-- ---- what was answered

-- one more event of a kind
pub steps_more : (kind : Kind) (count : ℕ) → steps_made kind count + steps_made kind 1 ≡ steps_made kind (count + 1)
steps_more Collect count = refl
steps_more Flush count = refl

-- no event of a kind
pub steps_none : (kind : Kind) → 0 ≡ steps_made kind 0
steps_none Collect = refl
steps_none Flush = refl

-- ---- room

-- what was answered took the room that it was to take, so there is room for the next
pub has_room : (lines done rest : List Line) (line : Line) (room_old room_mid : ℕ) (old mid : Serving) → done ++ line ∷ rest ≡ lines → length (requests_asked lines) ≤ room_old
    → room_old + length old.journal ≤ room_mid + length mid.journal → requests_of mid.journal ≡ requests_of old.journal ++ requests_asked done → length (request_of line) ≤ room_mid
has_room lines done rest line room_old room_mid old mid parted enough kept answered =
    let within = asked_within lines done rest line parted in
    let long : length mid.journal ≡ length old.journal + length (requests_asked done) =
    sym (length-map mid.journal (λ (e : Entry). record { client = e.client; cmd = e.cmd })) ∙ ap length answered ∙ length-append (requests_of old.journal) (requests_asked done)
    ∙ ap (λ (n : ℕ). n + length (requests_asked done)) (length-map old.journal (λ (e : Entry). record { client = e.client; cmd = e.cmd })) in
    omega (arith, within, enough, kept, long)

-- ---- the whole run

from_zero : (n most : ℕ) → min (0 + n) most ≡ min n most
from_zero n most = omega arith

-- all lines of a run
pub answers_lines : (lines : List Line) (old new : Serving) (stop : Option Stop) → IsFresh old → (part : AnswersPart (requests_asked lines) (events_asked lines) (steps_asked lines) old new stop)
    → (events_asked lines ≤ greatest_count → IsFirstPart new.course (course_of 0 0 lines)) → (IsDone stop → events_asked lines ≤ greatest_count → new.course ≡ course_of 0 0 lines)
    → OnStop stop (events_asked lines ≤ greatest_count → StopsAmong lines new.journal new.steps new.events stop)
    → IsShortAt lines new stop → AnswersLines lines new stop
answers_lines lines old new stop fresh part ordered all_ordered stopped short =
    let none : requests_of old.journal ≡ [] = ap requests_of fresh.journal in
    let begun = fresh.events in
    let first = fresh.steps in
    record {
      order = record {
        rest = part.rest;
        served = part.served ∙ ap (λ (r : List Request). r ++ requests_asked lines) none;
        all = λ done. part.all done ∙ ap (λ (r : List Request). r ++ requests_asked lines) none;
        events = λ done. part.events done (omega (arith, begun)) ∙ ap (λ (e : ℕ). min (e + events_asked lines) greatest_count) begun ∙ from_zero (events_asked lines) greatest_count;
        steps = λ done. part.steps done (omega (arith, first)) ∙ ap (λ (e : ℕ). min (e + steps_asked lines) greatest_count) first ∙ from_zero (steps_asked lines) greatest_count;
        ordered = ordered;
        all_ordered = all_ordered;
        stopped = stopped;
      };
      short = short;
    }
