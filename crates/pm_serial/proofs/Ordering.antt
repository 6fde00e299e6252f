-- What parts of a run tell of their entries, one behind another: of each what had been made before it.
use Rattle.std.proofs.Common.{◌≡◌, ◌⊎◌, ⊎_elim, ℕ, ◌+◌, ◌≤◌, min, arith, List, [], ◌∷◌, ◌++◌, length, Option, Some, None, refl, ap, sym, subst, ◌∙◌, append_assoc, length-append}
use Rattle.std.proofs.lemmas.List.{append-nil}
use Rattle.std.proofs.lemmas.List.Sums.{sum_by-append, sum_by-cons}
use Rattle.std.proofs.lemmas.Grind.{flat_map-append}
use Rattle.pm_types.specs.Counts.{greatest_count}
use Rattle.pm_script.specs.declared.line.Line.{Line}
use Rattle.pm_script.specs.declared.line.Line.TheVariants.{Client, Gc, Flush}
use Rattle.pm_saving.specs.Serving.{Before, Serving}
use Rattle.pm_engine.specs.declared.events.stop.Stop.{Stop}
use Rattle.pm_engine.specs.declared.events.stop.Stop.TheVariants.{Writing}
use Rattle.pm_engine.specs.Events.Events.{AnswersPart}
use Rattle.pm_engine.specs.Events.Running.{IsFresh}
use Rattle.pm_script.specs.Parted.Asked.{events_asked, flushes_of, request_of, requests_asked, steps_asked, steps_of}
use Rattle.pm_model.specs.Journal.{IsFirstPart}
use Rattle.pm_serial.specs.Ordered.{FitsCounts, TellsLines, TellsPart, course_of}
use Rattle.pm_serial.proofs.Answering.{events_cons}

-- ---- parts, one behind another

-- no entry was to be added
pub tells_same : (old new : Serving) (stop : Option Stop) → new.course ≡ old.course → TellsPart [] old new stop
tells_same old new stop same = record {
  part = ([], ap (λ (c : List Before). c ++ []) same);
  all = λ done. same ∙ sym (append-nil old.course);
}

-- all were added
pub tells_all : (course : List Before) (old new : Serving) (stop : Option Stop) → new.course ≡ old.course ++ course → TellsPart course old new stop
tells_all course old new stop is = record {
  part = ([], append-nil new.course ∙ is);
  all = λ done. is;
}

-- the run stopped before any was
pub tells_nothing : (course : List Before) (old new : Serving) (stop : Stop) → new.course ≡ old.course → TellsPart course old new (Some stop)
tells_nothing course old new stop same = record {
  part = (course, ap (λ (c : List Before). c ++ course) same);
  all = λ done. absurd done;
}

-- one part behind another
tells_then : (one two : List Before) (old mid new : Serving) (stop : Option Stop) → TellsPart one old mid None → TellsPart two mid new stop → TellsPart (one ++ two) old new stop
tells_then one two old mid new stop first second =
    let behind : mid.course ++ two ≡ old.course ++ (one ++ two) = ap (λ (c : List Before). c ++ two) (first.all tt) ∙ append_assoc old.course one two in
    record {
      part = (second.part.0, second.part.1 ∙ behind);
      all = λ done. second.all done ∙ behind;
    }

-- more entries were to be added than was reached
tells_cut : (one more : List Before) (old new : Serving) (stop : Stop) → TellsPart one old new (Some stop) → TellsPart (one ++ more) old new (Some stop)
tells_cut one more old new stop tells = record {
  part = (tells.part.0 ++ more, sym (append_assoc new.course tells.part.0 more) ∙ ap (λ (c : List Before). c ++ more) tells.part.1 ∙ append_assoc old.course one more);
  all = λ done. absurd done;
}

-- the end of a run stops it only where nothing else did
tells_ended : (course : List Before) (old new : Serving) (before after : Option Stop) → (after ≡ before) ⊎ ((before ≡ None) × (after ≡ Some Writing)) → TellsPart course old new before → TellsPart course old new after
tells_ended course old new before after why tells =
    ⊎_elim (λ same. subst (TellsPart course old new) (sym same) tells)
    (λ both. subst (TellsPart course old new) (sym both.1) (record { part = tells.part; all = λ done. absurd done })) why

-- ---- lines

steps_cons : (line : Line) (lines : List Line) → steps_asked (line ∷ lines) ≡ steps_of line + steps_asked lines
steps_cons line lines = sum_by-cons steps_of line lines

pub steps_append : (one two : List Line) → steps_asked (one ++ two) ≡ steps_asked one + steps_asked two
steps_append one two = sum_by-append steps_of one two

pub events_append : (one two : List Line) → events_asked (one ++ two) ≡ events_asked one + events_asked two
events_append one two =
    let requests : length (requests_asked (one ++ two)) ≡ length (requests_asked one) + length (requests_asked two) =
    ap length (flat_map-append request_of one two) ∙ length-append (requests_asked one) (requests_asked two) in
    let steps = sum_by-append steps_of one two in
    let flushes = sum_by-append flushes_of one two in
    omega (arith, requests, steps, flushes)

-- what is made before the commands of lines that come behind others
pub course_append : (steps events : ℕ) (one two : List Line) → course_of steps events (one ++ two) ≡ course_of steps events one ++ course_of (steps + steps_asked one) (events + events_asked one) two
course_append steps events [] two = (λ i. course_of (none steps i) (none events i) two)
  where
    none : (n : ℕ) → n ≡ n + 0
    none n = omega arith
course_append steps events (Client client cmd ∷ one) two =
    let more = course_append steps (events + 1) one two in
    let s = steps_cons (Client client cmd) one in
    let e = events_cons (Client client cmd) one in
    let same_steps : steps + steps_asked one ≡ steps + steps_asked (Client client cmd ∷ one) = omega (arith, s) in
    let same_events : (events + 1) + events_asked one ≡ events + events_asked (Client client cmd ∷ one) = omega (arith, e) in
    ap (λ (c : List Before). record { steps = steps; events = events } ∷ c)
    (more ∙ (λ i. course_of steps (events + 1) one ++ course_of (same_steps i) (same_events i) two))
course_append steps events (Gc count ∷ one) two =
    let more = course_append (steps + count) (events + count) one two in
    let s = steps_cons (Gc count) one in
    let e = events_cons (Gc count) one in
    let same_steps : (steps + count) + steps_asked one ≡ steps + steps_asked (Gc count ∷ one) = omega (arith, s) in
    let same_events : (events + count) + events_asked one ≡ events + events_asked (Gc count ∷ one) = omega (arith, e) in
    more ∙ (λ i. course_of (steps + count) (events + count) one ++ course_of (same_steps i) (same_events i) two)
course_append steps events (Flush count ∷ one) two =
    let more = course_append steps (events + count) one two in
    let s = steps_cons (Flush count) one in
    let e = events_cons (Flush count) one in
    let same_steps : steps + steps_asked one ≡ steps + steps_asked (Flush count ∷ one) = omega (arith, s) in
    let same_events : (events + count) + events_asked one ≡ events + events_asked (Flush count ∷ one) = omega (arith, e) in
    more ∙ (λ i. course_of steps (events + count) one ++ course_of (same_steps i) (same_events i) two)

-- no line was run yet
pub tells_none : (it : Serving) → TellsLines [] it it None
tells_none it fits = tells_same it it None refl

-- counts that do not come to their end
counted_on : (old n most : ℕ) → old + n ≤ most → (old ≤ most → (now : ℕ) → now ≡ min (old + n) most → now ≡ old + n)
counted_on old n most fits within now is = omega (arith, fits, is)

fits_front : (one two : List Line) (it : Serving) → FitsCounts (one ++ two) it → FitsCounts one it
fits_front one two it fits =
    let e = events_append one two in
    let s = steps_append one two in
    let events = fits.events in
    let steps = fits.steps in
    record { events = omega (arith, e, events); steps = omega (arith, s, steps) }

-- one line more was run, or a part of it
pub tells_line : (done : List Line) (line : Line) (old mid new : Serving) (stop : Option Stop) → AnswersPart (requests_asked done) (events_asked done) (steps_asked done) old mid None → TellsLines done old mid None
    → TellsPart (course_of mid.steps mid.events (line ∷ [])) mid new stop → TellsLines (done ++ line ∷ []) old new stop
tells_line done line old mid new stop part tells step fits =
    let front = fits_front done (line ∷ []) old fits in
    let fit_events = front.events in
    let fit_steps = front.steps in
    let within_events : old.events ≤ greatest_count = omega (arith, fit_events) in
    let within_steps : old.steps ≤ greatest_count = omega (arith, fit_steps) in
    let events : mid.events ≡ old.events + events_asked done = counted_on old.events (events_asked done) greatest_count fit_events within_events mid.events (part.events tt within_events) in
    let steps : mid.steps ≡ old.steps + steps_asked done = counted_on old.steps (steps_asked done) greatest_count fit_steps within_steps mid.steps (part.steps tt within_steps) in
    let joined : course_of old.steps old.events done ++ course_of mid.steps mid.events (line ∷ []) ≡ course_of old.steps old.events (done ++ line ∷ []) =
    (λ i. course_of old.steps old.events done ++ course_of (steps i) (events i) (line ∷ [])) ∙ sym (course_append old.steps old.events done (line ∷ [])) in
    subst (λ (course : List Before). TellsPart course old new stop) joined
    (tells_then (course_of old.steps old.events done) (course_of mid.steps mid.events (line ∷ [])) old mid new stop (tells front) step)

-- lines behind those were not reached
pub tells_front : (lines one two : List Line) (old new : Serving) (stop : Stop) → one ++ two ≡ lines → TellsLines one old new (Some stop) → TellsLines lines old new (Some stop)
tells_front lines one two old new stop parted tells = subst (λ (all : List Line). TellsLines all old new (Some stop)) parted (behind one two old new stop tells)
  where
    behind : (one two : List Line) (old new : Serving) (stop : Stop) → TellsLines one old new (Some stop) → TellsLines (one ++ two) old new (Some stop)
    behind one two old new stop tells fits =
        subst (λ (course : List Before). TellsPart course old new (Some stop)) (sym (course_append old.steps old.events one two))
        (tells_cut (course_of old.steps old.events one) (course_of (old.steps + steps_asked one) (old.events + events_asked one) two) old new stop (tells (fits_front one two old fits)))

-- ---- the whole run

pub few_steps : (lines : List Line) → steps_asked lines ≤ events_asked lines
few_steps lines = omega arith

-- what a run tells that began with nothing made
pub tells_run : (lines : List Line) (old new : Serving) (before after : Option Stop) → IsFresh old → (after ≡ before) ⊎ ((before ≡ None) × (after ≡ Some Writing)) → TellsLines lines old new before
    → events_asked lines ≤ greatest_count → TellsPart (course_of 0 0 lines) old new after
tells_run lines old new before after fresh why tells few =
    let first_events = fresh.events in
    let first_steps = fresh.steps in
    let less = few_steps lines in
    let fits : FitsCounts lines old = record { events = omega (arith, first_events, few); steps = omega (arith, first_steps, less, few) } in
    let same : course_of old.steps old.events lines ≡ course_of 0 0 lines = (λ i. course_of (first_steps i) (first_events i) lines) in
    subst (λ (course : List Before). TellsPart course old new after) same (tells_ended (course_of old.steps old.events lines) old new before after why (tells fits))

-- the course of a run that began with none
pub first_told : (lines : List Line) (old new : Serving) (stop : Option Stop) → IsFresh old → TellsPart (course_of 0 0 lines) old new stop → IsFirstPart new.course (course_of 0 0 lines)
first_told lines old new stop fresh tells = (tells.part.0, tells.part.1 ∙ ap (λ (c : List Before). c ++ course_of 0 0 lines) fresh.course)
