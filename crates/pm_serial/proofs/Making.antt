-- What an engine has made, as lines of one event each: read off its history.
use Rattle.std.proofs.Common.{◌≡◌, inl, inr, ℕ, ◌+◌, ◌<◌, List, [], ◌∷◌, ◌++◌, arith, refl, ap, sym, subst, ◌∙◌}
use Rattle.std.specs.List.{AllByRecursion}
use Rattle.std.proofs.lemmas.List.{append-nil, map-append}
use Rattle.pm_types.specs.Counts.{greatest_count}
use Rattle.pm_types.specs.declared.entry.Entry.{Entry}
use Rattle.pm_model.specs.declared.request.Request.{Request}
use Rattle.pm_model.specs.Journal.{requests_of}
use Rattle.pm_script.specs.declared.line.Line.{Line}
use Rattle.pm_script.specs.declared.line.Line.TheVariants.{Client, Gc, Flush}
use Rattle.pm_script.specs.Parted.Asked.{events_asked, request_of, steps_asked, steps_of}
use Rattle.pm_saving.specs.Serving.{Serving, just_opened}
use Rattle.pm_engine.specs.History.{Happens, HasHistory, IsAnswered, IsCollected, Leads}
use Rattle.pm_saving.specs.Events.{Flushes, ServesNothing}
use Rattle.pm_serial.specs.Ordered.{course_of}
use Rattle.pm_serial.specs.Stepping.{events_of}
use Rattle.pm_serial.specs.Made.{HasMade}
use Rattle.pm_serial.proofs.Answering.{events_push, requests_push, steps_push}
use Rattle.pm_serial.proofs.Ordering.{course_append, few_steps}

single_push : (lines : List Line) (line : Line) → AllByRecursion (λ (l : Line). events_of l ≡ 1) lines → events_of line ≡ 1 → AllByRecursion (λ (l : Line). events_of l ≡ 1) (lines ++ line ∷ [])
single_push [] line all one = (one, tt)
single_push (first ∷ lines) line all one = (all.0, single_push lines line all.1 one)

no_more : (n : ℕ) → n ≡ 0 + n
no_more n = omega arith

-- one event more was made
made_more : (old new : Serving) (line : Line) → events_of line ≡ 1 → new.events ≡ old.events + 1 → new.steps ≡ old.steps + steps_of line → requests_of new.journal ≡ requests_of old.journal ++ request_of line
    → new.course ≡ old.course ++ course_of old.steps old.events (line ∷ []) → HasMade old → HasMade new
made_more old new line one events steps requests course was =
    let lines = was.lines in
    let is = was.made in
    record {
      lines = lines ++ line ∷ [];
      made = record {
        single = single_push lines line is.single one;
        answered = requests ∙ ap (λ (r : List Request). r ++ request_of line) is.answered ∙ sym (requests_push lines line);
        course =
            course ∙ (λ i. is.course i ++ course_of (is.steps i) (is.events i) (line ∷ [])) ∙ (λ i. course_of 0 0 lines ++ course_of (no_more (steps_asked lines) i) (no_more (events_asked lines) i) (line ∷ []))
            ∙ sym (course_append 0 0 lines (line ∷ []));
        steps =
            let all = steps_push lines line in
            let before = is.steps in
            omega (arith, all, before, steps);
        events =
            let all = events_push lines line in
            let before = is.events in
            omega (arith, all, before, events, one);
      };
    }

-- none was
made_still : (old new : Serving) → ServesNothing old new → HasMade old → HasMade new
made_still old new is was = record {
  lines = was.lines;
  made = record {
    single = was.made.single;
    answered = ap requests_of is.journal ∙ was.made.answered;
    course = is.course ∙ was.made.course;
    steps = is.steps ∙ was.made.steps;
    events = is.events ∙ was.made.events;
  };
}

-- no more events of the collector were made than events
steps_few : (it : Serving) → HasMade it → it.events < greatest_count → it.steps < greatest_count
steps_few it was few =
    let steps = was.made.steps in
    let events = was.made.events in
    let less = few_steps was.lines in
    omega (arith, steps, events, less, few)

made_answered : (old new : Serving) → IsAnswered old new → new.events < greatest_count → (old.events < greatest_count → HasMade old) → HasMade new
made_answered old new is few was =
    let appends = is.serves.appends in
    let more = appends.events in
    let events : new.events ≡ old.events + 1 = omega (arith, more, few) in
    let still = appends.steps in
    let entry : Entry = record { client = is.client; cmd = is.cmd; reply = is.reply } in
    made_more old new (Client is.client is.cmd) refl events (omega (arith, still))
    (ap requests_of appends.journal ∙ map-append (λ (e : Entry). record { client = e.client; cmd = e.cmd }) old.journal (entry ∷ [])) appends.course (was (omega (arith, more, few)))

made_collected : (old new : Serving) → IsCollected old new → new.events < greatest_count → (old.events < greatest_count → HasMade old) → HasMade new
made_collected old new is few was =
    let it = is.collects in
    let more = it.events in
    let events : new.events ≡ old.events + 1 = omega (arith, more, few) in
    let before : old.events < greatest_count = omega (arith, more, few) in
    let below = steps_few old (was before) before in
    let further = it.steps in
    made_more old new (Gc 1) refl events (omega (arith, further, below)) (ap requests_of it.journal ∙ sym (append-nil (requests_of old.journal))) (it.course ∙ sym (append-nil old.course)) (was before)

made_flushed : (old new : Serving) → Flushes old new → new.events < greatest_count → (old.events < greatest_count → HasMade old) → HasMade new
made_flushed old new is few was =
    let more = is.events in
    let events : new.events ≡ old.events + 1 = omega (arith, more, few) in
    let still = is.steps in
    made_more old new (Flush 1) refl events (omega (arith, still)) (ap requests_of is.journal ∙ sym (append-nil (requests_of old.journal))) (is.course ∙ sym (append-nil old.course)) (was (omega (arith, more, few)))

next_made : (old new : Serving) → Happens old new → (old.events < greatest_count → HasMade old) → new.events < greatest_count → HasMade new
next_made old new (inl is) was few = made_answered old new is few was
next_made old new (inr (inl is)) was few = made_collected old new is few was
next_made old new (inr (inr (inl is))) was few = made_flushed old new is few was
next_made old new (inr (inr (inr is))) was few = let same = is.events in made_still old new is (was (omega (arith, same, few)))

along_made : (from : Serving) (states : List Serving) (to : Serving) → Leads from states to → (from.events < greatest_count → HasMade from) → to.events < greatest_count → HasMade to
along_made from [] to is was = subst (λ (it : Serving). it.events < greatest_count → HasMade it) is was
along_made from (next ∷ states) to is was = along_made next states to is.1 (next_made from next is.0 was)

-- whoever has an engine has what it made, while its count of events stands below its end
pub has_made : (it : Serving) → HasHistory it → it.events < greatest_count → HasMade it
has_made it history few =
    along_made (just_opened it.number it.opened history.saving) history.states it history.leads
    (λ _. record { lines = []; made = record { single = tt; answered = refl; course = refl; steps = refl; events = refl } }) few
