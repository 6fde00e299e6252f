-- Where a run stops: the line, and how many events were made until then.
use Rattle.std.proofs.Common.{◌≡◌, ◌⊎◌, ⊎_elim, inl, inr, ℕ, ◌+◌, ◌<◌, ◌≤◌, min, true, [], refl, arith, List, ◌∷◌, ◌++◌, take, Option, Some, None, Result, Ok, Err, OnErr, ap, sym, subst, ◌∙◌, append_assoc}
use Rattle.std.proofs.Math.Seq.{take-nil}
use Rattle.std.proofs.lemmas.List.{append-nil}
use Rattle.pm_types.specs.Memory.{no_memory}
use Rattle.pm_types.specs.Counts.{greatest_count}
use Rattle.pm_types.specs.declared.command.Cmd.{Cmd}
use Rattle.pm_types.specs.declared.command.Cmd.TheVariants.{Settle}
use Rattle.pm_model.specs.declared.request.Request.{Request}
use Rattle.pm_model.specs.Frames.{is_settle}
use Rattle.pm_model.specs.Journal.{requests_of}
use Rattle.pm_script.specs.declared.line.Line.{Line}
use Rattle.pm_script.specs.declared.line.Line.TheVariants.{Client, Gc, Flush}
use Rattle.pm_saving.specs.Serving.{Serving}
use Rattle.pm_serial.specs.declared.kind.Kind.{Kind}
use Rattle.pm_engine.specs.declared.events.stop.Stop.{Stop}
use Rattle.pm_engine.specs.declared.events.stop.Stop.TheVariants.{Memory, Writing, Device}
use Rattle.pm_script.specs.Parted.Asked.{events_asked, request_of, requests_asked, steps_asked}
use Rattle.pm_engine.specs.Events.Causes.{why, OnMemory, OnStop}
use Rattle.pm_engine.specs.Events.Events.{AnswersPart, IsShort, IsUnfinished, KeepsCounts}
use Rattle.pm_engine.specs.Events.Running.{IsFresh}
use Rattle.pm_serial.specs.Ordered.{StopsAmong, steps_first}
use Rattle.pm_serial.specs.Running.{AnswersLines}
use Rattle.pm_serial.specs.Stepping.{AsksSettle, IsCut, IsGathered, IsOfSink, StopsLine, StopsLines, events_of, steps_in, steps_made}
use Rattle.pm_engine.proofs.EventsLemmas.Answering.{counted_then, still_counted}
use Rattle.pm_serial.proofs.Answering.{events_cons}
use Rattle.pm_serial.proofs.Gathering.{not_both}
use Rattle.pm_serial.proofs.Ordering.{events_append, few_steps}

-- of so many events of a kind these were made
pub is_cut : (kind : Kind) (count made : ℕ) (old mid new : Serving) → made < count → AnswersPart [] made (steps_made kind made) old mid None → KeepsCounts mid new → IsCut kind count old new
is_cut kind count made old mid new within part same = record {
  made = made;
  within = within;
  events = λ small. same.events ∙ part.events tt small;
  steps = λ small. same.steps ∙ part.steps tt small;
}

-- what holds where memory ran out follows from what held there
on_memory_then : (P Q : Type 0) (stop : Option Stop) → (P → Q) → OnMemory stop P → OnMemory stop Q
on_memory_then P Q None goes p = tt
on_memory_then P Q (Some (Memory _)) goes p = goes p
on_memory_then P Q (Some Writing) goes p = tt
on_memory_then P Q (Some Device) goes p = tt

-- and from what holds
on_memory : (P : Type 0) (stop : Option Stop) → P → OnMemory stop P
on_memory P None p = tt
on_memory P (Some (Memory _)) p = p
on_memory P (Some Writing) p = tt
on_memory P (Some Device) p = tt

-- what holds, holds where a run stopped
pub on_stop : {P : Type 0} (stop : Option Stop) → P → OnStop stop P
on_stop None p = tt
on_stop (Some stop) p = p

-- ---- a line

-- a command that was not answered
pub stops_before : (client : ℕ) (cmd : Cmd) (old new : Serving) (stop : Stop) → IsGathered (Some stop) → KeepsCounts old new → IsShort cmd old new (Some stop)
    → StopsLine (Client client cmd) old new (Some stop)
stops_before client cmd old new stop unwritten stays short = record {
  made = 0;
  within = omega arith;
  cut = λ _. omega arith;
  last = λ of. absurd (not_both (Some stop) unwritten of);
  served = ap requests_of stays.journal ∙ sym (append-nil (requests_of old.journal));
  events = λ small. stays.events ∙ still_counted old.events greatest_count small;
  steps = λ small. stays.steps ∙ still_counted old.steps greatest_count small;
  left = on_memory_then ((new.events ≡ old.events) × (is_settle cmd ≡ true → IsUnfinished new)) (is_settle cmd ≡ true → IsUnfinished new) (Some stop) (λ is. is.1) short;
}

-- one that was, whose reply the sink did not take
pub stops_behind : (client : ℕ) (cmd : Cmd) (old new : Serving) → AnswersPart (record { client = client; cmd = cmd } ∷ []) 1 0 old new None → StopsLine (Client client cmd) old new (Some Writing)
stops_behind client cmd old new part = record {
  made = 1;
  within = omega arith;
  cut = λ never. absurd never;
  last = λ _. (tt, refl);
  served = part.all tt;
  events = part.events tt;
  steps = part.steps tt;
  left = tt;
}

-- events of the collector, or such that write pages
pub stops_events : (line : Line) (kind : Kind) (count : ℕ) (old new : Serving) (result : Result (Unit {0}) Stop) → IsGathered (why result) → count ≡ events_of line → request_of line ≡ [] → ((made : ℕ) → steps_in line made ≡ steps_made kind made)
    → (AsksSettle line → ⊥) → new.journal ≡ old.journal → OnErr result (IsCut kind count old new) → OnStop (why result) (StopsLine line old new (why result))
stops_events line kind count old new (Ok done) unwritten is none same no_settle journal cut = tt
stops_events line kind count old new (Err stop) unwritten is none same no_settle journal cut =
    let less = cut.within in
    record {
      made = cut.made;
      within = omega (arith, less, is);
      cut = λ _. omega (arith, less, is);
      last = λ of. absurd (not_both (Some stop) unwritten of);
      served = ap requests_of journal ∙ sym (append-nil (requests_of old.journal)) ∙ ap (λ (more : List Request). requests_of old.journal ++ more) (sym (take-nil cut.made) ∙ ap (take cut.made) (sym none));
      events = cut.events;
      steps = λ small. cut.steps small ∙ ap (λ (n : ℕ). min (old.steps + n) greatest_count) (sym (same cut.made));
      left = on_memory (AsksSettle line → IsUnfinished new) (Some stop) (λ asks. absurd (no_settle asks));
    }

-- ---- lines

-- lines before it were run
pub stops_lines : (lines done rest : List Line) (line : Line) (old mid new : Serving) (stop : Stop) → done ++ line ∷ rest ≡ lines → AnswersPart (requests_asked done) (events_asked done) (steps_asked done) old mid None
    → StopsLine line mid new (Some stop) → StopsLines lines old new (Some stop)
stops_lines lines done rest line old mid new stop parted part stops = record {
  done = done;
  line = line;
  more = rest;
  lines_are = sym parted;
  made = stops.made;
  within = stops.within;
  cut = stops.cut;
  last = stops.last;
  served =
      stops.served ∙ ap (λ (all : List Request). all ++ take stops.made (request_of line)) (part.all tt)
      ∙ append_assoc (requests_of old.journal) (requests_asked done) (take stops.made (request_of line));
  events = λ small. counted_then old.events mid.events new.events (events_asked done) stops.made small (part.events tt) stops.events;
  steps = λ small. counted_then old.steps mid.steps new.steps (steps_asked done) (steps_in line stops.made) small (part.steps tt) stops.steps;
  left = stops.left;
}

-- ---- the whole run

-- of two ways to part lines at one, of which these events come before, there is one
pub same_line : (done more others rest : List Line) (line asked : Line) (made : ℕ) → done ++ line ∷ more ≡ others ++ asked ∷ rest → made < events_of line → 0 < events_of asked → events_asked done + made ≡ events_asked others → line ≡ asked
same_line [] more [] rest line asked made is within some count = cc
same_line [] more (other ∷ others) rest line asked made is within some count =
    let head : line ≡ other = cc in
    let same = ap events_of head in
    let none : events_asked [] ≡ 0 = refl in
    let all = events_cons other others in
    absurd (omega (arith, within, count, same, none, all))
same_line (first ∷ done) more [] rest line asked made is within some count =
    let head : first ≡ asked = cc in
    let same = ap events_of head in
    let none : events_asked [] ≡ 0 = refl in
    let all = events_cons first done in
    absurd (omega (arith, some, count, same, none, all))
same_line (first ∷ done) more (other ∷ others) rest line asked made is within some count =
    let head : first ≡ other = cc in
    let behind : done ++ line ∷ more ≡ others ++ asked ∷ rest = cc in
    let same = ap events_of head in
    let one = events_cons first done in
    let two = events_cons other others in
    same_line done more others rest line asked made behind within some (omega (arith, count, same, one, two))

-- memory ran out in a `settle`, where as many events were made as the lines before it ask for
pub settle_cut : (lines : List Line) (old new : Serving) (stop : Option Stop) → old.events ≡ 0 → OnStop stop (StopsLines lines old new stop) → stop ≡ Some (Memory no_memory) → (done more : List Line) (client : ℕ)
    → lines ≡ done ++ Client client Settle ∷ more → new.events ≡ events_asked done → events_asked done < greatest_count → IsUnfinished new
settle_cut lines old new stop first stops is done more client parted made few =
    let cuts : StopsLines lines old new (Some (Memory no_memory)) = subst (λ (s : Option Stop). OnStop s (StopsLines lines old new s)) is stops in
    let events : new.events ≡ min (old.events + (events_asked cuts.done + cuts.made)) greatest_count = cuts.events (omega (arith, first)) in
    let count : events_asked cuts.done + cuts.made ≡ events_asked done = omega (arith, first, events, made, few) in
    let line : cuts.line ≡ Client client Settle =
    same_line cuts.done cuts.more done more cuts.line (Client client Settle) cuts.made (sym cuts.lines_are ∙ parted) (cuts.cut tt) (omega arith) count in
    cuts.left (subst AsksSettle (sym line) refl)

-- the end of a run stops it for want of memory only where it had stopped so
pub short_before : (before after : Option Stop) → (after ≡ before) ⊎ ((before ≡ None) × (after ≡ Some Writing)) → after ≡ Some (Memory no_memory) → before ≡ Some (Memory no_memory)
short_before before after why is = ⊎_elim (λ same. sym same ∙ is) (λ both. let never : Some Writing ≡ Some (Memory no_memory) = sym both.1 ∙ is in absurd (cc never)) why

-- ---- where the whole run stopped

-- counts that do not come to their end
within_most : (n most : ℕ) → n ≤ most → min (0 + n) most ≡ n
within_most n most few = omega (arith, few)

-- the events of lines that are parted at one
events_parted : (lines done more : List Line) (line : Line) → lines ≡ done ++ line ∷ more → events_asked lines ≡ events_asked done + (events_of line + events_asked more)
events_parted lines done more line is = ap events_asked is ∙ events_append done (line ∷ more) ∙ ap (λ (n : ℕ). events_asked done + n) (events_cons line more)

-- no more steps than events are made of a line
few_in : (line : Line) (made : ℕ) → steps_in line made ≤ made
few_in (Client client cmd) made = omega arith
few_in (Gc count) made = omega arith
few_in (Flush count) made = omega arith

-- it had begun with nothing made
module _ (lines : List Line) (old new : Serving) (fresh : IsFresh old) (few : events_asked lines ≤ greatest_count) where
  none_served : requests_of old.journal ≡ []
  none_served = ap requests_of fresh.journal

  counted_from : (was now n : ℕ) → was ≡ 0 → n ≤ greatest_count → (was ≤ greatest_count → now ≡ min (was + n) greatest_count) → now ≡ n
  counted_from was now n zero less counts = counts (omega (arith, zero)) ∙ ap (λ (w : ℕ). min (w + n) greatest_count) zero ∙ within_most n greatest_count less

  -- in a line
  stopped_in : (before stop : Option Stop) → (IsOfSink stop → IsOfSink before) → StopsLines lines old new before → StopsAmong lines new.journal new.steps new.events stop
  stopped_in before stop same stops =
      let all = events_parted lines stops.done stops.more stops.line stops.lines_are in
      let within = stops.within in
      let less = few_steps stops.done in
      let some = few_in stops.line stops.made in
      record {
        done = stops.done;
        rest = stops.line ∷ stops.more;
        lines_are = stops.lines_are;
        made = stops.made;
        within = stops.within;
        served = stops.served ∙ ap (λ (r : List Request). r ++ (requests_asked stops.done ++ take stops.made (request_of stops.line))) none_served;
        events_are = counted_from old.events new.events (events_asked stops.done + stops.made) fresh.events (omega (arith, few, all, within)) stops.events;
        steps_are = counted_from old.steps new.steps (steps_asked stops.done + steps_in stops.line stops.made) fresh.steps (omega (arith, few, all, within, less, some)) stops.steps;
        last = λ of. inr (stops.last (same of));
      }

  -- behind all lines
  stopped_behind : (stop : Option Stop) → AnswersPart (requests_asked lines) (events_asked lines) (steps_asked lines) old new None → StopsAmong lines new.journal new.steps new.events stop
  stopped_behind stop part =
      let less = few_steps lines in
      record {
        done = lines;
        rest = [];
        lines_are = sym (append-nil lines);
        made = 0;
        within = omega arith;
        served = part.all tt ∙ ap (λ (r : List Request). r ++ requests_asked lines) none_served ∙ sym (append-nil (requests_asked lines));
        events_are = counted_from old.events new.events (events_asked lines) fresh.events few (part.events tt) ∙ none (events_asked lines);
        steps_are = counted_from old.steps new.steps (steps_asked lines) fresh.steps (omega (arith, few, less)) (part.steps tt) ∙ none (steps_asked lines);
        last = λ _. inl refl;
      }
    where
      none : (n : ℕ) → n ≡ n + 0
      none n = omega arith

  -- the end of a run stops it for the sink only where it had stopped so, or was done
  pub stopped_among : (before after : Option Stop) → (after ≡ before) ⊎ ((before ≡ None) × (after ≡ Some Writing)) → AnswersPart (requests_asked lines) (events_asked lines) (steps_asked lines) old new before
      → OnStop before (StopsLines lines old new before) → StopsAmong lines new.journal new.steps new.events after
  stopped_among None after why part stops = stopped_behind after part
  stopped_among (Some stop) after why part stops =
      stopped_in (Some stop) after (λ of. ⊎_elim (λ same. subst IsOfSink same of) (λ both. absurd (let never : Some stop ≡ None = both.0 in cc never)) why) stops

-- before the first line
pub stopped_first : (lines : List Line) (it : Serving) → IsFresh it → StopsAmong lines it.journal it.steps it.events (Some (Memory no_memory))
stopped_first lines it fresh = record {
  done = [];
  rest = lines;
  lines_are = refl;
  made = 0;
  within = omega arith;
  served = ap requests_of fresh.journal;
  events_are = fresh.events;
  steps_are = fresh.steps ∙ none lines;
  last = λ of. absurd of;
}
  where
    none : (lines : List Line) → 0 ≡ 0 + steps_first lines 0
    none [] = refl
    none (Client client cmd ∷ lines) = refl
    none (Gc count ∷ lines) = refl
    none (Flush count ∷ lines) = refl

-- a run that was done, whose lines behind the last reply the sink did not take
pub answers_unwritten : (lines : List Line) (new : Serving) → AnswersLines lines new None → AnswersLines lines new (Some Writing)
answers_unwritten lines new answers = record {
  order = record {
    rest = answers.order.rest;
    served = answers.order.served;
    all = λ done. absurd done;
    events = λ done. absurd done;
    steps = λ done. absurd done;
    ordered = answers.order.ordered;
    all_ordered = λ done. absurd done;
    stopped = λ few.
        let events = answers.order.events tt in
        let steps = answers.order.steps tt in
        let less = few_steps lines in
        record {
          done = lines;
          rest = [];
          lines_are = sym (append-nil lines);
          made = 0;
          within = omega arith;
          served = answers.order.all tt ∙ sym (append-nil (requests_asked lines));
          events_are = counted (events_asked lines) new.events few events;
          steps_are = counted (steps_asked lines) new.steps (omega (arith, few, less)) steps;
          last = λ _. inl refl;
        };
  };
  short = λ is. let never : Some Writing ≡ Some (Memory no_memory) = is in absurd (cc never);
}
  where
    counted : (n now : ℕ) → n ≤ greatest_count → now ≡ min n greatest_count → now ≡ n + 0
    counted n now few is = omega (arith, few, is)
