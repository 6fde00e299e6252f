-- What events answer, one behind another.
use Rattle.std.proofs.Common.{◌≡◌, ◌⊎◌, ⊎_elim, ℕ, ◌+◌, ◌≤◌, min, arith, List, [], ◌∷◌, ◌++◌, Option, Some, None, refl, ap, sym, subst, ◌∙◌, append_assoc}
use Rattle.std.proofs.lemmas.List.{append-nil, map-append}
use Rattle.pm_types.specs.Counts.{greatest_count}
use Rattle.pm_types.specs.declared.command.Cmd.{Cmd}
use Rattle.pm_types.specs.declared.entry.Entry.{Entry}
use Rattle.pm_model.specs.declared.request.Request.{Request}
use Rattle.pm_model.specs.Journal.{requests_of}
use Rattle.pm_saving.specs.Serving.{Serving}
use Rattle.pm_engine.specs.declared.events.stop.Stop.{Stop}
use Rattle.pm_engine.specs.declared.events.stop.Stop.TheVariants.{Writing}
use Rattle.pm_engine.specs.Events.Events.{Adds, AnswersPart}

-- nothing was asked
pub answers_none : (it : Serving) → AnswersPart [] 0 0 it it None
answers_none it = record {
  rest = [];
  served = refl;
  all = λ done. sym (append-nil (requests_of it.journal));
  events = λ done within. omega (arith, within);
  steps = λ done within. omega (arith, within);
}

-- none more was made
pub still_counted : (n most : ℕ) → n ≤ most → n ≡ min (n + 0) most
still_counted n most within = omega (arith, within)

-- an entry
pub answers_one : (client : ℕ) (cmd : Cmd) (old new : Serving) → Adds client cmd old new → AnswersPart (record { client = client; cmd = cmd } ∷ []) 1 0 old new None
answers_one client cmd old new adds =
    let asked : List Request = record { client = client; cmd = cmd } ∷ [] in
    let is : requests_of new.journal ≡ requests_of old.journal ++ asked =
    ap requests_of adds.journal ∙ map-append (λ (e : Entry). record { client = e.client; cmd = e.cmd }) old.journal (adds.entry ∷ [])
    ∙ (λ i. requests_of old.journal ++ record { client = adds.client_is i; cmd = adds.cmd_is i } ∷ []) in
    record {
      rest = [];
      served = append-nil (requests_of new.journal) ∙ is;
      all = λ done. is;
      events = λ done within. adds.events;
      steps = λ done within. adds.steps ∙ still_counted old.steps greatest_count within;
    }

-- an event that answers nothing, with so many of the collector
pub answers_event : (steps : ℕ) (old new : Serving) → new.journal ≡ old.journal → new.events ≡ min (old.events + 1) greatest_count
    → (old.steps ≤ greatest_count → new.steps ≡ min (old.steps + steps) greatest_count) → AnswersPart [] 1 steps old new None
answers_event steps old new journal events counted = record {
  rest = [];
  served = ap (λ (j : List Entry). requests_of j ++ []) journal;
  all = λ done. ap requests_of journal ∙ sym (append-nil (requests_of old.journal));
  events = λ done within. events;
  steps = λ done within. counted within;
}

-- the run stopped before anything of this was answered
pub answers_nothing : (asked : List Request) (count steps : ℕ) (old new : Serving) (stop : Stop) → new.journal ≡ old.journal → AnswersPart asked count steps old new (Some stop)
answers_nothing asked count steps old new stop journal = record {
  rest = asked;
  served = ap (λ (j : List Entry). requests_of j ++ asked) journal;
  all = λ done. absurd done;
  events = λ done. absurd done;
  steps = λ done. absurd done;
}

-- the run stopped when all of this was answered
pub answers_stopped : (asked : List Request) (count steps : ℕ) (old new : Serving) (stop : Stop) → AnswersPart asked count steps old new None → AnswersPart asked count steps old new (Some stop)
answers_stopped asked count steps old new stop part = record {
  rest = part.rest;
  served = part.served;
  all = λ done. absurd done;
  events = λ done. absurd done;
  steps = λ done. absurd done;
}

both_counts : (before one two most : ℕ) → before ≤ most → min (min (before + one) most + two) most ≡ min (before + (one + two)) most
both_counts before one two most within = omega (arith, within)

least : (one most n : ℕ) → n ≡ min one most → n ≤ most
least one most n is = omega (arith, is)

-- counts of two parts together
pub counted_then : (old mid new m n : ℕ) → old ≤ greatest_count → (old ≤ greatest_count → mid ≡ min (old + m) greatest_count) → (mid ≤ greatest_count → new ≡ min (mid + n) greatest_count) → new ≡ min (old + (m + n)) greatest_count
counted_then old mid new m n within first second =
    let was = first within in
    second (least (old + m) greatest_count mid was) ∙ ap (λ (e : ℕ). min (e + n) greatest_count) was ∙ both_counts old m n greatest_count within

-- one part behind another
pub answers_then : (one two : List Request) (m n k l : ℕ) (old mid new : Serving) (stop : Option Stop) → AnswersPart one m k old mid None → AnswersPart two n l mid new stop
    → AnswersPart (one ++ two) (m + n) (k + l) old new stop
answers_then one two m n k l old mid new stop first second = record {
  rest = second.rest;
  served = second.served ∙ ap (λ (r : List Request). r ++ two) (first.all tt) ∙ append_assoc (requests_of old.journal) one two;
  all = λ done. second.all done ∙ ap (λ (r : List Request). r ++ two) (first.all tt) ∙ append_assoc (requests_of old.journal) one two;
  events = λ done within. counted_then old.events mid.events new.events m n within (first.events tt) (second.events done);
  steps = λ done within. counted_then old.steps mid.steps new.steps k l within (first.steps tt) (second.steps done);
}

-- more was asked than was reached
pub answers_cut : (asked more : List Request) (m n k l : ℕ) (old new : Serving) (stop : Stop) → AnswersPart asked m k old new (Some stop) → AnswersPart (asked ++ more) n l old new (Some stop)
answers_cut asked more m n k l old new stop part = record {
  rest = part.rest ++ more;
  served = sym (append_assoc (requests_of new.journal) part.rest more) ∙ ap (λ (r : List Request). r ++ more) part.served ∙ append_assoc (requests_of old.journal) asked more;
  all = λ done. absurd done;
  events = λ done. absurd done;
  steps = λ done. absurd done;
}

-- the same, asked and counted in other words
pub answers_as : (one two : List Request) (m n k l : ℕ) (old new : Serving) (stop : Option Stop) → one ≡ two → m ≡ n → k ≡ l → AnswersPart one m k old new stop → AnswersPart two n l old new stop
answers_as one two m n k l old new stop asked count steps part =
    subst (λ (all : List Request × ℕ × ℕ). AnswersPart all.0 all.1 all.2 old new stop) (λ i. (asked i, count i, steps i)) part

-- the end of a run stops it only where nothing else did
pub answers_ended : (asked : List Request) (count steps : ℕ) (old new : Serving) (before after : Option Stop) → (after ≡ before) ⊎ ((before ≡ None) × (after ≡ Some Writing)) → AnswersPart asked count steps old new before
    → AnswersPart asked count steps old new after
answers_ended asked count steps old new before after why part =
    ⊎_elim (λ same. subst (AnswersPart asked count steps old new) (sym same) part)
    (λ both. subst (AnswersPart asked count steps old new) (sym both.1) (answers_stopped asked count steps old new Writing (subst (AnswersPart asked count steps old new) both.0 part))) why
