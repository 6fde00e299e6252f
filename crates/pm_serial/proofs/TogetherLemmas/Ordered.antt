-- What was made of lines whose clients are asked in any order is what the lines ask in some order.
use Rattle.std.proofs.Common.{◌≡◌, inl, ℕ, ◌+◌, ◌<◌, List, [], ◌∷◌, ◌++◌, length, arith, Option, Some, refl, ap, sym, ◌∙◌}
use Rattle.std.proofs.lemmas.List.{append-nil, length-map}
use Rattle.std.proofs.lemmas.List.Sums.{sum_by-append}
use Rattle.pm_types.specs.Memory.{no_memory}
use Rattle.pm_types.specs.Counts.{greatest_count}
use Rattle.pm_types.specs.declared.command.Cmd.{Cmd}
use Rattle.pm_types.specs.declared.entry.Entry.{Entry}
use Rattle.pm_model.specs.declared.request.Request.{Request}
use Rattle.pm_model.specs.Journal.{IsFirstPart, Serves, commands_of, part, requests_of}
use Rattle.pm_script.specs.declared.line.Line.{Line}
use Rattle.pm_script.specs.declared.line.Line.TheVariants.{Client, Gc, Flush}
use Rattle.pm_script.specs.Parted.Asked.{events_asked, flushes_asked, flushes_of, requests_asked, steps_asked}
use Rattle.pm_script.specs.Parted.Lists.{list_of}
use Rattle.pm_saving.specs.Serving.{Before, Serving}
use Rattle.pm_engine.specs.declared.events.stop.Stop.{Stop}
use Rattle.pm_engine.specs.declared.events.stop.Stop.TheVariants.{Memory}
use Rattle.pm_engine.specs.Events.Causes.{IsDone}
use Rattle.pm_engine.specs.Events.Running.{IsFresh}
use Rattle.pm_engine.proofs.EventsLemmas.Answering.{answers_nothing}
use Rattle.pm_serial.specs.Made.{AreMade, IsOrderOf}
use Rattle.pm_serial.specs.Ordered.{course_of, steps_first}
use Rattle.pm_serial.specs.Running.{AnswersInOrder}
use Rattle.pm_serial.specs.Stepping.{IsOfSink}
use Rattle.pm_serial.specs.Together.{AnswersClients, AnswersInSomeOrder}
use Rattle.pm_serial.proofs.Answering.{answers_lines}
use Rattle.pm_serial.proofs.Cutting.{on_stop, stopped_first}
use Rattle.pm_serial.proofs.Ordering.{course_append, steps_append}
use Rattle.pm_serial.proofs.TogetherLemmas.Counting.{as_long}
use Rattle.pm_serial.proofs.TogetherLemmas.Left.{AreLeft, asked_both, by_both}

-- no event of the first line was made
none_first : (lines : List Line) → 0 ≡ steps_first lines 0
none_first [] = refl
none_first (Client client cmd ∷ lines) = refl
none_first (Gc count ∷ lines) = refl
none_first (Flush count ∷ lines) = refl

more_none : (n : ℕ) → n ≡ n + 0
more_none n = omega arith

-- nothing is left
abbrev pub NoneLeft : List (List Cmd) → ℕ → ℕ → Type 0
NoneLeft lists collects flushes = ((client : ℕ) → list_of lists client ≡ []) × (collects ≡ 0) × (flushes ≡ 0)

-- what was made of them, and in some order behind it what is left
module _ (lines : List Line) (it : Serving) (lists : List (List Cmd)) (collects flushes : ℕ) (parts : (client : ℕ) → part client it.journal ++ list_of lists client ≡ commands_of client (requests_asked lines)) (steps_left : it.steps + collects ≡ steps_asked lines)
    (events_left : it.events + flushes ≡ length it.journal + it.steps + flushes_asked lines) (few : it.events < greatest_count) (stop : Option Stop) (empty : IsDone stop → NoneLeft lists collects flushes) (unwritten : IsOfSink stop → NoneLeft lists collects flushes) (made : List Line)
    (are : AreMade made it) (tail : List Line) (left : AreLeft tail lists collects flushes) where
  pub is_order : IsOrderOf lines (made ++ tail)
  is_order = record {
    clients = λ client.
        by_both client made tail ∙ (λ i. commands_of client (sym are.answered i) ++ left.clients client i) ∙ parts client;
    steps =
        let all = steps_append made tail in
        let before = are.steps in
        let behind = left.steps in
        omega (arith, all, before, behind, steps_left);
    flushes =
        let all = sum_by-append flushes_of made tail in
        let events = are.events in
        let steps = are.steps in
        let behind = left.flushes_are in
        let long : length it.journal ≡ length (requests_asked made) = sym (length-map it.journal _) ∙ ap length are.answered in
        omega (arith, all, events, steps, behind, long, events_left);
  }

  pub as_many : events_asked (made ++ tail) ≡ events_asked lines
  as_many =
      let commands = as_long (requests_asked (made ++ tail)) (requests_asked lines) is_order.clients in
      let steps = is_order.steps in
      let flushes_same = is_order.flushes in
      omega (arith, commands, steps, flushes_same)

  nothing : NoneLeft lists collects flushes → tail ≡ []
  nothing none = left.none none.0 none.1 none.2

  all_made : IsDone stop → made ≡ made ++ tail
  all_made done = sym (append-nil made) ∙ ap (λ (t : List Line). made ++ t) (sym (nothing (empty done)))

  pub answers : AnswersInOrder (made ++ tail) it stop
  answers = record {
    rest = requests_asked tail;
    served = ap (λ (r : List Request). r ++ requests_asked tail) are.answered ∙ sym (asked_both made tail);
    all = λ done. are.answered ∙ ap requests_asked (all_made done);
    events = λ done. let all : it.events ≡ events_asked (made ++ tail) = are.events ∙ ap events_asked (all_made done) in omega (arith, all, few);
    steps = λ done.
        let all : it.steps ≡ steps_asked (made ++ tail) = are.steps ∙ ap steps_asked (all_made done) in
        let most : it.steps < greatest_count = steps_few in
        omega (arith, all, most);
    ordered = λ _. (
      course_of (0 + steps_asked made) (0 + events_asked made) tail,
      ap (λ (c : List Before). c ++ course_of (0 + steps_asked made) (0 + events_asked made) tail) are.course ∙ sym (course_append 0 0 made tail),
    );
    all_ordered = λ done _. are.course ∙ ap (course_of 0 0) (all_made done);
    stopped = on_stop stop (λ _. record {
      done = made;
      rest = tail;
      lines_are = refl;
      made = 0;
      within = omega arith;
      served = are.answered ∙ sym (append-nil (requests_asked made));
      events_are = are.events ∙ more_none (events_asked made);
      steps_are = are.steps ∙ more_none (steps_asked made) ∙ ap (λ (n : ℕ). steps_asked made + n) (none_first tail);
      last = λ of. inl (nothing (unwritten of));
    });
  }
    where
      steps_few : it.steps < greatest_count
      steps_few =
          let steps = are.steps in
          let events = are.events in
          omega (arith, steps, events, few)

  abbrev pub in_some_order : AnswersInSomeOrder lines it stop
  in_some_order = record { other = made ++ tail; is_order = is_order; as_many = as_many; answers = answers }

-- nothing was answered
pub fresh_order : (lines : List Line) (it : Serving) → IsFresh it → AnswersInSomeOrder lines it (Some (Memory no_memory))
fresh_order lines it fresh = record {
  other = lines;
  is_order = record { clients = λ client. refl; steps = refl; flushes = refl };
  as_many = refl;
  answers =
      (answers_lines lines it it (Some (Memory no_memory)) fresh (answers_nothing (requests_asked lines) (events_asked lines) (steps_asked lines) it it (Memory no_memory) refl)
      (λ few. (course_of 0 0 lines, ap (λ (course : List Before). course ++ course_of 0 0 lines) fresh.course)) (λ done. absurd done) (λ few. stopped_first lines it fresh) (λ is done more client parted made few. inl fresh.events)).order;
}

-- what each client was answered, where all was made that is asked if the run is done
pub clients_answered : (lines : List Line) (it : Serving) (stop : Option Stop) → ((client : ℕ) → IsFirstPart (part client it.journal) (commands_of client (requests_asked lines)))
    → (IsDone stop → Serves it.journal (requests_asked lines) × (it.steps ≡ steps_asked lines) × (it.events ≡ length it.journal + steps_asked lines + flushes_asked lines)) → AnswersClients lines it stop
clients_answered lines it stop parts all = record {
  parts = parts;
  serves = λ done. (all done).0;
  long = long;
  events = λ done.
      let entries = long done in
      let events = (all done).2 in
      omega (arith, entries, events);
  steps = λ done. (all done).1;
}
  where
    long : IsDone stop → length it.journal ≡ length (requests_asked lines)
    long done = sym (length-map it.journal _) ∙ as_long (requests_of it.journal) (requests_asked lines) (all done).0

-- nothing was answered
pub unanswered_yet : (lines : List Line) (it : Serving) (stop : Stop) → it.journal ≡ [] → AnswersClients lines it (Some stop)
unanswered_yet lines it stop empty =
    clients_answered lines it (Some stop) (λ client. (commands_of client (requests_asked lines), ap (λ (j : List Entry). part client j ++ commands_of client (requests_asked lines)) empty)) (λ done. absurd done)
