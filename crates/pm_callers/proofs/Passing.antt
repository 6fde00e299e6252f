-- What a whole run answers, from what its calls came to and from how it ended.
use Rattle.std.proofs.Common.{◌≡◌, ◌⊎◌, inl, inr, ⊎_elim, ℕ, suc, zero, ◌+◌, ◌<◌, ◌≤◌, List, [], ◌∷◌, ◌++◌, length, Option, Some, None, arith, refl, ap, sym, ◌∙◌}
use Rattle.std.proofs.Math.Logic.{∥∥₁_map}
use Rattle.std.proofs.lemmas.List.{append-nil, append_cancel_left}
use Rattle.pm_types.specs.Memory.{no_memory}
use Rattle.pm_types.specs.Counts.{greatest_count}
use Rattle.pm_types.specs.declared.command.Cmd.{Cmd}
use Rattle.pm_types.specs.declared.fault.EngineFault.TheVariants.{Memory as NoRoom, Disk, Reopen}
use Rattle.pm_disk.specs.declared.disk.Disk.{Ghosts}
use Rattle.pm_model.specs.Journal.{commands_of, part}
use Rattle.pm_script.specs.declared.line.Line.{Line}
use Rattle.pm_script.specs.Parted.Asked.{flushes_asked, requests_asked, steps_asked}
use Rattle.pm_script.specs.Parted.Lists.{list_of}
use Rattle.pm_saving.specs.Serving.{Serving}
use Rattle.pm_engine.specs.declared.engine.Engine.{Engine}
use Rattle.pm_engine.specs.declared.events.stop.Stop.{Stop}
use Rattle.pm_engine.specs.declared.events.stop.Stop.TheVariants.{Memory, Writing, Device}
use Rattle.pm_engine.specs.Events.Causes.{IsDone, OnMemory}
use Rattle.pm_engine.specs.Events.Running.{IsFresh}
use Rattle.pm_engine.specs.History.{HasHistory}
use Rattle.pm_engine.specs.Shown.{serving}
use Rattle.pm_serial.specs.Stepping.{IsGathered, IsOfSink}
use Rattle.pm_serial.specs.Together.{AnswersClients, AnswersInSomeOrder}
use Rattle.pm_serial.proofs.Making.{has_made}
use Rattle.pm_serial.proofs.TogetherLemmas.Counting.{above, none_above}
use Rattle.pm_serial.proofs.TogetherLemmas.Ended.{Ends, done_before, memory_before, unwritten_before}
use Rattle.pm_serial.proofs.TogetherLemmas.Left.{clients_first, lists_from, own_list}
use Rattle.pm_serial.proofs.TogetherLemmas.Ordered.{NoneLeft, clients_answered, in_some_order}
use Rattle.pm_lock.specs.Crew.Whole.{MakesAllOf}
use Rattle.pm_seats.specs.declared.fault.SeatFault.{SeatFault}
use Rattle.pm_seats.specs.declared.fault.SeatFault.TheVariants.{Engine as Answered, Spent}
use Rattle.pm_callers.specs.Faults.{IsOfEngine, stop_met}
use Rattle.pm_callers.specs.Runs.{IsLeft, KeepsEngine, RunsCalls, Says}

-- ---- the fault

-- no fault is one of the sink
gathered_met : (fault : Option SeatFault) → IsGathered (stop_met fault)
gathered_met None = tt
gathered_met (Some (Spent n)) = tt
gathered_met (Some (Answered (NoRoom _))) = tt
gathered_met (Some (Answered (Disk before after))) = tt
gathered_met (Some (Answered (Reopen count))) = tt

-- what holds where memory ran out
on_memory : (P : Type 0) (stop : Option Stop) → (stop ≡ Some (Memory no_memory) → P) → OnMemory stop P
on_memory P None is = tt
on_memory P (Some (Memory _)) is = is refl
on_memory P (Some Writing) is = tt
on_memory P (Some Device) is = tt

module _ {D : Type 0} {F : Type 0} {g : Ghosts D} (lines : List Line) (old new : Engine D F g) where
  -- a fault that is told is the engine's
  pub is_of_engine : (fault : Option SeatFault) → Says lines old new fault → IsOfEngine fault
  is_of_engine None says = tt
  is_of_engine (Some (Spent n)) says = absurd says
  is_of_engine (Some (Answered fault)) says = tt

  says_all : (fault : Option SeatFault) → Says lines old new fault → stop_met fault ≡ None → MakesAllOf lines (serving new)
  says_all None says none = says
  says_all (Some (Spent n)) says none = absurd says
  says_all (Some (Answered fault)) says none = absurd (cc none)

  says_left : (fault : Option SeatFault) → Says lines old new fault → stop_met fault ≡ Some (Memory no_memory) → KeepsEngine old new ⊎ IsLeft lines (serving new)
  says_left None says is = absurd (cc is)
  says_left (Some (Spent n)) says is = absurd says
  says_left (Some (Answered (NoRoom _))) says is = says
  says_left (Some (Answered (Disk before after))) says is = absurd (cc is)
  says_left (Some (Answered (Reopen count))) says is = absurd (cc is)

-- ---- what is left

-- nothing is left behind all of it
none_behind : (answered left whole : List Cmd) → answered ++ left ≡ whole → answered ≡ whole → left ≡ []
none_behind answered left whole is all = append_cancel_left answered left [] (is ∙ sym all ∙ sym (append-nil answered))

nothing_of_nothing : (answered left : List Cmd) → answered ++ left ≡ [] → left ≡ []
nothing_of_nothing [] left none = none
nothing_of_nothing (cmd ∷ answered) left none = absurd (cc none)

-- a number to which another comes
rest_to : (a b : ℕ) → a ≤ b → (d : ℕ) × (a + d ≡ b)
rest_to zero b less = (b, omega arith)
rest_to (suc a) zero less = absurd (omega (arith, less))
rest_to (suc a) (suc b) less =
    let more = rest_to a b (omega (arith, less)) in
    let is = more.1 in
    (more.0, omega (arith, is))

-- ---- the run

module _ {D : Type 0} {F : Type 0} {g : Ghosts D} (lines : List Line) (old new : Engine D F g) (fault : Option SeatFault) (after : Option Stop) (run : RunsCalls lines old new fault) (why : Ends (stop_met fault) after) where
  -- where it is done, and where the sink failed, all was made
  all_done : IsDone after → MakesAllOf lines (serving new)
  all_done done = says_all lines old new fault run.says (done_before (stop_met fault) after why done)

  all_unwritten : IsOfSink after → MakesAllOf lines (serving new)
  all_unwritten of = says_all lines old new fault run.says (unwritten_before (stop_met fault) after (gathered_met fault) why of)

  pub answers : AnswersClients lines (serving new) after
  answers = clients_answered lines (serving new) after run.parts (λ done. let all = all_done done in (all.serves, all.steps, all.events))

  pub answers_last : IsOfSink after → AnswersClients lines (serving new) None
  answers_last of = clients_answered lines (serving new) None run.parts (λ _. let all = all_unwritten of in (all.serves, all.steps, all.events))

  -- where memory ran out
  pub short : IsFresh (serving old) → OnMemory after (((serving new).events ≡ 0) ⊎ IsLeft lines (serving new))
  short fresh =
      on_memory (((serving new).events ≡ 0) ⊎ IsLeft lines (serving new)) after
      (λ is.
      ⊎_elim (λ (keeps : KeepsEngine old new). inl (ap (λ (s : Serving). s.events) keeps.serving_is ∙ fresh.events)) (λ left. inr left)
      (says_left lines old new fault run.says (memory_before (stop_met fault) after why is)))

  -- a list for each client, of what is left
  abbrev left_behind : List (List Cmd)
  left_behind = lists_from (λ client. (run.parts client).0) 0 (above (requests_asked lines))

  their_lists : (client : ℕ) → list_of left_behind client ≡ (run.parts client).0
  their_lists client =
      own_list (λ client. (run.parts client).0) (above (requests_asked lines))
      (λ client most. nothing_of_nothing (part client (serving new).journal) (run.parts client).0 ((run.parts client).1 ∙ none_above client (requests_asked lines) most)) client

  parted : (client : ℕ) → part client (serving new).journal ++ list_of left_behind client ≡ commands_of client (requests_asked lines)
  parted client = ap (λ (list : List Cmd). part client (serving new).journal ++ list) (their_lists client) ∙ (run.parts client).1

  -- what was made, and in some order behind it what is left
  module _ (collects flushes : ℕ) (steps_left : (serving new).steps + collects ≡ steps_asked lines) (events_left : (serving new).events + flushes ≡ length (serving new).journal + (serving new).steps + flushes_asked lines) where
    none_left : MakesAllOf lines (serving new) → NoneLeft left_behind collects flushes
    none_left all =
        let steps = all.steps in
        let events = all.events in (
          (λ client. none_behind (part client (serving new).journal) _ (commands_of client (requests_asked lines)) (parted client) (all.serves client)),
          omega (arith, steps, steps_left),
          omega (arith, steps, events, events_left),
        )

    ordered : ∥ HasHistory (serving new) ∥₁ → ∥ AnswersInSomeOrder lines (serving new) after ∥₁
    ordered history =
        let few = run.few in
        let below : (serving new).events < greatest_count = omega (arith, few) in
        ∥∥₁_map history (λ came.
        let was = has_made (serving new) came below in
        in_some_order lines (serving new) left_behind collects flushes parted steps_left events_left below after
        (λ done. none_left (all_done done)) (λ of. none_left (all_unwritten of)) was.lines was.made _ (clients_first left_behind collects flushes 0))

  pub order : ∥ HasHistory (serving new) ∥₁ → ∥ AnswersInSomeOrder lines (serving new) after ∥₁
  order =
      let steps = rest_to (serving new).steps (steps_asked lines) run.steps in
      let events = rest_to (serving new).events (length (serving new).journal + (serving new).steps + flushes_asked lines) run.flushes in
      ordered steps.0 events.0 steps.1 events.1
