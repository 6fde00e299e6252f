-- What a book keeps of its script, from one turn to the next.
use Rattle.std.proofs.Common.{◌≡◌, ◌≢◌, ⊎_elim, ℕ, ◌+◌, ◌<◌, ◌^◌, length, length-append, arith, List, [], ◌∷◌, ◌++◌, refl, ap, sym, subst, ◌∙◌, append_assoc}
use Rattle.std.specs.List.{AllByRecursion}
use Rattle.std.proofs.lemmas.Bool.{cases_eq}
use Rattle.std.proofs.lemmas.List.{append-nil, map-append}
use Rattle.pm_types.specs.Counts.{raised}
use Rattle.pm_types.specs.declared.limits.TheConstants.{CLIENTS}
use Rattle.pm_types.specs.declared.command.Cmd.{Cmd}
use Rattle.pm_types.specs.declared.entry.Entry.{Entry}
use Rattle.pm_types.specs.declared.fault.EngineFault.{EngineFault}
use Rattle.pm_types.specs.declared.fault.EngineFault.TheVariants.{Memory, Disk, Reopen}
use Rattle.pm_model.specs.declared.request.Request.{Request}
use Rattle.pm_model.specs.Journal.{commands_of, part, requests_of}
use Rattle.pm_script.specs.declared.line.Line.{Line}
use Rattle.pm_script.specs.Script.{AreLines}
use Rattle.pm_script.specs.Parted.Asked.{flushes_asked, requests_asked, steps_asked}
use Rattle.pm_script.specs.Parted.Lists.{count_left, list_of}
use Rattle.pm_script.proofs.PartedLemmas.Parting.{commands_both, commands_elsewhere, commands_here}
use Rattle.pm_saving.specs.Serving.{Serving}
use Rattle.pm_saving.specs.Events.{FailsAs}
use Rattle.pm_engine.specs.Events.Events.{Adds, FitsLine}
use Rattle.pm_engine.specs.Events.Running.{IsFresh}
use Rattle.pm_engine.proofs.EventsLemmas.Lines.{told_more}
use Rattle.pm_lock.specs.Kept.{KeepsScript}

-- a request, alone
abbrev one_request : ℕ → Cmd → List Request
one_request client cmd = record { client = client; cmd = cmd } ∷ []

-- the part of a client in a journal with one entry more
part_more : (client : ℕ) (journal : List Entry) (entry : Entry) → part client (journal ++ entry ∷ []) ≡ part client journal ++ commands_of client (one_request entry.client entry.cmd)
part_more client journal entry =
    ap (commands_of client) (map-append (λ (e : Entry). record { client = e.client; cmd = e.cmd }) journal (entry ∷ [])) ∙ commands_both client (requests_of journal) (one_request entry.client entry.cmd)

-- what stays of an engine where nothing was answered
pub rests : (old new : Serving) (before after : ℕ) (fault : EngineFault) → FailsAs old new before after fault → (new.journal ≡ old.journal) × (new.events ≡ old.events) × (new.steps ≡ old.steps)
rests old new before after (Memory _) fails = (fails.0.journal, fails.0.events, fails.0.steps)
rests old new before after (Disk b a) fails = (fails.0.journal, fails.0.events, fails.0.steps)
rests old new before after (Reopen count) fails = (ap (λ (it : Serving). it.journal) fails.0, ap (λ (it : Serving). it.events) fails.0, ap (λ (it : Serving). it.steps) fails.0)

module _ (lines : List Line) (old new : Serving) (lists : List (List Cmd)) (collects flushes : ℕ) (kept : KeepsScript lines old lists collects flushes) where
  -- so few events were made that each count stands below its end
  few_made : (old.events < 2 ^ 50) × (old.steps < 2 ^ 50)
  few_made =
      let answered = kept.answered in
      let steps = kept.steps in
      let events = kept.events in
      let few = kept.few in
      (omega (arith, answered, steps, events, few), omega (arith, steps, few))

  -- one event more was counted
  counts_one : new.events ≡ raised old.events → new.events ≡ old.events + 1
  counts_one is = let few = few_made.0 in omega (arith, is, few)

  counts_step : new.steps ≡ raised old.steps → new.steps ≡ old.steps + 1
  counts_step is = let few = few_made.1 in omega (arith, is, few)

  -- nothing of it changed
  pub script_stays : new.journal ≡ old.journal → new.events ≡ old.events → new.steps ≡ old.steps → KeepsScript lines new lists collects flushes
  script_stays journal events steps = record {
    lines_are = kept.lines_are;
    parts = λ client. ap (λ (j : List Entry). part client j ++ list_of lists client) journal ∙ kept.parts client;
    answered = ap (λ (j : List Entry). length j + count_left lists) journal ∙ kept.answered;
    steps = ap (λ (n : ℕ). n + collects) steps ∙ kept.steps;
    events =
        let was = kept.events in
        let long = ap length journal in
        omega (arith, was, long, events, steps);
    few = kept.few;
    told = subst (AllByRecursion FitsLine) (sym journal) kept.told;
  }

  -- an event of the collector was made
  pub script_collected : (left : ℕ) → left + 1 ≡ collects → new.journal ≡ old.journal → new.events ≡ raised old.events → new.steps ≡ raised old.steps → KeepsScript lines new lists left flushes
  script_collected left fewer journal events steps =
      let more = counts_one events in
      let further = counts_step steps in
      let long = ap length journal in
      record {
        lines_are = kept.lines_are;
        parts = λ client. ap (λ (j : List Entry). part client j ++ list_of lists client) journal ∙ kept.parts client;
        answered = ap (λ (j : List Entry). length j + count_left lists) journal ∙ kept.answered;
        steps = let was = kept.steps in omega (arith, was, further, fewer);
        events = let was = kept.events in omega (arith, was, long, more, further);
        few = kept.few;
        told = subst (AllByRecursion FitsLine) (sym journal) kept.told;
      }

  -- a flush event was made
  pub script_flushed : (left : ℕ) → left + 1 ≡ flushes → new.journal ≡ old.journal → new.events ≡ raised old.events → new.steps ≡ old.steps → KeepsScript lines new lists collects left
  script_flushed left fewer journal events steps =
      let more = counts_one events in
      let long = ap length journal in
      record {
        lines_are = kept.lines_are;
        parts = λ client. ap (λ (j : List Entry). part client j ++ list_of lists client) journal ∙ kept.parts client;
        answered = ap (λ (j : List Entry). length j + count_left lists) journal ∙ kept.answered;
        steps = ap (λ (n : ℕ). n + collects) steps ∙ kept.steps;
        events = let was = kept.events in omega (arith, was, long, more, steps, fewer);
        few = kept.few;
        told = subst (AllByRecursion FitsLine) (sym journal) kept.told;
      }

  -- the first command of a client's list was answered
  module _ (later : List (List Cmd)) (who : ℕ) (cmd : Cmd) (adds : Adds who cmd old new) (next : list_of lists who ≡ cmd ∷ list_of later who) where
    longer : (client : ℕ) → part client new.journal ≡ part client old.journal ++ commands_of client (one_request who cmd)
    longer client =
        ap (part client) adds.journal ∙ part_more client old.journal adds.entry ∙ (λ i. part client old.journal ++ commands_of client (one_request (adds.client_is i) (adds.cmd_is i)))

    -- its own part has it now
    part_here : part who new.journal ++ list_of later who ≡ part who old.journal ++ list_of lists who
    part_here =
        ap (λ (p : List Cmd). p ++ list_of later who) (longer who ∙ ap (λ (c : List Cmd). part who old.journal ++ c) (commands_here who who cmd refl)) ∙ append_assoc (part who old.journal) (cmd ∷ []) (list_of later who)
        ∙ ap (λ (l : List Cmd). part who old.journal ++ l) (sym next)

    -- and no other has it
    part_there : (client : ℕ) → (who ≡ client → ⊥) → part client new.journal ≡ part client old.journal
    part_there client apart = longer client ∙ ap (λ (c : List Cmd). part client old.journal ++ c) (commands_elsewhere client who cmd apart) ∙ append-nil (part client old.journal)

    module _ (others : (other : ℕ) → other ≢ who → list_of later other ≡ list_of lists other) where
      part_of : (client : ℕ) → part client new.journal ++ list_of later client ≡ part client old.journal ++ list_of lists client
      part_of client =
          ⊎_elim (λ (same : client ≡ who). subst (λ (k : ℕ). part k new.journal ++ list_of later k ≡ part k old.journal ++ list_of lists k) (sym same) part_here)
          (λ apart. (λ i. part_there client (λ is. apart (sym is)) i ++ others client apart i)) (cases_eq client who)

      pub script_answered : who < CLIENTS → count_left later + 1 ≡ count_left lists → KeepsScript lines new later collects flushes
      script_answered below fewer =
          let more = counts_one adds.events in
          let still = adds.steps in
          let long : length new.journal ≡ length old.journal + 1 = ap length adds.journal ∙ length-append old.journal (adds.entry ∷ []) in
          record {
            lines_are = kept.lines_are;
            parts = λ client. part_of client ∙ kept.parts client;
            answered = let was = kept.answered in omega (arith, was, long, fewer);
            steps = ap (λ (n : ℕ). n + collects) adds.steps ∙ kept.steps;
            events = let was = kept.events in omega (arith, was, long, more, still);
            few = kept.few;
            told = subst (AllByRecursion FitsLine) (sym adds.journal) (told_more old.journal adds.entry kept.told (subst (λ (n : ℕ). n < CLIENTS) (sym adds.client_is) below, adds.short));
          }

-- nothing was asked yet, and all is left
pub script_begun : (lines : List Line) (it : Serving) (lists : List (List Cmd)) (collects flushes : ℕ) → IsFresh it → AreLines lines → ((client : ℕ) → list_of lists client ≡ commands_of client (requests_asked lines))
    → count_left lists ≡ length (requests_asked lines) → length (requests_asked lines) < 2 ^ 48 → collects ≡ steps_asked lines → collects < 2 ^ 48 → flushes ≡ flushes_asked lines → flushes < 2 ^ 48 → KeepsScript lines it lists collects flushes
script_begun lines it lists collects flushes fresh are each all few_commands steps few_steps flushed few_flushes =
    let none : length it.journal ≡ 0 = ap length fresh.journal in
    let no_events = fresh.events in
    let no_steps = fresh.steps in
    record {
      lines_are = are;
      parts = λ client. ap (λ (j : List Entry). part client j ++ list_of lists client) fresh.journal ∙ each client;
      answered = omega (arith, none, all);
      steps = omega (arith, no_steps, steps);
      events = omega (arith, none, no_events, no_steps, flushed);
      few = omega (arith, few_commands, steps, few_steps, flushed, few_flushes);
      told = subst (AllByRecursion FitsLine) (sym fresh.journal) tt;
    }
