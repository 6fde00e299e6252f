-- What a logbook keeps, from one event to the next.
use Rattle.std.proofs.Common.{◌≡◌, ℕ, suc, ◌+◌, ◌<◌, ◌≤◌, List, [], ◌∷◌, ◌++◌, length, length-append, Option, Some, None, Result, Ok, Err, arith, refl, ap, sym, subst, ◌∙◌}
use Rattle.std.specs.Borrow.{Bor}
use Rattle.std.specs.Fn.{Shared}
use Rattle.std.specs.List.{AllByRecursion}
use Rattle.std.proofs.Math.Logic.{∥∥₁_map, ∥∥₁_prop}
use Rattle.pm_types.specs.Counts.{raised}
use Rattle.pm_types.specs.Memory.{no_memory}
use Rattle.pm_types.specs.declared.limits.TheConstants.{CLIENTS}
use Rattle.pm_types.specs.declared.command.Cmd.{Cmd}
use Rattle.pm_types.specs.declared.event.Flushed.{Flushed}
use Rattle.pm_types.specs.declared.event.Step.{Step}
use Rattle.pm_types.specs.declared.fault.EngineFault.{EngineFault}
use Rattle.pm_types.specs.declared.fault.EngineFault.TheVariants.{Memory as NoRoom, Disk, Reopen}
use Rattle.pm_types.specs.declared.reply.Reply.{Reply}
use Rattle.pm_disk.specs.declared.disk.Disk.{Ghosts}
use Rattle.pm_saving.specs.Events.{FailsAs}
use Rattle.pm_engine.specs.declared.engine.Engine.{Engine}
use Rattle.pm_engine.specs.declared.events.stop.Stop.TheVariants.{Memory, Device}
use Rattle.pm_engine.specs.Calls.{AnswersClient, AnswersCollect, AnswersFlush, StaysWhole}
use Rattle.pm_engine.specs.Shown.{disk_in, past_of, recent, serving}
use Rattle.pm_engine.specs.Events.Causes.{stop_after, stop_of}
use Rattle.pm_engine.specs.Events.Events.{Adds, EngineGoesOn, FitsLine}
use Rattle.pm_engine.specs.Events.Running.{IsFresh}
use Rattle.pm_engine.proofs.EventsLemmas.Going.{counts_stay, goes_then}
use Rattle.pm_engine.proofs.EventsLemmas.Made.{adds_entry}
use Rattle.pm_engine.proofs.EventsLemmas.Lines.{told_more}
use Rattle.pm_engine.proofs.WorksLemmas.Whole.{front_none}
use Rattle.pm_seats.specs.declared.limits.TheConstants.{LAST_EVENT}
use Rattle.pm_seats.specs.declared.logbook.Logbook.{Logbook}
use Rattle.pm_seats.specs.Callers.{callers_of}
use Rattle.pm_seats.specs.Kept.{IsPaired, KeepsLogbook, StopsNow, stop_in}
use Rattle.pm_seats.proofs.Pairs.{paired_drawn, paired_more, paired_still}

-- below the limit each event is counted
pub one_more : (old new last : ℕ) → new ≡ raised old → old < last → last ≤ LAST_EVENT → new ≡ suc old
one_more old new last is below within = omega (arith, is, below, within)

module _ {D : Type 0} {F : Type 0} {g : Ghosts D} where
  -- the engine went on from the first as a run does, and where it is stopped it has the disk's count
  abbrev GoesFrom : Engine D F g → Engine D F g → Type 0
  GoesFrom first now = EngineGoesOn first now (stop_in (serving now).stopped) × StopsNow (serving now).stopped (g.count (disk_in first)) (g.count (disk_in now))

  -- after memory ran out the run may go on
  may_go_on : (old new : Engine D F g) → EngineGoesOn old new (Some (Memory no_memory)) → EngineGoesOn old new None
  may_go_on old new goes =
      record { start = goes.start; entries = goes.entries; room = goes.room; grows = goes.grows; leaves = goes.leaves; last = λ of. absurd of; going = goes.going; cause = goes.cause; past = goes.past; idle = goes.idle }

  -- a call that failed lets no entry go
  gone_failed : (old new : Engine D F g) (fault : EngineFault) → FailsAs (serving old) (serving new) (g.count (disk_in old)) (g.count (disk_in new)) fault → StaysWhole old new fault → ((serving old).stopped ≡ None → EngineGoesOn old new (Some (stop_of fault)))
      → past_of new ≡ past_of old
  gone_failed old new (NoRoom _) fails stays goes = (goes fails.1).entries
  gone_failed old new (Disk before after) fails stays goes = (goes fails.1).entries
  gone_failed old new (Reopen count) fails stays goes = ap (λ (e : Engine D F g). past_of e) stays

  module _ (first old new : Engine D F g) (was : GoesFrom first old) where
    goes_before : (serving old).stopped ≡ None → EngineGoesOn first old None
    goes_before none = subst (λ (s : Option ℕ). EngineGoesOn first old (stop_in s)) none was.0

    -- an event was made
    pub goes_made : (serving old).stopped ≡ None → EngineGoesOn old new None → GoesFrom first new
    goes_made none goes =
        let still : (serving new).stopped ≡ None = goes.going (λ of. of) in (
          subst (λ (s : Option ℕ). EngineGoesOn first new (stop_in s)) (sym still) (goes_then first old new None (goes_before none) goes),
          subst (λ (s : Option ℕ). StopsNow s (g.count (disk_in first)) (g.count (disk_in new))) (sym still) tt,
        )

    -- the disk failed
    goes_struck : (count : ℕ) → (serving old).stopped ≡ None → (serving new).stopped ≡ Some count → count ≡ g.count (disk_in new) → EngineGoesOn old new (Some Device) → GoesFrom first new
    goes_struck count none some now goes =
        let all = goes_then first old new (Some Device) (goes_before none) goes in (
          subst (λ (s : Option ℕ). EngineGoesOn first new (stop_in s)) (sym some) all,
          subst (λ (s : Option ℕ). StopsNow s (g.count (disk_in first)) (g.count (disk_in new))) (sym some) (now, all.cause),
        )

    -- the engine answered a fault
    pub goes_failed : (fault : EngineFault) → FailsAs (serving old) (serving new) (g.count (disk_in old)) (g.count (disk_in new)) fault → StaysWhole old new fault → ((serving old).stopped ≡ None → EngineGoesOn old new (Some (stop_of fault)))
        → GoesFrom first new
    goes_failed (NoRoom _) fails stays goes = goes_made fails.1 (may_go_on old new (goes fails.1))
    goes_failed (Disk before after) fails stays goes = goes_struck (g.count (disk_in new)) fails.1 fails.2 refl (goes fails.1)
    goes_failed (Reopen count) fails stays goes = subst (GoesFrom first) (sym stays) was

  module _ (first old new : Engine D F g) (callers : List ℕ) (next : ℕ) (kept : KeepsLogbook first old callers next) where
    -- a command was answered
    pub kept_answered : (later : List ℕ) (last number client : ℕ) (cmd : Cmd) → later ≡ callers ++ number ∷ [] → number < next → client < CLIENTS → (serving old).events < last → last ≤ LAST_EVENT → Adds client cmd (serving old) (serving new)
        → (serving old).stopped ≡ None → EngineGoesOn old new None → KeepsLogbook first new later next
    kept_answered later last number client cmd more drawn below under within adds none goes =
        let from = goes_made first old new (kept.goes, kept.stopped) none goes in
        let made = one_more (serving old).events (serving new).events last adds.events under within in
        record {
          paired = subst (λ (c : List ℕ). IsPaired c (serving new).journal next) (sym more) (paired_more callers (serving old).journal (serving new).journal next number adds.entry kept.paired drawn adds.journal);
          goes = from.0;
          whole = goes.entries ∙ kept.whole;
          stopped = from.1;
          counted =
              let long : length (serving new).journal ≡ length (serving old).journal + 1 = ap length adds.journal ∙ length-append (serving old).journal (adds.entry ∷ []) in
              let steps = adds.steps in
              let was = kept.counted in
              omega (arith, long, steps, was, made);
          few = omega (arith, made, under, within);
          lines = subst (AllByRecursion FitsLine) (sym adds.journal) (told_more (serving old).journal adds.entry kept.lines (subst (λ (n : ℕ). n < CLIENTS) (sym adds.client_is) below, adds.short));
        }

    -- another event was made
    pub kept_made : (last : ℕ) → (serving old).events < last → last ≤ LAST_EVENT → (serving new).journal ≡ (serving old).journal → (serving new).events ≡ raised (serving old).events → (serving new).steps ≤ (serving old).steps + 1
        → (serving old).stopped ≡ None → EngineGoesOn old new None → KeepsLogbook first new callers next
    kept_made last under within journal events steps none goes =
        let from = goes_made first old new (kept.goes, kept.stopped) none goes in
        let made = one_more (serving old).events (serving new).events last events under within in
        record {
          paired = paired_still callers (serving old).journal (serving new).journal next kept.paired journal;
          goes = from.0;
          whole = goes.entries ∙ kept.whole;
          stopped = from.1;
          counted = let long = ap length journal in let was = kept.counted in omega (arith, long, steps, was, made);
          few = omega (arith, made, under, within);
          lines = subst (AllByRecursion FitsLine) (sym journal) kept.lines;
        }

    -- the engine answered a fault
    pub kept_failed : (fault : EngineFault) → FailsAs (serving old) (serving new) (g.count (disk_in old)) (g.count (disk_in new)) fault → StaysWhole old new fault → ((serving old).stopped ≡ None → EngineGoesOn old new (Some (stop_of fault)))
        → KeepsLogbook first new callers next
    kept_failed fault fails stays goes =
        let from = goes_failed first old new (kept.goes, kept.stopped) fault fails stays goes in
        let same = counts_stay (serving old) (serving new) (g.count (disk_in old)) (g.count (disk_in new)) fault fails in
        record {
          paired = paired_still callers (serving old).journal (serving new).journal next kept.paired same.journal;
          goes = from.0;
          whole = gone_failed old new fault fails stays goes ∙ kept.whole;
          stopped = from.1;
          counted = let long = ap length same.journal in let steps = same.steps in let events = same.events in let was = kept.counted in omega (arith, long, steps, events, was);
          few = let events = same.events in let was = kept.few in omega (arith, events, was);
          lines = subst (AllByRecursion FitsLine) (sym same.journal) kept.lines;
        }

  -- what an event keeps, whatever the engine answered
  module _ (first old new : Engine D F g) (callers : List ℕ) (next : ℕ) (kept : ∥ KeepsLogbook first old callers next ∥₁) (last : ℕ) (under : (serving old).events < last) (within : last ≤ LAST_EVENT) where
    pub client_keeps : (later : List ℕ) (number client : ℕ) (cmd : Cmd) (reply : Reply) → later ≡ callers ++ number ∷ [] → number < next → client < CLIENTS → AnswersClient client cmd old new (Ok reply)
        → ((serving old).stopped ≡ None → EngineGoesOn old new None) → ∥ KeepsLogbook first new later next ∥₁
    client_keeps later number client cmd reply more drawn below call goes =
        let running = call.running.running in
        ∥∥₁_map kept (λ is. kept_answered first old new callers next is later last number client cmd more drawn below under within (adds_entry old new client cmd (Ok reply) call) running (goes running))

    pub client_fails : (client : ℕ) (cmd : Cmd) (fault : EngineFault) → AnswersClient client cmd old new (Err fault) → ((serving old).stopped ≡ None → EngineGoesOn old new (Some (stop_of fault))) → ∥ KeepsLogbook first new callers next ∥₁
    client_fails client cmd fault call goes = ∥∥₁_map kept (λ is. kept_failed first old new callers next is fault call.fails call.reopen goes)

    pub flush_keeps : (result : Result Flushed EngineFault) → AnswersFlush old new result → ((serving old).stopped ≡ None → EngineGoesOn old new (stop_after result)) → ∥ KeepsLogbook first new callers next ∥₁
    flush_keeps (Ok flushed) call goes =
        let flushes = call.flushes in
        let running = call.running.running in
        ∥∥₁_map kept (λ is. kept_made first old new callers next is last under within flushes.journal flushes.events (let steps = flushes.steps in omega (arith, steps)) running (goes running))
    flush_keeps (Err fault) call goes = ∥∥₁_map kept (λ is. kept_failed first old new callers next is fault call.fails call.reopen goes)

    pub collect_keeps : (calls : Shared F (Bor (List ℕ) × Unit {0}) ℕ) (result : Result Step EngineFault) → AnswersCollect calls old new result → ((serving old).stopped ≡ None → EngineGoesOn old new (stop_after result))
        → ∥ KeepsLogbook first new callers next ∥₁
    collect_keeps calls (Ok step) call goes =
        let collects = call.collects in
        let running = call.running.running in
        ∥∥₁_map kept (λ is. kept_made first old new callers next is last under within collects.journal collects.events (let steps = collects.steps in omega (arith, steps)) running (goes running))
    collect_keeps calls (Err fault) call goes = ∥∥₁_map kept (λ is. kept_failed first old new callers next is fault call.fails call.reopen goes)

  -- nothing was asked yet
  pub kept_begun : (engine first : Engine D F g) → first ≡ engine → IsFresh (serving engine) → EngineGoesOn engine engine None → ∥ KeepsLogbook first engine [] 1 ∥₁
  kept_begun engine first same fresh goes =
      subst (λ (e : Engine D F g). ∥ KeepsLogbook e engine [] 1 ∥₁) (sym same)
      (∣ record {
        paired = record { each = sym (ap length fresh.journal); drawn = tt; some = omega arith };
        goes = subst (λ (s : Option ℕ). EngineGoesOn engine engine (stop_in s)) (sym fresh.stopped) goes;
        whole = front_none (past_of engine) (recent engine) fresh.journal;
        stopped = subst (λ (s : Option ℕ). StopsNow s (g.count (disk_in engine)) (g.count (disk_in engine))) (sym fresh.stopped) tt;
        counted = let long = ap length fresh.journal in let steps = fresh.steps in omega (arith, long, steps);
        few = let events = fresh.events in omega (arith, events);
        lines = subst (AllByRecursion FitsLine) (sym fresh.journal) tt;
      } ∣₁)

  -- a number was drawn
  pub kept_drawn : (first now : Engine D F g) (callers : List ℕ) (next later : ℕ) → later ≡ suc next → ∥ KeepsLogbook first now callers next ∥₁ → ∥ KeepsLogbook first now callers later ∥₁
  kept_drawn first now callers next later is kept =
      subst (λ (n : ℕ). ∥ KeepsLogbook first now callers n ∥₁) (sym is)
      (∥∥₁_map kept (λ it. record { paired = paired_drawn callers (serving now).journal next it.paired; goes = it.goes; whole = it.whole; stopped = it.stopped; counted = it.counted; few = it.few; lines = it.lines }))

  module _ (old : Logbook D F g) where
    -- a logbook is told by its fields: what its type keeps adds nothing
    pub same_logbook : (engine : Engine D F g) (kept : ∥ KeepsLogbook old.first.value engine (callers_of old.callers) old.next ∥₁) → engine ≡ old.engine → record old { engine = engine; kept = kept } ≡ old
    same_logbook engine kept same =
        subst (λ (e : Engine D F g). (k : ∥ KeepsLogbook old.first.value e (callers_of old.callers) old.next ∥₁) → record old { engine = e; kept = k } ≡ old) (sym same)
        (λ k. (λ i. record old { kept = ∥∥₁_prop k old.kept i })) kept
