-- What an event of a logbook says.
use Rattle.std.proofs.Common.{◌≡◌, ℕ, suc, ◌+◌, ◌<◌, ◌≤◌, List, [], ◌∷◌, ◌++◌, length, length-append, zip, Option, Some, Ok, arith, refl, ap, sym, subst, ◌∙◌}
use Rattle.std.specs.Borrow.{Bor}
use Rattle.std.specs.Fn.{Shared}
use Rattle.pm_types.specs.declared.command.Cmd.{Cmd}
use Rattle.pm_types.specs.declared.event.Flushed.{Flushed}
use Rattle.pm_types.specs.declared.event.Step.{Step}
use Rattle.pm_types.specs.declared.fault.EngineFault.{EngineFault}
use Rattle.pm_types.specs.declared.fault.EngineFault.TheVariants.{Memory, Disk, Reopen}
use Rattle.pm_types.specs.declared.reply.Reply.{Reply}
use Rattle.pm_disk.specs.declared.disk.Disk.{Ghosts}
use Rattle.pm_saving.specs.Serving.{Serving}
use Rattle.pm_saving.specs.Events.{FailsAs}
use Rattle.pm_engine.specs.Calls.{AnswersClient, AnswersCollect, AnswersFlush, StaysWhole}
use Rattle.pm_engine.specs.Shown.{disk_in, serving}
use Rattle.pm_engine.proofs.EventsLemmas.Going.{counts_stay, same_start}
use Rattle.pm_passes.specs.declared.view.Numbers.{Numbers}
use Rattle.pm_seats.specs.declared.limits.TheConstants.{LAST_EVENT}
use Rattle.pm_seats.specs.declared.logbook.Logbook.{Logbook}
use Rattle.pm_seats.specs.Kept.{IsPaired, StopsNow}
use Rattle.pm_seats.specs.Shown.{callers_in, engine_in, log_in, next_in, numbers_in, struck_of}
use Rattle.pm_seats.specs.Events.{FailsEvent, SeesFlushed, SeesReply, SeesStep, StaysTied, Strikes}
use Rattle.pm_seats.proofs.Keeping.{one_more}
use Rattle.pm_seats.proofs.Pairs.{log_more}

-- numbers are told by their parts
pub numbers_are : (n : Numbers) (made flushed struck faults events : ℕ) → n.made ≡ made → n.flushed ≡ flushed → n.struck ≡ struck → n.faults ≡ faults → n.events ≡ events
    → n ≡ record { made = made; flushed = flushed; struck = struck; faults = faults; events = events }
numbers_are n made flushed struck faults events a b c d e = λ i. record { made = a i; flushed = b i; struck = c i; faults = d i; events = e i }

-- an engine that is stopped with this count has the disk's
stopped_with : (stopped : Option ℕ) (count first now : ℕ) → stopped ≡ Some count → StopsNow stopped first now → count ≡ now
stopped_with stopped count first now is stops = (subst (λ (s : Option ℕ). StopsNow s first now) is stops).0

module _ {D : Type 0} {F : Type 0} {g : Ghosts D} (old new : Logbook D F g) where
  abbrev was : Serving
  was = serving (engine_in old)

  abbrev now : Serving
  now = serving (engine_in new)

  abbrev faults_then : ℕ
  faults_then = g.count (disk_in (engine_in old))

  abbrev faults_now : ℕ
  faults_now = g.count (disk_in (engine_in new))

  log_stays : callers_in new ≡ callers_in old → now.journal ≡ was.journal → log_in new ≡ log_in old
  log_stays callers journal = λ i. zip (callers i) (journal i)

  module _ (last : ℕ) (under : was.events < last) (within : last ≤ LAST_EVENT) where
    -- a command was answered
    pub sees_reply : (number client : ℕ) (cmd : Cmd) (reply : Reply) (place : ℕ) → AnswersClient client cmd (engine_in old) (engine_in new) (Ok reply) → callers_in new ≡ callers_in old ++ number ∷ []
        → IsPaired (callers_in old) was.journal (next_in old) → place ≡ length (log_in old) → SeesReply last number client cmd old new (record { reply = reply; place = place })
    sees_reply number client cmd reply place call callers paired at =
        let appends = call.serves.appends in
        let made = one_more was.events now.events last appends.events under within in
        let long : length now.journal ≡ length was.journal + 1 = ap length appends.journal ∙ length-append was.journal (record { client = client; cmd = cmd; reply = reply } ∷ []) in
        let steps = appends.steps in
        record {
          within = under;
          call = call;
          log = log_more (callers_in old) (callers_in new) was.journal now.journal number (record { client = client; cmd = cmd; reply = reply }) paired.each callers appends.journal;
          place = at;
          numbers = numbers_are (numbers_in new) _ _ _ _ _ steps (omega (arith, made, long, steps)) (ap struck_of appends.stopped) call.running.count made;
        }

    -- an event of the collector was made
    pub sees_step : (calls : Shared F (Bor (List ℕ) × Unit {0}) ℕ) (step : Step) → AnswersCollect calls (engine_in old) (engine_in new) (Ok step) → callers_in new ≡ callers_in old → length was.journal + was.steps ≤ was.events
        → SeesStep calls last old new step
    sees_step calls step call callers counted =
        let collects = call.collects in
        let made = one_more was.events now.events last collects.events under within in
        let steps = one_more was.steps now.steps last collects.steps (omega (arith, counted, under)) within in
        let long = ap length collects.journal in
        record {
          within = under;
          call = call;
          log = log_stays callers collects.journal;
          numbers = numbers_are (numbers_in new) _ _ _ _ _ steps (omega (arith, made, long, steps)) (ap struck_of collects.stopped) call.running.count made;
        }

    -- a flush event was made
    pub sees_flushed : (flushed : Flushed) → AnswersFlush (engine_in old) (engine_in new) (Ok flushed) → callers_in new ≡ callers_in old → length was.journal + was.steps ≤ was.events → SeesFlushed last old new flushed
    sees_flushed flushed call callers counted =
        let flushes = call.flushes in
        let made = one_more was.events now.events last flushes.events under within in
        let steps = flushes.steps in
        let long = ap length flushes.journal in
        record {
          within = under;
          call = call;
          log = log_stays callers flushes.journal;
          numbers = numbers_are (numbers_in new) _ _ _ _ _ steps (omega (arith, made, long, steps, counted)) (ap struck_of flushes.stopped) call.running.count made;
        }

  -- the engine answered a fault
  strikes : (fault : EngineFault) → FailsAs was now faults_then faults_now fault → StaysWhole (engine_in old) (engine_in new) fault → (engine_in new ≡ engine_in old → new ≡ old) → (first : ℕ) → StopsNow was.stopped first faults_then → Strikes old new fault
  strikes (Memory _) fails stays same first stops =
      let long = ap length fails.0.journal in
      let steps = fails.0.steps in
      let events = fails.0.events in
      numbers_are (numbers_in new) _ _ _ _ _ steps (omega (arith, long, steps, events)) (ap struck_of (fails.2 ∙ sym fails.1)) fails.3 events
  strikes (Disk before after) fails stays same first stops =
      let long = ap length fails.0.journal in
      let steps = fails.0.steps in
      let events = fails.0.events in
      (fails.3.0, fails.3.2, numbers_are (numbers_in new) _ _ _ _ _ steps (omega (arith, long, steps, events)) (ap struck_of fails.2 ∙ sym (ap (λ s. suc (struck_of s)) fails.1)) (sym fails.3.1) events)
  strikes (Reopen count) fails stays same first stops = (same stays, stopped_with was.stopped count first faults_then fails.1 stops)

  pub fails_event : (Call : EngineFault → Type 0) (last : ℕ) (fault : EngineFault) → Call fault → was.events < last → FailsAs was now faults_then faults_now fault → StaysWhole (engine_in old) (engine_in new) fault → callers_in new ≡ callers_in old
      → (engine_in new ≡ engine_in old → new ≡ old) → (first : ℕ) → StopsNow was.stopped first faults_then → FailsEvent Call last old new fault
  fails_event Call last fault call under fails stays callers same first stops = record {
    within = under;
    call = call;
    log = log_stays callers (counts_stay was now faults_then faults_now fault fails).journal;
    strikes = strikes fault fails stays same first stops;
  }

-- nothing was done
pub stays_tied : {D F : Type 0} {g : Ghosts D} (it : Logbook D F g) → StaysTied it it
stays_tied it = record { start = same_start (engine_in it); first = refl; next = refl }
