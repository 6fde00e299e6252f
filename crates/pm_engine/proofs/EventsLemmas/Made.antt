-- What one event does, from what the engine says of its call.
use Rattle.std.proofs.Common.{◌≡◌, ℕ, ◌<◌, ◌≤◌, List, [], None, Result, Ok, Err, OnOk, OnErr, refl, ap, ◌∙◌}
use Rattle.std.specs.Borrow.{Bor}
use Rattle.std.specs.Fn.{Shared}
use Rattle.pm_types.specs.Counts.{greatest_count}
use Rattle.pm_types.specs.declared.command.Cmd.{Cmd}
use Rattle.pm_types.specs.declared.event.Flushed.{Flushed}
use Rattle.pm_types.specs.declared.event.Step.{Step}
use Rattle.pm_types.specs.declared.fault.EngineFault.{EngineFault}
use Rattle.pm_types.specs.declared.reply.Reply.{Reply}
use Rattle.pm_disk.specs.declared.disk.Disk.{Ghosts}
use Rattle.pm_model.specs.Journal.{IsLegal}
use Rattle.pm_saving.specs.Progress.{cars_or_none}
use Rattle.pm_saving.specs.Serving.{opening, world}
use Rattle.pm_saving.specs.Images.{IsSettledCopy, IsTold}
use Rattle.pm_engine.specs.declared.engine.Engine.{Engine}
use Rattle.pm_engine.specs.Calls.{AnswersClient, AnswersCollect, AnswersFlush}
use Rattle.pm_engine.specs.Shown.{KeepsStart, disk_in, opened_disk, pages_in, room, serving}
use Rattle.pm_engine.specs.Events.Causes.{stop_after}
use Rattle.pm_engine.specs.Events.Events.{Adds, AnswersPart, EngineGoesOn, IsShort, KeepsCounts}
use Rattle.pm_engine.proofs.EventsLemmas.Answering.{answers_event, answers_nothing, still_counted}
use Rattle.pm_engine.proofs.EventsLemmas.Going.{answered, client_failed, collected, counts_stay, event_failed, flushed, leaves_still, unfinished}

module _ {D : Type 0} {F : Type 0} {g : Ghosts D} (old new : Engine D F g) where
  -- ---- a command

  module _ (client : ℕ) (cmd : Cmd) where
    pub adds_entry : (result : Result Reply EngineFault) → AnswersClient client cmd old new result → OnOk result (Adds client cmd (serving old) (serving new))
    adds_entry (Ok reply) call = record {
      entry = record { client = client; cmd = cmd; reply = reply };
      journal = call.serves.appends.journal;
      client_is = refl;
      cmd_is = refl;
      short = call.shown;
      course = call.serves.appends.course;
      events = call.serves.appends.events;
      steps = call.serves.appends.steps;
    }
    adds_entry (Err fault) call = tt

    pub client_stays : (result : Result Reply EngineFault) → AnswersClient client cmd old new result → OnErr result (KeepsCounts (serving old) (serving new))
    client_stays (Ok reply) call = tt
    client_stays (Err fault) call = counts_stay (serving old) (serving new) (g.count (disk_in old)) (g.count (disk_in new)) fault call.fails

    pub client_short : (result : Result Reply EngineFault) → AnswersClient client cmd old new result → 0 < room old → IsShort cmd (serving old) (serving new) (stop_after result)
    client_short (Ok reply) call within = tt
    client_short (Err fault) call within = unfinished old new cmd fault call.fails call.short within

  -- what every image at the end was since the beginning
  abbrev Counts : Type 0
  Counts = (left : List ℕ) → g.image (disk_in new) left → g.moment (disk_in old) ≤ g.moment (disk_in new) → g.since (disk_in new) (g.moment (disk_in old)) left

  module _ (start : KeepsStart old new) (legal : IsLegal (opening (serving old)) (serving old).journal) (running : (serving old).stopped ≡ None) (counts : Counts) where
    pub client_goes : (client : ℕ) (cmd : Cmd) (result : Result Reply EngineFault) → AnswersClient client cmd old new result → EngineGoesOn old new (stop_after result)
    client_goes client cmd (Ok reply) call = answered old new start legal call.past call.kept.past call.idle client cmd reply call.serves call.running call.leaves call.room
    client_goes client cmd (Err fault) call = client_failed old new start legal call.past call.kept.past call.idle call.room cmd fault call.fails running counts call.leaves

    pub flush_goes : (result : Result Flushed EngineFault) → AnswersFlush old new result → EngineGoesOn old new (stop_after result)
    flush_goes (Ok answer) call =
        flushed old new start legal call.past call.kept.past call.idle call.room answer (cars_or_none (serving old).frozen) (pages_in old) (pages_in new) (g.contents (disk_in old)) (g.contents (disk_in new)) call.flushes call.flushed call.running
        call.leaves
    flush_goes (Err fault) call = event_failed old new start legal call.past call.kept.past call.idle call.room fault call.fails running counts call.leaves

    pub collect_goes : (calls : Shared F (Bor (List ℕ) × Unit {0}) ℕ) (result : Result Step EngineFault) → AnswersCollect calls old new result
        → ((serving old).stopped ≡ None → IsTold (g.contents (opened_disk old)) → (left : List ℕ) → g.image (disk_in old) left → IsSettledCopy (world (serving old)) left)
        → ((left : List ℕ) → g.since (disk_in old) (g.moment (disk_in old)) left → g.image (disk_in old) left) → EngineGoesOn old new (stop_after result)
    collect_goes calls (Ok step) call settled now =
        let same = call.still.disk in
        collected old new start legal (ap (λ (d : D). (g.made d).past) same) call.kept.past (λ none. same) call.room call.collects call.running (leaves_still old new same settled now)
    collect_goes calls (Err fault) call settled now =
        let same = call.still.disk in
        event_failed old new start legal (ap (λ (d : D). (g.made d).past) same) call.kept.past (λ none. same) call.room fault call.fails running counts (leaves_still old new same settled now)

  -- ---- an event of the collector

  module _ (calls : Shared F (Bor (List ℕ) × Unit {0}) ℕ) where
    pub collect_stays : (result : Result Step EngineFault) → AnswersCollect calls old new result → OnErr result (KeepsCounts (serving old) (serving new))
    collect_stays (Ok step) call = tt
    collect_stays (Err fault) call = counts_stay (serving old) (serving new) (g.count (disk_in old)) (g.count (disk_in new)) fault call.fails

    pub collect_journal : (result : Result Step EngineFault) → AnswersCollect calls old new result → (serving new).journal ≡ (serving old).journal
    collect_journal (Ok step) call = call.collects.journal
    collect_journal (Err fault) call = (counts_stay (serving old) (serving new) (g.count (disk_in old)) (g.count (disk_in new)) fault call.fails).journal

    pub collect_course : (result : Result Step EngineFault) → AnswersCollect calls old new result → (serving new).course ≡ (serving old).course
    collect_course (Ok step) call = call.collects.course
    collect_course (Err fault) call = (counts_stay (serving old) (serving new) (g.count (disk_in old)) (g.count (disk_in new)) fault call.fails).course

    pub collect_answers : (result : Result Step EngineFault) → AnswersCollect calls old new result → AnswersPart [] 1 1 (serving old) (serving new) (stop_after result)
    collect_answers (Ok step) call = answers_event 1 (serving old) (serving new) call.collects.journal call.collects.events (λ within. call.collects.steps)
    collect_answers (Err fault) call = answers_nothing [] 1 1 (serving old) (serving new) _ (collect_journal (Err fault) call)

  -- ---- an event that writes a page

  pub flush_stays : (result : Result Flushed EngineFault) → AnswersFlush old new result → OnErr result (KeepsCounts (serving old) (serving new))
  flush_stays (Ok answer) call = tt
  flush_stays (Err fault) call = counts_stay (serving old) (serving new) (g.count (disk_in old)) (g.count (disk_in new)) fault call.fails

  pub flush_journal : (result : Result Flushed EngineFault) → AnswersFlush old new result → (serving new).journal ≡ (serving old).journal
  flush_journal (Ok answer) call = call.flushes.journal
  flush_journal (Err fault) call = (counts_stay (serving old) (serving new) (g.count (disk_in old)) (g.count (disk_in new)) fault call.fails).journal

  pub flush_course : (result : Result Flushed EngineFault) → AnswersFlush old new result → (serving new).course ≡ (serving old).course
  flush_course (Ok answer) call = call.flushes.course
  flush_course (Err fault) call = (counts_stay (serving old) (serving new) (g.count (disk_in old)) (g.count (disk_in new)) fault call.fails).course

  pub flush_answers : (result : Result Flushed EngineFault) → AnswersFlush old new result → AnswersPart [] 1 0 (serving old) (serving new) (stop_after result)
  flush_answers (Ok answer) call = answers_event 0 (serving old) (serving new) call.flushes.journal call.flushes.events (λ within. call.flushes.steps ∙ still_counted (serving old).steps greatest_count within)
  flush_answers (Err fault) call = answers_nothing [] 1 0 (serving old) (serving new) _ (flush_journal (Err fault) call)
