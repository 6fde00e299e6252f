-- What calls of an engine with a nursery do in a run, from what the engine says of them.
use Rattle.std.proofs.Common.{◌≡◌, ⊎_elim, inl, inr, ℕ, ◌<◌, ◌≤◌, List, [], Option, Some, None, Result, Ok, Err, OnOk, OnErr, refl, ap, subst, ◌∙◌, arith}
use Rattle.std.specs.Borrow.{Bor}
use Rattle.std.specs.Fn.{Shared}
use Rattle.pm_types.specs.Counts.{Rose, ShowsRise, greatest_count}
use Rattle.pm_types.specs.declared.command.Cmd.{Cmd}
use Rattle.pm_types.specs.declared.event.Flushed.{Flushed}
use Rattle.pm_types.specs.declared.event.Flushed.TheVariants.{AllFlushed, Wrote}
use Rattle.pm_types.specs.declared.event.Step.{Step}
use Rattle.pm_types.specs.declared.fault.EngineFault.{EngineFault}
use Rattle.pm_types.specs.declared.fault.EngineFault.TheVariants.{Memory as NoRoom, Disk, Reopen}
use Rattle.pm_types.specs.declared.reply.Reply.{Reply}
use Rattle.pm_disk.specs.declared.disk.Disk.{Ghosts}
use Rattle.pm_disk.proofs.RunLemmas.{weaker}
use Rattle.pm_model.specs.Journal.{IsLegal}
use Rattle.pm_saving.specs.Progress.{Progress, Saving}
use Rattle.pm_saving.specs.Serving.{Serving, opening, world}
use Rattle.pm_saving.specs.Events.{StaysBegun}
use Rattle.pm_saving.specs.Images.{IsSettledCopy, IsTold}
use Rattle.pm_engine.specs.Works.Clauses.{Face, IsFlushed}
use Rattle.pm_engine.specs.Works.Copies.{MayStand}
use Rattle.pm_engine.specs.Events.Causes.{stop_after}
use Rattle.pm_engine.specs.Events.Events.{Adds, AnswersPart, IsShort, KeepsCounts}
use Rattle.pm_engine.proofs.EventsLemmas.Answering.{answers_event, answers_nothing, still_counted}
use Rattle.pm_young.specs.declared.engine.YoungEngine.{YoungEngine}
use Rattle.pm_young.specs.declared.halt.Halt.{Halt}
use Rattle.pm_young.specs.Calls.{AnswersYoungCollect, AnswersYoungFlush, HaltsForDisk, HaltsForMemory, Sweeps, WasHalted}
use Rattle.pm_young.specs.Clients.{AnswersYoungClient}
use Rattle.pm_young.specs.Halts.{stopped_by}
use Rattle.pm_young.specs.Seen.{KeepsStart, disk_in, face, halt_in, opened_disk, room, serving}
use Rattle.pm_young_run.specs.Stepping.{YoungGoesOnRun}
use Rattle.pm_young_run.proofs.Going.{MayStandThen, answered, device, eventful, leaves_still, no_room}

-- ---- the copy in progress

-- where none was none is
none_begun : (old new : Option Progress) → StaysBegun old new → old ≡ None → new ≡ None
none_begun None None stays none = refl
none_begun None (Some after) stays none = absurd stays
none_begun (Some before) None stays none = refl
none_begun (Some before) (Some after) stays none = absurd (cc none)

-- a flush begins none
none_flushed : {D : Type 0} {g : Ghosts D} (old new : Face g) (flushed : Flushed) → IsFlushed old new flushed
    → old.serving.saving.progress ≡ None → new.serving.saving.progress ≡ None
none_flushed old new AllFlushed is none = ap (λ (it : Saving). it.progress) is.1.saving ∙ none
none_flushed old new (Wrote page) is none = let some = is.is_progress in absurd (cc (none, some))

-- what was saved stays, and so does that none is in progress
none_saved : (old new : Saving) → new ≡ old → old.progress ≡ None → new.progress ≡ None
none_saved old new same none = ap (λ (it : Saving). it.progress) same ∙ none

-- the same of all that is served
none_served : (old new : Serving) → new ≡ old → old.saving.progress ≡ None → new.saving.progress ≡ None
none_served old new same none = ap (λ (it : Serving). it.saving.progress) same ∙ none

-- ---- faults

-- the count rose as told
rose_of : (b a before later : ℕ) → ShowsRise b a before later → Rose before later
rose_of b a before later shows = subst (λ (both : ℕ × ℕ). Rose both.0 both.1) (λ i. (shows.0 i, shows.1 i)) shows.2

-- an engine that is asked is not halted
not_halted : (o : Option Halt) (halt : Halt) → o ≡ None → o ≡ Some halt → ⊥
not_halted o halt none is = cc (none, is)

-- what is served is the same, counts and all
served_same : (old new : Serving) → new ≡ old → KeepsCounts old new
served_same old new same = record {
  journal = ap (λ (it : Serving). it.journal) same;
  course = ap (λ (it : Serving). it.course) same;
  events = ap (λ (it : Serving). it.events) same;
  steps = ap (λ (it : Serving). it.steps) same;
}

module _ {D : Type 0} {F : Type 0} {g : Ghosts D} (old new : YoungEngine D F g) where
  -- nothing changed at all
  whole_counts : (count : ℕ) → WasHalted old new count → KeepsCounts (serving old) (serving new)
  whole_counts count was = served_same (serving old) (serving new)
      (ap (λ (it : YoungEngine D F g). serving it) was.whole)

  disk_counts : (before after : ℕ) → HaltsForDisk old new before after → KeepsCounts (serving old) (serving new)
  disk_counts before after halts = record {
    journal = halts.nothing.journal;
    course = halts.nothing.course;
    events =
        halts.nothing.events;
    steps = halts.nothing.steps;
  }

  -- no call of the disk has failed, whichever call halted it
  runs_on : halt_in new ≡ None → (serving new).stopped ≡ None
  runs_on none = ap stopped_by none

  memory_stands : HaltsForMemory old new → (serving new).stopped ≡ None
  memory_stands halts = ap stopped_by halts.halts

  disk_stops : (before after : ℕ) → HaltsForDisk old new before after
      → (serving new).stopped ≡ Some (g.count (disk_in new))
  disk_stops before after halts = ap stopped_by halts.halts

  -- ---- a command

  module _ (client : ℕ) (cmd : Cmd) where
    pub adds_entry : (result : Result Reply EngineFault) → AnswersYoungClient client cmd old new result
        → OnOk result (Adds client cmd (serving old) (serving new))
    adds_entry (Ok reply) call = record {
      entry = record { client = client; cmd = cmd; reply = reply };
      journal = call.serves.appends.journal;
      client_is = refl;
      cmd_is = refl;
      short = call.shown;
      course = call.serves.appends.course;
      events = call.serves.appends.events;
      steps = call.serves.appends.steps;
    }
    adds_entry (Err fault) call = tt

    pub client_stays : (result : Result Reply EngineFault) → AnswersYoungClient client cmd old new result
        → OnErr result (KeepsCounts (serving old) (serving new))
    client_stays (Ok reply) call = tt
    client_stays (Err (NoRoom _)) call = let nothing = call.fails.nothing in record
        { journal = nothing.journal; course = nothing.course; events = nothing.events; steps = nothing.steps }
    client_stays (Err (Disk b a)) call = disk_counts b a call.fails.halts
    client_stays (Err (Reopen count)) call = whole_counts count call.fails

    pub client_short : (result : Result Reply EngineFault) → AnswersYoungClient client cmd old new result → 0 < room old
        → IsShort cmd (serving old) (serving new) (stop_after result)
    client_short (Ok reply) call within = tt
    client_short (Err (NoRoom _)) call within = (
      call.fails.nothing.events,
      λ settles. ⊎_elim (λ both. both.1)
          (λ none. absurd (omega (arith, none, within))) (call.short settles),
    )
    client_short (Err (Disk b a)) call within = tt
    client_short (Err (Reopen count)) call within = tt

  -- ---- an event of the collector

  module _ (calls : Shared F (Bor (List ℕ) × Unit {0}) ℕ) where
    pub collect_stays : (result : Result Step EngineFault) → AnswersYoungCollect calls old new result
        → OnErr result (KeepsCounts (serving old) (serving new))
    collect_stays (Ok step) call = tt
    collect_stays (Err (NoRoom _)) call = served_same (serving old) (serving new) call.memory
    collect_stays (Err (Disk b a)) call = absurd call.still.none
    collect_stays (Err (Reopen count)) call = whole_counts count call.fails

    pub collect_journal : (result : Result Step EngineFault) → AnswersYoungCollect calls old new result
        → (serving new).journal ≡ (serving old).journal
    collect_journal (Ok step) call = call.collects.journal
    collect_journal (Err fault) call = (collect_stays (Err fault) call).journal

    pub collect_course : (result : Result Step EngineFault) → AnswersYoungCollect calls old new result
        → (serving new).course ≡ (serving old).course
    collect_course (Ok step) call = call.collects.course
    collect_course (Err fault) call = (collect_stays (Err fault) call).course

    pub collect_answers : (result : Result Step EngineFault) → AnswersYoungCollect calls old new result
        → AnswersPart [] 1 1 (serving old) (serving new) (stop_after result)
    collect_answers (Ok step) call = answers_event 1 (serving old) (serving new) call.collects.journal
        call.collects.events (λ within. call.collects.steps)
    collect_answers (Err fault) call = answers_nothing [] 1 1 (serving old) (serving new) _
        (collect_journal (Err fault) call)

  -- ---- an event that writes a page

  pub flush_stays : (result : Result Flushed EngineFault) → AnswersYoungFlush old new result
      → OnErr result (KeepsCounts (serving old) (serving new))
  flush_stays (Ok answer) call = tt
  flush_stays (Err (NoRoom _)) call = served_same (serving old) (serving new) call.memory.serving
  flush_stays (Err (Disk b a)) call = disk_counts b a call.fails
  flush_stays (Err (Reopen count)) call = whole_counts count call.fails

  pub flush_journal : (result : Result Flushed EngineFault) → AnswersYoungFlush old new result
      → (serving new).journal ≡ (serving old).journal
  flush_journal (Ok answer) call = call.flushes.journal
  flush_journal (Err fault) call = (flush_stays (Err fault) call).journal

  pub flush_course : (result : Result Flushed EngineFault) → AnswersYoungFlush old new result
      → (serving new).course ≡ (serving old).course
  flush_course (Ok answer) call = call.flushes.course
  flush_course (Err fault) call = (flush_stays (Err fault) call).course

  pub flush_answers : (result : Result Flushed EngineFault) → AnswersYoungFlush old new result
      → AnswersPart [] 1 0 (serving old) (serving new) (stop_after result)
  flush_answers (Ok answer) call = answers_event 0 (serving old) (serving new) call.flushes.journal call.flushes.events
      (λ within. call.flushes.steps ∙ still_counted (serving old).steps greatest_count within)
  flush_answers (Err fault) call = answers_nothing [] 1 0 (serving old) (serving new) _ (flush_journal (Err fault) call)

  -- ---- a sweep

  pub sweep_stays : (result : Result (Unit {0}) EngineFault) → Sweeps old new result
      → OnErr result (KeepsCounts (serving old) (serving new))
  sweep_stays (Ok done) call = tt
  sweep_stays (Err (NoRoom _)) call = let answers = call.fails.answers in record
      { journal = answers.journal; course = answers.course; events = call.fails.events; steps = answers.steps }
  sweep_stays (Err (Disk b a)) call = absurd call.fails
  sweep_stays (Err (Reopen count)) call = whole_counts count call.fails

  pub sweep_journal : (result : Result (Unit {0}) EngineFault) → Sweeps old new result
      → (serving new).journal ≡ (serving old).journal
  sweep_journal (Ok done) call = call.ok.answers.journal
  sweep_journal (Err fault) call = (sweep_stays (Err fault) call).journal

  pub sweep_course : (result : Result (Unit {0}) EngineFault) → Sweeps old new result
      → (serving new).course ≡ (serving old).course
  sweep_course (Ok done) call = call.ok.answers.course
  sweep_course (Err fault) call = (sweep_stays (Err fault) call).course

  pub sweep_answers : (result : Result (Unit {0}) EngineFault) → Sweeps old new result
      → AnswersPart [] 1 0 (serving old) (serving new) (stop_after result)
  sweep_answers (Ok done) call = answers_event 0 (serving old) (serving new) call.ok.answers.journal call.ok.events
      (λ within. call.ok.answers.steps ∙ still_counted (serving old).steps greatest_count within)
  sweep_answers (Err fault) call = answers_nothing [] 1 0 (serving old) (serving new) _ (sweep_journal (Err fault) call)

  -- ---- engine and disk

  -- what every image at the end was since the beginning
  abbrev Counts : Type 0
  Counts = (left : List ℕ) → g.image (disk_in new) left → g.moment (disk_in old) ≤ g.moment (disk_in new)
      → g.since (disk_in new) (g.moment (disk_in old)) left

  -- what stands before: the last acknowledged copy
  abbrev Settled : Type 0
  Settled = (serving old).stopped ≡ None → IsTold (g.contents (opened_disk old)) → (left : List ℕ)
      → g.image (disk_in old) left → IsSettledCopy (world (serving old)) left

  abbrev OnlyNow : Type 0
  OnlyNow = (left : List ℕ) → g.since (disk_in old) (g.moment (disk_in old)) left → g.image (disk_in old) left

  module _ (start : KeepsStart old new) (legal : IsLegal (opening (serving old)) (serving old).journal)
      (running : halt_in old ≡ None) where
    stands : (serving old).stopped ≡ None
    stands = ap stopped_by running

    halted_never : (count : ℕ) → WasHalted old new count → ⊥
    halted_never count was = not_halted (halt_in old) was.halt running was.was

    pub client_goes : Counts → (client : ℕ) (cmd : Cmd) (result : Result Reply EngineFault)
        → AnswersYoungClient client cmd old new result → YoungGoesOnRun old new (stop_after result)
    client_goes counts client cmd (Ok reply) call = record {
      start = start;
      face = answered (face old) (face new) start.opening start.disk legal call.past call.idle client cmd reply
          call.serves stands call.running.count call.leaves call.room;
      runs = λ _. call.runs;
    }
    client_goes counts client cmd (Err (NoRoom r)) call =
        let nothing = call.fails.nothing in
        record {
          start = start;
          face =
              no_room (face old) (face new) start.opening start.disk legal call.past call.idle nothing.journal
              (none_begun (serving old).saving.progress (serving new).saving.progress nothing.progress) call.room
              (memory_stands call.fails.halts)
              call.fails.halts.count
              (λ told. weaker g.moment g.since (disk_in old) (disk_in new) (MayStand cmd (serving old) (Err (NoRoom r)))
              (IsSettledCopy (world (serving old))) (call.leaves stands told)
              (λ left may. ⊎_elim (λ settled. settled) (λ begun. absurd begun.1) may));
          runs = λ done. absurd done;
        }
    client_goes counts client cmd (Err (Disk b a)) call =
        let halts = call.fails.halts in
        record {
          start = start;
          face =
              device (face old) (face new) start.opening start.disk legal call.past call.idle halts.nothing.journal
              (none_begun (serving old).saving.progress (serving new).saving.progress halts.nothing.progress)
              call.room
              (g.count (disk_in new)) (disk_stops b a halts) (rose_of b a (g.count (disk_in old))
              (g.count (disk_in new)) halts.rose) counts
              (λ told. weaker g.moment g.since (disk_in old) (disk_in new) (MayStand cmd (serving old) (Err (Disk b a)))
              (MayStandThen (world (serving old))) (call.leaves stands told)
              (λ left may. ⊎_elim (λ settled. inl settled) (λ begun. inr begun.2) may));
          runs = λ done. absurd done;
        }
    client_goes counts client cmd (Err (Reopen count)) call = absurd (halted_never count call.fails)

    pub collect_goes : Settled → OnlyNow → (calls : Shared F (Bor (List ℕ) × Unit {0}) ℕ)
        (result : Result Step EngineFault) → AnswersYoungCollect calls old new result
        → YoungGoesOnRun old new (stop_after result)
    collect_goes settled now calls (Ok step) call =
        let same = call.still.disk in
        record {
          start = start;
          face =
              eventful (face old) (face new) start.opening start.disk legal (ap (λ (d : D). (g.made d).past) same)
              (λ none. same) call.collects.journal (none_saved (serving old).saving (serving new).saving
              call.collects.saving) call.room
              (runs_on call.runs) (ap g.count same) (leaves_still (face old) (face new) same (settled stands) now);
          runs = λ _. call.runs;
        }
    collect_goes settled now calls (Err (NoRoom _)) call =
        let same = call.still.disk in
        record {
          start = start;
          face =
              no_room (face old) (face new) start.opening start.disk legal (ap (λ (d : D). (g.made d).past) same)
              (λ none. same) (ap (λ (it : Serving). it.journal) call.memory)
              (none_served (serving old) (serving new) call.memory) call.room
              (memory_stands call.fails) (ap g.count same) (leaves_still (face old) (face new) same (settled stands)
              now);
          runs = λ done. absurd done;
        }
    collect_goes settled now calls (Err (Disk b a)) call = absurd call.still.none
    collect_goes settled now calls (Err (Reopen count)) call = absurd (halted_never count call.fails)

    pub flush_goes : Counts → (result : Result Flushed EngineFault) → AnswersYoungFlush old new result
        → YoungGoesOnRun old new (stop_after result)
    flush_goes counts (Ok answer) call = record {
      start = start;
      face =
          eventful (face old) (face new) start.opening start.disk legal call.past call.idle call.flushes.journal
          (none_flushed (face old) (face new) answer call.flushed) call.room
          (runs_on call.runs) call.running.count (call.leaves stands);
      runs = λ _. call.runs;
    }
    flush_goes counts (Err (NoRoom _)) call = record {
      start = start;
      face =
          no_room (face old) (face new) start.opening start.disk legal call.past call.idle
          (ap (λ (it : Serving). it.journal) call.memory.serving)
          (none_served (serving old) (serving new) call.memory.serving) call.room
          (memory_stands call.fails) call.fails.count (call.leaves stands);
      runs = λ done. absurd done;
    }
    flush_goes counts (Err (Disk b a)) call =
        let halts = call.fails in
        record {
          start = start;
          face =
              device (face old) (face new) start.opening start.disk legal call.past call.idle halts.nothing.journal
              (none_begun (serving old).saving.progress (serving new).saving.progress halts.nothing.progress)
              call.room
              (g.count (disk_in new)) (disk_stops b a halts) (rose_of b a (g.count (disk_in old))
              (g.count (disk_in new)) halts.rose) counts
              (λ told. weaker g.moment g.since (disk_in old) (disk_in new) (IsSettledCopy (world (serving old)))
              (MayStandThen (world (serving old))) (call.leaves stands told) (λ left settled. inl settled));
          runs = λ done. absurd done;
        }
    flush_goes counts (Err (Reopen count)) call = absurd (halted_never count call.fails)

    pub sweep_goes : Settled → OnlyNow → (result : Result (Unit {0}) EngineFault) → Sweeps old new result
        → YoungGoesOnRun old new (stop_after result)
    sweep_goes settled now (Ok done) call =
        let same = call.still in
        record {
          start = start;
          face =
              eventful (face old) (face new) start.opening start.disk legal (ap (λ (d : D). (g.made d).past) same)
              (λ none. same) call.ok.answers.journal (none_saved (serving old).saving (serving new).saving
              call.ok.answers.saving) call.room
              (runs_on call.ok.runs) (ap g.count same) (leaves_still (face old) (face new) same (settled stands) now);
          runs = λ _. call.ok.runs;
        }
    sweep_goes settled now (Err (NoRoom _)) call =
        let same = call.still in
        let answers = call.fails.answers in
        record {
          start = start;
          face =
              no_room (face old) (face new) start.opening start.disk legal (ap (λ (d : D). (g.made d).past) same)
              (λ none. same) answers.journal (none_saved (serving old).saving (serving new).saving answers.saving)
              call.room
              (ap stopped_by call.fails.halts) (ap g.count same)
              (leaves_still (face old) (face new) same (settled stands) now);
          runs = λ done. absurd done;
        }
    sweep_goes settled now (Err (Disk b a)) call = absurd call.fails
    sweep_goes settled now (Err (Reopen count)) call = absurd (halted_never count call.fails)
