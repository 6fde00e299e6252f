use Rattle.std.proofs.Common.{◌≡◌, inl, inr, ℕ, List, ◌++◌, Some, ap, subst, sym, ◌∙◌}
use Rattle.pm_place.specs.Choosers.{IsChooser}
use Rattle.pm_types.specs.Counts.{capped}
use Rattle.pm_types.specs.Memory.{no_memory}
use Rattle.pm_model.specs.Text.{text}
use Rattle.pm_script.specs.Parted.Asked.{events_asked, requests_asked, steps_asked}
use Rattle.pm_saving.specs.Images.{IsSettledCopy, IsTold}
use Rattle.pm_saving.specs.Serving.{Before, Serving, world}
use Rattle.pm_engine.specs.declared.events.stop.Stop.TheVariants.{Memory}
use Rattle.pm_engine.specs.Events.Causes.{why}
use Rattle.pm_engine.specs.Events.Events.{AnswersPart}
use Rattle.pm_engine.specs.Events.Running.{IsFresh}
use Rattle.pm_engine.proofs.EventsLemmas.Answering.{answers_ended, answers_nothing}
use Rattle.pm_serial.specs.Ordered.{course_of}
use Rattle.pm_serial.specs.Output.Gathered.{gathered}
use Rattle.pm_serial.specs.Running.{AnswersLines}
use Rattle.pm_serial.proofs.Acknowledging.{acknowledges_none, acknowledges_run}
use Rattle.pm_serial.proofs.Answering.{answers_lines}
use Rattle.pm_serial.proofs.Cutting.{on_stop, settle_cut, short_before, stopped_among, stopped_first}
use Rattle.pm_serial.proofs.Gathering.{wrote_none, wrote_run}
use Rattle.pm_serial.proofs.Ordering.{first_told, tells_run}
use Rattle.pm_serial.proofs.OutputLemmas.Gathering.{gathered_within}
use Rattle.pm_young.specs.Seen.{disk_in, serving, young_tally_in}
use Rattle.pm_young_run.specs.Asked.{as_lines}
use Rattle.pm_young_run.specs.Entered.{EntersAll}
use Rattle.pm_young_run.specs.Writing.{young_tail_of}
use Rattle.pm_young_run.proofs.Asking.{events_same}
use Rattle.pm_young_run.proofs.Entering.{entered_from_none}
use Rattle.pm_young_run.proofs.Lasting.{on_done, run_ended, run_first, run_short, run_still, run_then, runs_on_disk, was_done}
use Rattle.pm_young_run.proofs.run.run_young_lines.Goals as goal

-- where there is no memory no event is made
pub returns-in-Err : goal.returns-in-Err
returns-in-Err g c =
    let lines = as_lines c.args.lines.items in
    let old = c.args.engine.now in
    let new = c.take_room.new.engine in
    let was = serving old in
    let now = serving new in
    let fresh = c.requires.fresh in
    let law = c.keep_their_images.ensures in
    let room = c.take_room.ensures in
    let empty = ap (λ (it : Serving). it.journal) room.serving ∙ fresh.serves.journal in
    let still = run_still old new room.start room.grows room.serving room.disk room.young.halt
    (run_first old fresh.young.halt law.legal law.settled (g.met.D.Disk.only_now (disk_in old))) in
    record {
      answers =
          answers_lines lines was now (Some (Memory no_memory)) fresh.serves
          (answers_nothing (requests_asked lines) (events_asked lines) (steps_asked lines) was now (Memory no_memory)
          (ap (λ (it : Serving). it.journal) room.serving))
          (λ few. (
            course_of 0 0 lines,
            ap (λ (course : List Before). course ++ course_of 0 0 lines)
                (ap (λ (it : Serving). it.course) room.serving ∙ fresh.serves.course),
          ))
          (λ done. absurd done)
          (λ few. stopped_first lines now (subst IsFresh (sym room.serving) fresh.serves))
          (λ is done more client parted made few. inl (ap (λ (it : Serving). it.events) room.serving
          ∙ fresh.serves.events));
      events = λ done. absurd done;
      disk =
          runs_on_disk old new (Some (Memory no_memory)) fresh.serves (run_short old new still)
          (λ none told left here.
          subst (λ (it : Serving). IsSettledCopy (world it) left) (sym room.serving)
          (law.settled fresh.serves.stopped (subst (λ (d : g.row.D.Denot). IsTold (g.D.Disk.contents d)) room.start.disk
          told) left (subst (λ (d : g.row.D.Denot). g.D.Disk.image d left) room.disk here)));
      start = room.start;
      entered = λ done. absurd done;
      sink = wrote_none g.K.Sink.written g.K.Sink.finished g.K.Sink.count c.args.sink.now now.journal
          (young_tail_of (young_tally_in new)) (ap text empty);
      saved = acknowledges_none g.K.Sink c.args.sink.now now.journal (Some (Memory no_memory)) empty;
    }

pub run_all-ran-requires-clause-running : goal.run_all-ran-requires-clause-running
run_all-ran-requires-clause-running g c = c.take_room.ensures.young.halt ∙ c.requires.fresh.young.halt

pub run_all-ran-requires-clause-chooser : goal.run_all-ran-requires-clause-chooser
run_all-ran-requires-clause-chooser g c = subst (IsChooser g.F.Fn) (sym c.take_room.ensures.start.chooser)
    c.requires.chooser

pub returns : goal.returns
returns g c =
    let lines = as_lines c.args.lines.items in
    let old = c.args.engine.now in
    let ready = c.take_room.new.engine in
    let new = c.run_all-ran.new.engine in
    let was = serving old in
    let began = serving ready in
    let now = serving new in
    let before = why c.run_all-ran.result in
    let after = why c.end.result in
    let first = c.requires.fresh in
    let law = c.keep_their_images.ensures in
    let room = c.take_room.ensures in
    let ran = c.run_all-ran.ensures in
    let same : began ≡ was = room.serving in
    let empty = ap (λ (it : Serving). it.journal) same ∙ first.serves.journal in
    let part = subst (λ (it : Serving). AnswersPart (requests_asked lines) (events_asked lines) (steps_asked lines) it
    now before) same ran.answers in
    let fresh : IsFresh began = subst IsFresh (sym same) first.serves in
    let tells = tells_run lines began now before after fresh c.end.ensures.why ran.course in
    let still = run_still old ready room.start room.grows room.serving room.disk room.young.halt
    (run_first old first.young.halt law.legal law.settled (g.met.D.Disk.only_now (disk_in old))) in
    let goes = run_then old ready new before still ran.engine in
    let tail = young_tail_of (young_tally_in new) in
    let wrote =
    wrote_run g.K.Sink.written g.K.Sink.finished g.K.Sink.count c.args.sink.now c.run_all-ran.new.sink c.end.new.sink
    (gathered c.in-Ok.output) (gathered c.run_all-ran.new.output) tail began.journal now.journal
    before after c.in-Ok.ensures.empty (ap text empty) ran.sink c.end.ensures in
    let answers : AnswersLines lines now after =
    answers_lines lines was now after first.serves
    (answers_ended (requests_asked lines) (events_asked lines) (steps_asked lines) was now before after
    c.end.ensures.why part)
    (λ few. first_told lines began now after fresh (tells few))
    (λ done few. (tells few).all done ∙ ap (λ (course : List Before). course ++ course_of 0 0 lines) fresh.course)
    (on_stop after (λ few. stopped_among lines began now fresh few before after c.end.ensures.why ran.answers
    ran.stops))
    (λ is done more client parted made few.
    let none : began.events ≡ 0 = ap (λ (it : Serving). it.events) same ∙ first.serves.events in
    inr (settle_cut lines began now before none ran.stops (short_before before after c.end.ensures.why is) done more
    client parted made few)) in
    record {
      answers = answers;
      events = λ done. answers.order.events done ∙ ap (λ (n : ℕ). capped n) (events_same c.args.lines.items);
      disk = runs_on_disk old new after first.serves (run_ended old new before after c.end.ensures.why goes)
          c.keep_their_images-2.ensures.settled;
      start = goes.start;
      entered = λ done.
          entered_from_none c.args.lines.items old ready new first.young first.serves.journal same room.young.young
          room.young.entered
          (on_done (EntersAll c.args.lines.items ready new) c.run_all-ran.result
          (was_done before after c.end.ensures.why done) ran.enters);
      sink = wrote;
      saved =
          acknowledges_run g.K.Sink c.args.sink.now c.run_all-ran.new.sink c.end.new.sink (gathered c.in-Ok.output)
          (gathered c.run_all-ran.new.output) tail began.journal now.journal before after
          c.in-Ok.ensures.empty empty ran.saved c.end.ensures wrote ran.sink (gathered_within c.run_all-ran.new.output);
    }
