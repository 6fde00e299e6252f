use Rattle.std.proofs.Common.{◌≡◌, inl, inr, List, ◌++◌, Some, ap, subst, sym, ◌∙◌}
use Rattle.pm_place.specs.Choosers.{IsChooser}
use Rattle.pm_model.specs.Text.{text}
use Rattle.pm_saving.specs.Serving.{Before, Serving, world}
use Rattle.pm_engine.specs.Events.Running.{IsFresh}
use Rattle.pm_serial.specs.Ordered.{course_of}
use Rattle.pm_saving.specs.Images.{IsSettledCopy, IsTold}
use Rattle.pm_engine.specs.Shown.{disk_in, serving, tally_in}
use Rattle.pm_serial.specs.Output.Gathered.{gathered}
use Rattle.pm_engine.specs.declared.events.stop.Stop.TheVariants.{Memory}
use Rattle.pm_script.specs.Parted.Asked.{events_asked, requests_asked, steps_asked}
use Rattle.pm_engine.specs.Events.Causes.{why}
use Rattle.pm_engine.specs.Events.Events.{AnswersPart}
use Rattle.pm_serial.specs.Writing.{text_behind}
use Rattle.pm_engine.proofs.EventsLemmas.Answering.{answers_ended, answers_nothing}
use Rattle.pm_serial.proofs.Answering.{answers_lines}
use Rattle.pm_serial.proofs.Acknowledging.{acknowledges_none, acknowledges_run}
use Rattle.pm_serial.proofs.Cutting.{on_stop, settle_cut, short_before, stopped_among, stopped_first}
use Rattle.pm_serial.proofs.Ordering.{first_told, tells_run}
use Rattle.pm_serial.proofs.Gathering.{wrote_none, wrote_run}
use Rattle.pm_serial.proofs.OutputLemmas.Gathering.{gathered_within}
use Rattle.pm_engine.proofs.EventsLemmas.Going.{goes_ended, goes_short, goes_still, goes_then, runs}
use Rattle.pm_serial.proofs.run.run_with.Goals as goal
use Rattle.pm_types.specs.Memory.{no_memory}

-- where there is no memory no event is made
pub returns-in-Err : goal.returns-in-Err
returns-in-Err g c =
    let lines = c.args.lines.items in
    let old = c.args.engine.now in
    let new = c.take_room.new.engine in
    let was = serving old in
    let now = serving new in
    let law = c.keep_their_images.ensures in
    let room = c.take_room.ensures in
    let empty = ap (λ (it : Serving). it.journal) room.serving ∙ c.requires.fresh.journal in
    let still = goes_still old new room.start room.entries.past room.grows room.serving room.disk c.requires.fresh.stopped law.legal (law.settled c.requires.fresh.stopped) (g.met.D.Disk.only_now (disk_in old)) in
    record {
      answers =
          answers_lines lines was now (Some (Memory no_memory)) c.requires.fresh
          (answers_nothing (requests_asked lines) (events_asked lines) (steps_asked lines) was now (Memory no_memory) (ap (λ (it : Serving). it.journal) room.serving))
          (λ few. (course_of 0 0 lines, ap (λ (course : List Before). course ++ course_of 0 0 lines) (ap (λ (it : Serving). it.course) room.serving ∙ c.requires.fresh.course)))
          (λ done. absurd done)
          (λ few. stopped_first lines now (subst IsFresh (sym room.serving) c.requires.fresh))
          (λ is done more client parted made few. inl (ap (λ (it : Serving). it.events) room.serving ∙ c.requires.fresh.events));
      disk =
          runs old new (Some (Memory no_memory)) c.requires.fresh (goes_short old new still)
          (λ none told left here.
          subst (λ (it : Serving). IsSettledCopy (world it) left) (sym room.serving)
          (law.settled c.requires.fresh.stopped (subst (λ (d : g.row.D.Denot). IsTold (g.D.Disk.contents d)) room.start.disk told) left (subst (λ (d : g.row.D.Denot). g.D.Disk.image d left) room.disk here)));
      start = room.start;
      entries = room.entries.past;
      wrote = record {
        sink = wrote_none g.K.Sink.written g.K.Sink.finished g.K.Sink.count c.args.sink.now now.journal (text_behind c.args.behind (tally_in now)) (ap text empty);
        saved = acknowledges_none g.K.Sink c.args.sink.now now.journal (Some (Memory no_memory)) empty;
      };
    }

pub run_all-ran-requires-clause-chooser : goal.run_all-ran-requires-clause-chooser
run_all-ran-requires-clause-chooser g c = subst (IsChooser g.F.Fn) (sym c.take_room.ensures.start.chooser) c.requires.chooser

pub returns : goal.returns
returns g c =
    let lines = c.args.lines.items in
    let old = c.args.engine.now in
    let ready = c.take_room.new.engine in
    let new = c.run_all-ran.new.engine in
    let was = serving old in
    let began = serving ready in
    let now = serving new in
    let before = why c.run_all-ran.result in
    let after = why c.end.result in
    let law = c.keep_their_images.ensures in
    let room = c.take_room.ensures in
    let ran = c.run_all-ran.ensures in
    let same : began ≡ was = room.serving in
    let empty = ap (λ (it : Serving). it.journal) same ∙ c.requires.fresh.journal in
    let part = subst (λ (it : Serving). AnswersPart (requests_asked lines) (events_asked lines) (steps_asked lines) it now before) same ran.answers in
    let fresh : IsFresh began = subst IsFresh (sym same) c.requires.fresh in
    let tells = tells_run lines began now before after fresh c.end.ensures.why ran.course in
    let still = goes_still old ready room.start room.entries.past room.grows room.serving room.disk c.requires.fresh.stopped law.legal (law.settled c.requires.fresh.stopped) (g.met.D.Disk.only_now (disk_in old)) in
    let goes = goes_then old ready new before still ran.engine in
    let tail = text_behind c.args.behind (tally_in now) in
    let wrote =
    wrote_run g.K.Sink.written g.K.Sink.finished g.K.Sink.count c.args.sink.now c.run_all-ran.new.sink c.end.new.sink (gathered c.in-Ok.output) (gathered c.run_all-ran.new.output) tail began.journal now.journal
    before after c.in-Ok.ensures.empty (ap text empty) ran.sink c.end.ensures in
    record {
      answers =
          answers_lines lines was now after c.requires.fresh
          (answers_ended (requests_asked lines) (events_asked lines) (steps_asked lines) was now before after c.end.ensures.why part)
          (λ few. first_told lines began now after fresh (tells few))
          (λ done few. (tells few).all done ∙ ap (λ (course : List Before). course ++ course_of 0 0 lines) fresh.course)
          (on_stop after (λ few. stopped_among lines began now fresh few before after c.end.ensures.why ran.answers ran.stops))
          (λ is done more client parted made few.
          let first : began.events ≡ 0 = ap (λ (it : Serving). it.events) same ∙ c.requires.fresh.events in
          inr (settle_cut lines began now before first ran.stops (short_before before after c.end.ensures.why is) done more client parted made few));
      disk = runs old new after c.requires.fresh (goes_ended old new before after c.end.ensures.why goes) c.keep_their_images-2.ensures.settled;
      start = goes.start;
      entries = goes.entries;
      wrote = record {
        sink = wrote;
        saved =
            acknowledges_run g.K.Sink c.args.sink.now c.run_all-ran.new.sink c.end.new.sink (gathered c.in-Ok.output) (gathered c.run_all-ran.new.output) tail began.journal now.journal before after
            c.in-Ok.ensures.empty empty ran.saved c.end.ensures wrote ran.sink (gathered_within c.run_all-ran.new.output);
      };
    }
