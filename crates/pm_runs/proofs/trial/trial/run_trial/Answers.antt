use Rattle.std.proofs.Common.{List, ◌++◌, Some, inl, refl, ap}
use Rattle.pm_model.specs.Text.{text}
use Rattle.pm_engine.specs.Shown.{disk_in, serving, tally_in}
use Rattle.pm_engine.specs.declared.events.stop.Stop.TheVariants.{Memory}
use Rattle.pm_script.specs.Parted.Asked.{events_asked, requests_asked, steps_asked}
use Rattle.pm_serial.specs.Writing.{tail_of}
use Rattle.pm_saving.specs.Serving.{Before}
use Rattle.pm_serial.specs.Ordered.{course_of}
use Rattle.pm_serial.proofs.Answering.{answers_lines}
use Rattle.pm_serial.proofs.Cutting.{answers_unwritten, stopped_first}
use Rattle.pm_engine.proofs.EventsLemmas.Answering.{answers_nothing}
use Rattle.pm_engine.proofs.EventsLemmas.Going.{goes_first, goes_short, runs}
use Rattle.pm_runs.specs.Trial.Digested.{DigestState}
use Rattle.pm_runs.specs.Trial.Trials.{shown_digest}
use Rattle.pm_runs.proofs.TrialLemmas.Trying.{digest_is, disk_unwritten, tried_badly, tried_none, tried_well}
use Rattle.pm_runs.proofs.trial.trial.run_trial.Goals as goal
use Rattle.pm_types.specs.Memory.{no_memory}

-- where there is no memory no event is made
pub returns-in-Err-clause-runs : goal.returns-in-Err-clause-runs
returns-in-Err-clause-runs g c =
    let lines = c.args.lines.items in
    let engine = c.args.engine.now in
    let old = serving engine in
    let law = c.keep_their_images.ensures in
    let none = c.requires.fresh.stopped in
    let first = goes_first engine none law.legal (law.settled none) (g.met.D.Disk.only_now (disk_in engine)) in
    record {
      answers =
          answers_lines lines old old (Some (Memory no_memory)) c.requires.fresh (answers_nothing (requests_asked lines) (events_asked lines) (steps_asked lines) old old (Memory no_memory) refl)
          (λ few. (course_of 0 0 lines, ap (λ (course : List Before). course ++ course_of 0 0 lines) c.requires.fresh.course)) (λ done. absurd done) (λ few. stopped_first lines old c.requires.fresh) (λ is done more client parted made few. inl c.requires.fresh.events);
      disk = runs engine engine (Some (Memory no_memory)) c.requires.fresh (goes_short engine engine first) law.settled;
      start = first.start;
      entries = refl;
      wrote = tried_none g.K.Sink.written g.K.Sink.finished g.K.Sink.count c.args.sink.now (text old.journal) (tail_of (tally_in old)) (Memory no_memory) tt;
    }

pub returns-in-Ok-finish_trial-clause-runs : goal.returns-in-Ok-finish_trial-clause-runs
returns-in-Ok-finish_trial-clause-runs g c =
    let new = serving c.answer_lines.new.engine in
    let ran = c.in-Ok-answer_lines.ensures in
    let step = c.in-Ok-finish_trial.ensures in
    let is = digest_is c.new-replies.result c.answer_lines.new.sink (text new.journal) c.digest.result (ap (λ (s : DigestState). s.written) c.new-replies.ensures) (ran.wrote.sink.all tt) c.digest.ensures in
    record {
      answers = ran.answers;
      disk = ran.disk;
      start = ran.start;
      entries = ran.entries;
      wrote = tried_well g.K.Sink.written g.K.Sink.finished g.K.Sink.count c.args.sink.now c.finish_trial.new.sink (text new.journal) (tail_of (tally_in new)) (shown_digest c.digest.result) (ap shown_digest is) step.all step.finished step.counted;
    }

-- the sink failed
pub returns-in-Ok-answer_lines-clause-runs : goal.returns-in-Ok-answer_lines-clause-runs
returns-in-Ok-answer_lines-clause-runs g c =
    let new = serving c.answer_lines.new.engine in
    let ran = c.in-Ok-answer_lines.ensures in
    let step = c.in-Err-finish_trial.ensures in
    let is = digest_is c.new-replies.result c.answer_lines.new.sink (text new.journal) c.digest.result (ap (λ (s : DigestState). s.written) c.new-replies.ensures) (ran.wrote.sink.all tt) c.digest.ensures in
    record {
      answers = answers_unwritten c.args.lines.items new ran.answers;
      disk = disk_unwritten c.args.engine.now c.answer_lines.new.engine ran.disk;
      start = ran.start;
      entries = ran.entries;
      wrote = tried_badly g.K.Sink.written g.K.Sink.finished g.K.Sink.count c.args.sink.now c.finish_trial.new.sink (text new.journal) (tail_of (tally_in new)) (shown_digest c.digest.result) (ap shown_digest is) step.part step.cause;
    }

pub returns-in-Ok-answer_lines-clause-last : goal.returns-in-Ok-answer_lines-clause-last
returns-in-Ok-answer_lines-clause-last g c = λ of. c.in-Ok-answer_lines.ensures.answers
