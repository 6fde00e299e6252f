use Rattle.std.proofs.Common.{◌+◌, [], None, Some, refl, subst, sym, ◌∙◌}
use Rattle.pm_place.specs.Choosers.{IsChooser}
use Rattle.pm_script.specs.Parted.Asked.{steps_of}
use Rattle.pm_engine.proofs.EventsLemmas.Answering.{answers_as, answers_none, answers_then}
use Rattle.pm_young.specs.Seen.{disk_in, serving}
use Rattle.pm_young_run.specs.Stepping.{line_of}
use Rattle.pm_young_run.proofs.Halting.{events_cut, steps_more, steps_none}
use Rattle.pm_young_run.proofs.Lasting.{run_first, run_then}
use Rattle.pm_young_run.proofs.event.make_events.Goals as goal

pub loop-init : goal.loop-init
loop-init g c =
    let old = c.args.engine.now in
    let law = c.keep_their_images.ensures in
    record {
      answers = answers_as [] [] 0 0 0 (steps_of (line_of c.args.kind 0)) (serving old) (serving old) None refl refl
          (steps_none c.args.kind) (answers_none (serving old));
      stays = refl;
      course = refl;
      engine = run_first old c.requires.running law.legal law.settled (g.met.D.Disk.only_now (disk_in old));
      nursery = record { young = refl; entered = refl };
    }

pub make_once-requires-clause-running : goal.make_once-requires-clause-running
make_once-requires-clause-running g c = c.loop.invariant.engine.runs tt

pub make_once-requires-clause-chooser : goal.make_once-requires-clause-chooser
make_once-requires-clause-chooser g c = subst (IsChooser g.F.Fn) (sym c.loop.invariant.engine.start.chooser)
    c.requires.chooser

pub returns-in-Err-clause-stays : goal.returns-in-Err-clause-stays
returns-in-Err-clause-stays g c = c.in-Err.ensures.stays ∙ c.loop.invariant.stays

pub returns-in-Err-clause-course : goal.returns-in-Err-clause-course
returns-in-Err-clause-course g c = c.in-Err.ensures.course ∙ c.loop.invariant.course

pub returns-in-Err-clause-stops : goal.returns-in-Err-clause-stops
returns-in-Err-clause-stops g c =
    events_cut c.args.kind c.args.count c.loop.counter (serving c.args.engine.now) (serving c.loop.engine)
    (serving c.make_once.new.engine) c.in-Err.stop c.in-Err.ensures.unwritten
    (c.in-Err.ensures.stays ∙ c.loop.invariant.stays)
    c.loop-test.true c.loop.invariant.answers c.in-Err.ensures.counts

pub returns-in-Err-clause-engine : goal.returns-in-Err-clause-engine
returns-in-Err-clause-engine g c = run_then c.args.engine.now c.loop.engine c.make_once.new.engine (Some c.in-Err.stop)
    c.loop.invariant.engine c.in-Err.ensures.engine

pub returns-in-Err-clause-nursery : goal.returns-in-Err-clause-nursery
returns-in-Err-clause-nursery g c =
    let was = c.loop.invariant.nursery in
    let step = c.in-Err.ensures.nursery in
    record { young = step.young ∙ was.young; entered = step.entered ∙ was.entered }

pub loop-preserved : goal.loop-preserved
loop-preserved g c =
    let old = c.args.engine.now in
    let kind = c.args.kind in
    let n = c.loop.counter in
    let was = c.loop.invariant in
    let step = c.in-Ok.ensures in
    record {
      answers =
          answers_as [] [] (n + 1) (n + 1) (steps_of (line_of kind n) + steps_of (line_of kind 1))
          (steps_of (line_of kind (n + 1))) (serving old) (serving c.make_once.new.engine) None refl refl
          (steps_more kind n)
          (answers_then [] [] n 1 (steps_of (line_of kind n)) (steps_of (line_of kind 1)) (serving old)
          (serving c.loop.engine) (serving c.make_once.new.engine) None was.answers step.answers);
      stays = step.stays ∙ was.stays;
      course = step.course ∙ was.course;
      engine = run_then old c.loop.engine c.make_once.new.engine None was.engine step.engine;
      nursery = record {
        young = step.nursery.young ∙ was.nursery.young;
        entered = step.nursery.entered
            ∙ was.nursery.entered;
      };
    }
