use Rattle.std.proofs.Common.{◌+◌, [], None, Some, refl, subst, sym, ◌∙◌}
use Rattle.pm_place.specs.Choosers.{IsChooser}
use Rattle.pm_engine.specs.Shown.{disk_in, serving}
use Rattle.pm_serial.specs.Stepping.{steps_made}
use Rattle.pm_engine.proofs.EventsLemmas.Answering.{answers_as, answers_none, answers_then}
use Rattle.pm_serial.proofs.Answering.{steps_more, steps_none}
use Rattle.pm_serial.proofs.Cutting.{is_cut}
use Rattle.pm_engine.proofs.EventsLemmas.Going.{goes_first, goes_then}
use Rattle.pm_serial.proofs.event.make_events.Goals as goal

pub loop-init : goal.loop-init
loop-init g c =
    let old = c.args.engine.now in
    let law = c.keep_their_images.ensures in
    record {
      answers = answers_as [] [] 0 0 0 (steps_made c.args.kind 0) (serving old) (serving old) None refl refl (steps_none c.args.kind) (answers_none (serving old));
      stays = refl;
      course = refl;
      engine = goes_first old c.requires.running law.legal (law.settled c.requires.running) (g.met.D.Disk.only_now (disk_in old));
    }

pub make_once-requires-clause-chooser : goal.make_once-requires-clause-chooser
make_once-requires-clause-chooser g c = subst (IsChooser g.F.Fn) (sym c.loop.invariant.engine.start.chooser) c.requires.chooser

pub returns-in-Err-clause-cut : goal.returns-in-Err-clause-cut
returns-in-Err-clause-cut g c =
    is_cut c.args.kind c.args.count c.loop.counter (serving c.args.engine.now) (serving c.loop.engine) (serving c.make_once.new.engine) c.loop-test.true c.loop.invariant.answers c.in-Err.ensures.counts

pub returns-in-Err-clause-engine : goal.returns-in-Err-clause-engine
returns-in-Err-clause-engine g c = goes_then c.args.engine.now c.loop.engine c.make_once.new.engine (Some c.in-Err.stop) c.loop.invariant.engine c.in-Err.ensures.engine

pub loop-preserved : goal.loop-preserved
loop-preserved g c =
    let old = c.args.engine.now in
    let kind = c.args.kind in
    let n = c.loop.counter in
    let step = c.in-Ok.ensures in
    record {
      answers =
          answers_as [] [] (n + 1) (n + 1) (steps_made kind n + steps_made kind 1) (steps_made kind (n + 1)) (serving old) (serving c.make_once.new.engine) None refl refl (steps_more kind n)
          (answers_then [] [] n 1 (steps_made kind n) (steps_made kind 1) (serving old) (serving c.loop.engine) (serving c.make_once.new.engine) None c.loop.invariant.answers step.answers);
      stays = step.stays ∙ c.loop.invariant.stays;
      course = step.course ∙ c.loop.invariant.course;
      engine = goes_then old c.loop.engine c.make_once.new.engine None c.loop.invariant.engine step.engine;
    }
