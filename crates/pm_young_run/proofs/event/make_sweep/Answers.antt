use Rattle.std.proofs.Common.{[], subst, sym}
use Rattle.pm_script.specs.declared.line.YoungLine.TheVariants.{Young}
use Rattle.pm_engine.specs.Events.Causes.{why}
use Rattle.pm_engine.specs.Events.Events.{AnswersPart, KeepsCounts}
use Rattle.pm_serial.proofs.Stopping.{stopped, unwritten, went_on}
use Rattle.pm_young.specs.Seen.{disk_in, serving}
use Rattle.pm_young_run.specs.Entered.{Enters}
use Rattle.pm_young_run.specs.Stepping.{YoungGoesOnRun}
use Rattle.pm_young_run.proofs.Calls.{sweep_answers, sweep_course, sweep_goes, sweep_journal, sweep_stays}
use Rattle.pm_young_run.proofs.Entering.{sweep_enters}
use Rattle.pm_young_run.proofs.Halting.{sweep_stops}
use Rattle.pm_young_run.proofs.event.make_sweep.Goals as goal

pub returns-clause-answers : goal.returns-clause-answers
returns-clause-answers g c =
    let old = c.args.engine.now in
    let new = c.sweep.new.self in
    subst (AnswersPart [] 1 0 (serving old) (serving new)) (sym c.stop_after.ensures)
    (sweep_answers old new c.sweep.result c.sweep.ensures.call)

pub returns-clause-stays : goal.returns-clause-stays
returns-clause-stays g c = sweep_journal c.args.engine.now c.sweep.new.self c.sweep.result c.sweep.ensures.call

pub returns-clause-course : goal.returns-clause-course
returns-clause-course g c = sweep_course c.args.engine.now c.sweep.new.self c.sweep.result c.sweep.ensures.call

pub returns-clause-stops : goal.returns-clause-stops
returns-clause-stops g c =
    let old = c.args.engine.now in
    let new = c.sweep.new.self in
    sweep_stops (serving old) (serving new) c.stop_after.result
    (unwritten c.sweep.result (why c.stop_after.result) c.stop_after.ensures)
    (sweep_journal old new c.sweep.result c.sweep.ensures.call)
    (stopped (KeepsCounts (serving old) (serving new)) c.sweep.result c.stop_after.result c.stop_after.ensures
    (sweep_stays old new c.sweep.result c.sweep.ensures.call))

pub returns-clause-engine : goal.returns-clause-engine
returns-clause-engine g c =
    let old = c.args.engine.now in
    let new = c.sweep.new.self in
    subst (YoungGoesOnRun old new) (sym c.stop_after.ensures)
    (sweep_goes old new c.sweep.ensures.start c.keep_their_images.ensures.legal c.requires.running
    c.keep_their_images.ensures.settled (g.met.D.Disk.only_now (disk_in old)) c.sweep.result c.sweep.ensures.call)

pub returns-clause-enters : goal.returns-clause-enters
returns-clause-enters g c =
    let old = c.args.engine.now in
    let new = c.sweep.new.self in
    went_on (Enters Young old new) c.sweep.result c.stop_after.result c.stop_after.ensures
    (sweep_enters old new c.sweep.result c.sweep.ensures.call)

pub returns-clause-unwritten : goal.returns-clause-unwritten
returns-clause-unwritten g c = unwritten c.sweep.result (why c.stop_after.result) c.stop_after.ensures
