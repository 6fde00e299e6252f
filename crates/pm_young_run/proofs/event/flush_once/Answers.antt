use Rattle.std.proofs.Common.{[], subst, sym}
use Rattle.pm_engine.specs.Events.Causes.{why}
use Rattle.pm_engine.specs.Events.Events.{AnswersPart, KeepsCounts}
use Rattle.pm_serial.proofs.Stopping.{stopped, unwritten}
use Rattle.pm_young.specs.Seen.{disk_in, serving}
use Rattle.pm_young_run.specs.Stepping.{YoungGoesOnRun}
use Rattle.pm_young_run.proofs.Calls.{flush_answers, flush_course, flush_goes, flush_journal, flush_stays}
use Rattle.pm_young_run.proofs.event.flush_once.Goals as goal

pub returns-clause-answers : goal.returns-clause-answers
returns-clause-answers g c =
    let old = c.args.engine.now in
    let new = c.flush.new.self in
    subst (AnswersPart [] 1 0 (serving old) (serving new)) (sym c.stop_after.ensures)
    (flush_answers old new c.flush.result c.flush.ensures.call)

pub returns-clause-stays : goal.returns-clause-stays
returns-clause-stays g c = flush_journal c.args.engine.now c.flush.new.self c.flush.result c.flush.ensures.call

pub returns-clause-course : goal.returns-clause-course
returns-clause-course g c = flush_course c.args.engine.now c.flush.new.self c.flush.result c.flush.ensures.call

pub returns-clause-counts : goal.returns-clause-counts
returns-clause-counts g c =
    let old = c.args.engine.now in
    let new = c.flush.new.self in
    stopped (KeepsCounts (serving old) (serving new)) c.flush.result c.stop_after.result c.stop_after.ensures
    (flush_stays old new c.flush.result c.flush.ensures.call)

pub returns-clause-engine : goal.returns-clause-engine
returns-clause-engine g c =
    let old = c.args.engine.now in
    let new = c.flush.new.self in
    subst (YoungGoesOnRun old new) (sym c.stop_after.ensures)
    (flush_goes old new c.flush.ensures.start c.keep_their_images.ensures.legal c.requires.running
    (λ left here later. g.met.D.Disk.counts_now (disk_in new) (g.D.Disk.moment (disk_in old)) left later here)
    c.flush.result c.flush.ensures.call)

pub returns-clause-unwritten : goal.returns-clause-unwritten
returns-clause-unwritten g c = unwritten c.flush.result (why c.stop_after.result) c.stop_after.ensures
