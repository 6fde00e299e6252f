use Rattle.std.proofs.Common.{[], subst, sym}
use Rattle.pm_engine.specs.Events.Causes.{why}
use Rattle.pm_engine.specs.Events.Events.{AnswersPart, KeepsCounts}
use Rattle.pm_serial.proofs.Stopping.{stopped, unwritten}
use Rattle.pm_young.specs.Seen.{disk_in, serving}
use Rattle.pm_young_run.specs.Stepping.{YoungGoesOnRun}
use Rattle.pm_young_run.proofs.Calls.{collect_answers, collect_course, collect_goes, collect_journal, collect_stays}
use Rattle.pm_young_run.proofs.event.collect_once.Goals as goal

pub returns-clause-answers : goal.returns-clause-answers
returns-clause-answers g c =
    let old = c.args.engine.now in
    let new = c.collect.new.self in
    subst (AnswersPart [] 1 1 (serving old) (serving new)) (sym c.stop_after.ensures)
    (collect_answers old new g.F.Fn c.collect.result c.collect.ensures.call)

pub returns-clause-stays : goal.returns-clause-stays
returns-clause-stays g c = collect_journal c.args.engine.now c.collect.new.self g.F.Fn c.collect.result
    c.collect.ensures.call

pub returns-clause-course : goal.returns-clause-course
returns-clause-course g c = collect_course c.args.engine.now c.collect.new.self g.F.Fn c.collect.result
    c.collect.ensures.call

pub returns-clause-counts : goal.returns-clause-counts
returns-clause-counts g c =
    let old = c.args.engine.now in
    let new = c.collect.new.self in
    stopped (KeepsCounts (serving old) (serving new)) c.collect.result c.stop_after.result c.stop_after.ensures
    (collect_stays old new g.F.Fn c.collect.result c.collect.ensures.call)

pub returns-clause-engine : goal.returns-clause-engine
returns-clause-engine g c =
    let old = c.args.engine.now in
    let new = c.collect.new.self in
    subst (YoungGoesOnRun old new) (sym c.stop_after.ensures)
    (collect_goes old new c.collect.ensures.start c.keep_their_images.ensures.legal c.requires.running
    c.keep_their_images.ensures.settled (g.met.D.Disk.only_now (disk_in old)) g.F.Fn c.collect.result
    c.collect.ensures.call)

pub returns-clause-unwritten : goal.returns-clause-unwritten
returns-clause-unwritten g c = unwritten c.collect.result (why c.stop_after.result) c.stop_after.ensures
