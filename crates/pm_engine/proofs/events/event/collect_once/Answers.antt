use Rattle.pm_engine.specs.Shown.{disk_in}
use Rattle.pm_engine.proofs.EventsLemmas.Made.{collect_answers, collect_course, collect_goes, collect_journal, collect_stays}
use Rattle.pm_engine.proofs.events.event.collect_once.Goals as goal

pub returns-clause-answers : goal.returns-clause-answers
returns-clause-answers g c = collect_answers c.args.engine.now c.collect.new.self g.F.Fn c.collect.result c.collect.ensures.call

pub returns-clause-stays : goal.returns-clause-stays
returns-clause-stays g c = collect_journal c.args.engine.now c.collect.new.self g.F.Fn c.collect.result c.collect.ensures.call

pub returns-clause-course : goal.returns-clause-course
returns-clause-course g c = collect_course c.args.engine.now c.collect.new.self g.F.Fn c.collect.result c.collect.ensures.call

pub returns-clause-counts : goal.returns-clause-counts
returns-clause-counts g c = collect_stays c.args.engine.now c.collect.new.self g.F.Fn c.collect.result c.collect.ensures.call

pub returns-clause-engine : goal.returns-clause-engine
returns-clause-engine g c =
    let old = c.args.engine.now in
    let new = c.collect.new.self in
    collect_goes old new c.collect.ensures.start c.keep_their_images.ensures.legal c.requires.running (λ left here later. g.met.D.Disk.counts_now (disk_in new) (g.D.Disk.moment (disk_in old)) left later here) g.F.Fn c.collect.result
    c.collect.ensures.call c.keep_their_images.ensures.settled (g.met.D.Disk.only_now (disk_in old))
