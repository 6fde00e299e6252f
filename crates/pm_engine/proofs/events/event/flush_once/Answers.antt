use Rattle.pm_engine.specs.Shown.{disk_in}
use Rattle.pm_engine.proofs.EventsLemmas.Made.{flush_answers, flush_course, flush_goes, flush_journal, flush_stays}
use Rattle.pm_engine.proofs.events.event.flush_once.Goals as goal

pub returns-clause-answers : goal.returns-clause-answers
returns-clause-answers g c = flush_answers c.args.engine.now c.flush.new.self c.flush.result c.flush.ensures.call

pub returns-clause-stays : goal.returns-clause-stays
returns-clause-stays g c = flush_journal c.args.engine.now c.flush.new.self c.flush.result c.flush.ensures.call

pub returns-clause-course : goal.returns-clause-course
returns-clause-course g c = flush_course c.args.engine.now c.flush.new.self c.flush.result c.flush.ensures.call

pub returns-clause-counts : goal.returns-clause-counts
returns-clause-counts g c = flush_stays c.args.engine.now c.flush.new.self c.flush.result c.flush.ensures.call

pub returns-clause-engine : goal.returns-clause-engine
returns-clause-engine g c =
    let old = c.args.engine.now in
    let new = c.flush.new.self in
    flush_goes old new c.flush.ensures.start c.keep_their_images.ensures.legal c.requires.running (λ left here later. g.met.D.Disk.counts_now (disk_in new) (g.D.Disk.moment (disk_in old)) left later here) c.flush.result
    c.flush.ensures.call
