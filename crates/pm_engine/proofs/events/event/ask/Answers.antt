use Rattle.pm_engine.specs.Shown.{disk_in}
use Rattle.pm_engine.proofs.EventsLemmas.Made.{adds_entry, client_goes, client_short, client_stays}
use Rattle.pm_engine.proofs.events.event.ask.Goals as goal

pub returns-clause-adds : goal.returns-clause-adds
returns-clause-adds g c = adds_entry c.args.engine.now c.client.new.self c.args.client c.args.cmd.now c.client.result c.client.ensures.call

pub returns-clause-stays : goal.returns-clause-stays
returns-clause-stays g c = client_stays c.args.engine.now c.client.new.self c.args.client c.args.cmd.now c.client.result c.client.ensures.call

pub returns-clause-short : goal.returns-clause-short
returns-clause-short g c = client_short c.args.engine.now c.client.new.self c.args.client c.args.cmd.now c.client.result c.client.ensures.call c.requires.room

pub returns-clause-engine : goal.returns-clause-engine
returns-clause-engine g c =
    let old = c.args.engine.now in
    let new = c.client.new.self in
    client_goes old new c.client.ensures.start c.keep_their_images.ensures.legal c.requires.running (λ left here later. g.met.D.Disk.counts_now (disk_in new) (g.D.Disk.moment (disk_in old)) left later here) c.args.client c.args.cmd.now
    c.client.result c.client.ensures.call
