use Rattle.std.proofs.Common.{Ok, subst, sym}
use Rattle.pm_peer.specs.declared.asked.Asked.{Asked}
use Rattle.pm_engine.specs.Shown.{disk_in, serving}
use Rattle.pm_talk.specs.Saying.{SaysBy}
use Rattle.pm_talk.proofs.Going.{talk_first}
use Rattle.pm_talk.proofs.answer.answer_asked.Goals as goal

pub returns-in-Look-clause-ready : goal.returns-in-Look-clause-ready
returns-in-Look-clause-ready g c =
    subst (λ (asked : Asked). SaysBy c.args.events (Ok asked) (serving c.args.engine.now) (serving c.args.engine.now) c.args.reply.now c.answer_look.result) (sym c.in-Look.is)
    (c.answer_look.ensures c.args.events c.args.reply.now)

pub returns-in-Look-clause-engine : goal.returns-in-Look-clause-engine
returns-in-Look-clause-engine g c =
    let law = c.keep_their_images.ensures in
    talk_first c.args.engine.now c.requires.running law.legal (law.settled c.requires.running) (g.met.D.Disk.only_now (disk_in c.args.engine.now))

pub returns-in-Name-clause-ready : goal.returns-in-Name-clause-ready
returns-in-Name-clause-ready g c =
    subst (λ (asked : Asked). SaysBy c.args.events (Ok asked) (serving c.args.engine.now) (serving c.args.engine.now) c.args.reply.now c.answer_name.result) (sym c.in-Name.is)
    (c.answer_name.ensures c.args.events c.args.reply.now)

pub returns-in-Name-clause-engine : goal.returns-in-Name-clause-engine
returns-in-Name-clause-engine g c =
    let law = c.keep_their_images.ensures in
    talk_first c.args.engine.now c.requires.running law.legal (law.settled c.requires.running) (g.met.D.Disk.only_now (disk_in c.args.engine.now))

pub returns-in-Count-clause-ready : goal.returns-in-Count-clause-ready
returns-in-Count-clause-ready g c =
    subst (λ (asked : Asked). SaysBy c.args.events (Ok asked) (serving c.args.engine.now) (serving c.args.engine.now) c.args.reply.now c.answer_count.result) (sym c.in-Count.is)
    (c.answer_count.ensures c.args.events c.args.reply.now)

pub returns-in-Count-clause-engine : goal.returns-in-Count-clause-engine
returns-in-Count-clause-engine g c =
    let law = c.keep_their_images.ensures in
    talk_first c.args.engine.now c.requires.running law.legal (law.settled c.requires.running) (g.met.D.Disk.only_now (disk_in c.args.engine.now))

pub returns-in-Watch-clause-ready : goal.returns-in-Watch-clause-ready
returns-in-Watch-clause-ready g c =
    subst (λ (asked : Asked). SaysBy c.args.events (Ok asked) (serving c.args.engine.now) (serving c.args.engine.now) c.args.reply.now c.answer_watch.result) (sym c.in-Watch.is)
    (c.answer_watch.ensures c.args.events c.args.reply.now)

pub returns-in-Watch-clause-engine : goal.returns-in-Watch-clause-engine
returns-in-Watch-clause-engine g c =
    let law = c.keep_their_images.ensures in
    talk_first c.args.engine.now c.requires.running law.legal (law.settled c.requires.running) (g.met.D.Disk.only_now (disk_in c.args.engine.now))
