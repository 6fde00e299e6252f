use Rattle.std.proofs.Common.{None}
use Rattle.pm_engine.specs.Shown.{disk_in}
use Rattle.pm_talk.proofs.Going.{talk_first, talk_still, talk_then}
use Rattle.pm_talk.proofs.turn.finish_turn.Goals as goal

pub returns-in-Err-clause-engine : goal.returns-in-Err-clause-engine
returns-in-Err-clause-engine g c =
    let law = c.keep_their_images.ensures in
    talk_first c.args.engine.now c.requires.running law.legal (law.settled c.requires.running) (g.met.D.Disk.only_now (disk_in c.args.engine.now))

pub returns-clause-engine : goal.returns-clause-engine
returns-clause-engine g c =
    let law = c.keep_their_images-2.ensures in
    let let_go = c.forget_entries.ensures in
    let mid = c.collect_behind.new.engine in
    let running = c.collect_behind.ensures.engine.going (λ of. of) in
    talk_then c.args.engine.now mid c.forget_entries.new.self None c.collect_behind.ensures.engine
    (talk_still mid c.forget_entries.new.self let_go.start let_go.serving let_go.disk running law.legal (law.settled running) (g.met.D.Disk.only_now (disk_in mid)))
