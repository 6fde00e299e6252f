use Rattle.std.proofs.Common.{None, subst, sym}
use Rattle.pm_place.specs.Choosers.{IsChooser}
use Rattle.pm_engine.specs.History.{IsCollected}
use Rattle.pm_engine.specs.Shown.{disk_in, serving}
use Rattle.pm_talk.proofs.Going.{talk_first, talk_then}
use Rattle.pm_talk.proofs.Making.{collects_fewer, makes_more, makes_none}
use Rattle.pm_talk.proofs.events.collect_events.Goals as goal

pub loop-init : goal.loop-init
loop-init g c =
    let law = c.keep_their_images.ensures in
    record { made = makes_none IsCollected (serving c.args.engine.now); engine = talk_first c.args.engine.now c.requires.running law.legal (law.settled c.requires.running) (g.met.D.Disk.only_now (disk_in c.args.engine.now)) }

pub collect_one-requires-clause-running : goal.collect_one-requires-clause-running
collect_one-requires-clause-running g c = c.loop.invariant.engine.going (λ of. of)

pub collect_one-requires-clause-chooser : goal.collect_one-requires-clause-chooser
collect_one-requires-clause-chooser g c = subst (IsChooser g.F.Fn) (sym c.loop.invariant.engine.start.chooser) c.requires.chooser

pub returns-in-Err-clause-fewer : goal.returns-in-Err-clause-fewer
returns-in-Err-clause-fewer g c =
    collects_fewer c.args.count c.loop.counter (serving c.args.engine.now) (serving c.loop.engine) (serving c.collect_one.new.engine) c.loop-test.true c.loop.invariant.made c.in-Err.ensures.still

pub returns-in-Err-clause-engine : goal.returns-in-Err-clause-engine
returns-in-Err-clause-engine g c = talk_then c.args.engine.now c.loop.engine c.collect_one.new.engine None c.loop.invariant.engine c.collect_one.ensures.engine

pub loop-preserved : goal.loop-preserved
loop-preserved g c = record {
  made = makes_more IsCollected c.loop.counter (serving c.args.engine.now) (serving c.loop.engine) (serving c.collect_one.new.engine) c.loop.invariant.made c.in-Ok.ensures.made;
  engine = talk_then c.args.engine.now c.loop.engine c.collect_one.new.engine None c.loop.invariant.engine c.collect_one.ensures.engine;
}
