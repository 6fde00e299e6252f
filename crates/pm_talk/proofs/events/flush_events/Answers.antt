use Rattle.std.proofs.Common.{None, arith}
use Rattle.pm_engine.specs.Shown.{disk_in, serving}
use Rattle.pm_talk.specs.Going.{halt_of}
use Rattle.pm_talk.proofs.Going.{talk_first, talk_then}
use Rattle.pm_talk.proofs.Making.{flushes_more, flushes_none, flushes_stop}
use Rattle.pm_talk.proofs.events.flush_events.Goals as goal

pub loop-init : goal.loop-init
loop-init g c =
    let law = c.keep_their_images.ensures in
    record { made = flushes_none (serving c.args.engine.now); engine = talk_first c.args.engine.now c.requires.running law.legal (law.settled c.requires.running) (g.met.D.Disk.only_now (disk_in c.args.engine.now)) }

pub flush_one-requires : goal.flush_one-requires
flush_one-requires g c = record { running = c.loop.invariant.engine.going (λ of. of) }

pub returns-in-Err-clause-fewer : goal.returns-in-Err-clause-fewer
returns-in-Err-clause-fewer g c =
    flushes_stop c.args.count c.loop.counter c.loop.wrote (serving c.args.engine.now) (serving c.loop.engine) (serving c.flush_one.new.engine) c.in-Err.fault c.loop-test.true c.loop.invariant.made c.in-Err.ensures.stops

pub returns-in-Err-clause-engine : goal.returns-in-Err-clause-engine
returns-in-Err-clause-engine g c = talk_then c.args.engine.now c.loop.engine c.flush_one.new.engine (halt_of c.in-Err.fault) c.loop.invariant.engine c.in-Err.ensures.engine

pub overflow_add-wrote : goal.overflow_add-wrote
overflow_add-wrote g c =
    let many = c.loop.invariant.made.within in
    let few = c.in-Ok.ensures.made.within in
    let less = c.loop-test.true in
    let most = c.ranges.count in
    omega (arith, many, few, less, most)

pub loop-preserved : goal.loop-preserved
loop-preserved g c = record {
  made = flushes_more c.loop.counter c.loop.wrote c.in-Ok.pages (serving c.args.engine.now) (serving c.loop.engine) (serving c.flush_one.new.engine) c.loop.invariant.made c.in-Ok.ensures.made;
  engine = talk_then c.args.engine.now c.loop.engine c.flush_one.new.engine None c.loop.invariant.engine c.in-Ok.ensures.engine;
}
