use Rattle.std.proofs.Common.{◌∙◌}
use Rattle.pm_talk.specs.Wires.{wire}
use Rattle.pm_talk.proofs.Wiring.{breaks_among, tells_more}
use Rattle.pm_talk.proofs.talk.tell_watches.Goals as goal

pub returns-in-Err-clause-part : goal.returns-in-Err-clause-part
returns-in-Err-clause-part g c =
    breaks_among c.args.lines.now c.loop-watch.watch-index _ c.as_slice.result.now (wire g.P.Peer c.args.peer.now) (wire g.P.Peer c.loop-watch.peer) (wire g.P.Peer c.tell_line.new.peer) c.loop-watch-test.true
    (c.as_slice.ensures.value ∙ c.watch_line.ensures.text) c.loop-watch.invariant.told c.in-Err.ensures.part

pub loop-watch-preserved : goal.loop-watch-preserved
loop-watch-preserved g c = record {
  told =
      tells_more c.args.lines.now c.loop-watch.watch-index _ c.as_slice.result.now (wire g.P.Peer c.args.peer.now) (wire g.P.Peer c.loop-watch.peer) (wire g.P.Peer c.tell_line.new.peer) c.loop-watch-test.true
      (c.as_slice.ensures.value ∙ c.watch_line.ensures.text) c.loop-watch.invariant.told c.in-Ok.ensures.all;
  counted = c.in-Ok.ensures.counted ∙ c.loop-watch.invariant.counted;
}
