use Rattle.std.proofs.Common.{◌∙◌, [], ◌∷◌, ◌++◌, None, Err, length, refl, subst, sym, arith}
use Rattle.pm_place.specs.Choosers.{IsChooser}
use Rattle.pm_peer.specs.declared.next.Next.{Next}
use Rattle.pm_engine.specs.Shown.{disk_in, serving}
use Rattle.pm_talk.specs.Stepping.{turn_stop}
use Rattle.pm_talk.specs.Talks.{kept_in}
use Rattle.pm_talk.specs.Wires.{wire}
use Rattle.pm_talk.proofs.Going.{talk_first, talk_then}
use Rattle.pm_talk.proofs.Turning.{ends_in_turn, has_more, has_none, meets_count, met, one_more, taken}
use Rattle.pm_talk.proofs.talk.take_turns.Goals as goal

pub loop-init : goal.loop-init
loop-init g c =
    let law = c.keep_their_images.ensures in
    record {
      turns = [];
      many = refl;
      has = has_none c.args.events (kept_in c.args.buffers.now) (serving c.args.engine.now) (wire g.P.Peer c.args.peer.now);
      engine = talk_first c.args.engine.now c.requires.running law.legal (law.settled c.requires.running) (g.met.D.Disk.only_now (disk_in c.args.engine.now));
      counted = refl;
    }

pub take_turn-requires-clause-chooser : goal.take_turn-requires-clause-chooser
take_turn-requires-clause-chooser g c = subst (IsChooser g.F.Fn) (sym c.loop.invariant.engine.start.chooser) c.requires.chooser

pub returns-in-Err-clause-turns : goal.returns-in-Err-clause-turns
returns-in-Err-clause-turns g c =
    let was = c.loop.invariant in
    let mid = wire g.P.Peer c.loop.peer in
    let new = wire g.P.Peer c.take_turn.new.peer in
    record {
      turns = was.turns;
      behind = kept_in c.loop.buffers;
      it = serving c.loop.engine;
      mid = mid;
      has = was.has;
      ends = ends_in_turn c.args.events (kept_in c.loop.buffers) (kept_in c.take_turn.new.buffers) (length was.turns) (serving c.loop.engine) (serving c.take_turn.new.engine) mid new c.in-Err.ending c.in-Err.ensures.turn;
    }

pub returns-in-Err-clause-engine : goal.returns-in-Err-clause-engine
returns-in-Err-clause-engine g c = talk_then c.args.engine.now c.loop.engine c.take_turn.new.engine (turn_stop {T = Next} (Err c.in-Err.ending)) c.loop.invariant.engine c.in-Err.ensures.engine

pub returns-clause-turns : goal.returns-clause-turns
returns-clause-turns g c =
    let was = c.loop.invariant in
    let mid = wire g.P.Peer c.loop.peer in
    let past = c.loop-test.false in
    let many = was.many in
    record { turns = was.turns; behind = kept_in c.loop.buffers; it = serving c.loop.engine; mid = mid; has = was.has; ends = (refl, meets_count (kept_in c.loop.buffers) (length was.turns) mid (omega (arith, past, many))) }

pub returns-then-last-clause-turns : goal.returns-then-last-clause-turns
returns-then-last-clause-turns g c =
    let was = c.loop.invariant in
    let mid = wire g.P.Peer c.loop.peer in
    let new = wire g.P.Peer c.take_turn.new.peer in
    record {
      turns = was.turns;
      behind = kept_in c.loop.buffers;
      it = serving c.loop.engine;
      mid = mid;
      has = was.has;
      ends =
          met c.args.events c.in-Ok.next (kept_in c.loop.buffers) (kept_in c.take_turn.new.buffers) (length was.turns) (serving c.loop.engine) (serving c.take_turn.new.engine) mid new (sym c.is_ending-last.ensures ∙ c.if-last.true)
          c.in-Ok.ensures.turn;
    }

pub returns-then-last-clause-engine : goal.returns-then-last-clause-engine
returns-then-last-clause-engine g c = talk_then c.args.engine.now c.loop.engine c.take_turn.new.engine None c.loop.invariant.engine c.in-Ok.ensures.engine

pub loop-preserved : goal.loop-preserved
loop-preserved g c =
    let was = c.loop.invariant in
    let old = wire g.P.Peer c.args.peer.now in
    let mid = wire g.P.Peer c.loop.peer in
    let new = wire g.P.Peer c.take_turn.new.peer in
    let takes =
    taken c.args.events c.in-Ok.next (kept_in c.loop.buffers) (kept_in c.take_turn.new.buffers) (serving c.loop.engine) (serving c.take_turn.new.engine) mid new (sym c.is_ending-last.ensures ∙ c.if-last.false) c.in-Ok.ensures.turn in
    record {
      turns = was.turns ++ takes.turn ∷ [];
      many = one_more was.turns takes.turn c.loop.counter was.many;
      has =
          has_more c.args.events (kept_in c.args.buffers.now) (serving c.args.engine.now) was.turns (kept_in c.loop.buffers) (kept_in c.take_turn.new.buffers) (serving c.loop.engine) (serving c.take_turn.new.engine) old mid new
          was.has takes;
      engine = talk_then c.args.engine.now c.loop.engine c.take_turn.new.engine None was.engine c.in-Ok.ensures.engine;
      counted = c.in-Ok.ensures.cause ∙ was.counted;
    }
