use Rattle.std.proofs.Common.{Option, subst}
use Rattle.pm_engine.specs.declared.events.stop.Stop.{Stop}
use Rattle.pm_engine.specs.Shown.{serving}
use Rattle.pm_talk.specs.Going.{TalkGoesOn}
use Rattle.pm_talk.specs.Talks.{kept_in}
use Rattle.pm_talk.specs.Wires.{wire}
use Rattle.pm_talk.proofs.Finishing.{ends_broken, ends_early, ends_told, same_counts, same_stop}
use Rattle.pm_talk.proofs.talk.take_all.Goals as goal

pub returns-in-Ok-tell_end-clause-turns : goal.returns-in-Ok-tell_end-clause-turns
returns-in-Ok-tell_end-clause-turns g c =
    ends_told c.args.events (kept_in c.args.buffers.now) (serving c.args.engine.now) (serving c.take_turns.new.engine) c.in-Ok.next (wire g.P.Peer c.args.peer.now) (wire g.P.Peer c.take_turns.new.peer) (wire g.P.Peer c.tell_end.new.peer)
    c.in-Ok.ensures.turns c.in-Ok-tell_end.ensures.all

pub returns-in-Err-tell_end-clause-turns : goal.returns-in-Err-tell_end-clause-turns
returns-in-Err-tell_end-clause-turns g c =
    ends_broken c.args.events (kept_in c.args.buffers.now) (serving c.args.engine.now) (serving c.take_turns.new.engine) c.in-Ok.next (wire g.P.Peer c.args.peer.now) (wire g.P.Peer c.take_turns.new.peer) (wire g.P.Peer c.tell_end.new.peer)
    c.in-Ok.ensures.turns c.in-Err-tell_end.ensures.part

pub returns-in-Err-clause-turns : goal.returns-in-Err-clause-turns
returns-in-Err-clause-turns g c =
    ends_early c.args.events (kept_in c.args.buffers.now) (serving c.args.engine.now) (serving c.take_turns.new.engine) c.in-Err.ending (wire g.P.Peer c.args.peer.now) (wire g.P.Peer c.take_turns.new.peer) c.in-Err.ensures.turns

pub returns-in-Err-clause-engine : goal.returns-in-Err-clause-engine
returns-in-Err-clause-engine g c = subst (λ (stop : Option Stop). TalkGoesOn c.args.engine.now c.take_turns.new.engine stop) (same_stop c.in-Err.ending) c.in-Err.ensures.engine

pub returns-in-Err-clause-cause : goal.returns-in-Err-clause-cause
returns-in-Err-clause-cause g c = same_counts c.in-Err.ending (g.P.Peer.count c.args.peer.now) (g.P.Peer.count c.take_turns.new.peer) c.in-Err.ensures.cause
