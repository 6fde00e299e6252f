use Rattle.std.proofs.Common.{◌≡◌, List, None, length}
use Rattle.pm_engine.specs.Shown.{serving}
use Rattle.pm_talk.specs.Going.{TalkGoesOn}
use Rattle.pm_talk.specs.Talks.{HasTurns, kept_in}
use Rattle.pm_talk.specs.Turns.{Turn}
use Rattle.pm_talk.specs.Wires.{wire}
use Rattle.pm_talk.proofs.talk.take_turns.Given as goal

-- so many turns were taken
abbrev pub invariant-loop : goal.invariant-loop
invariant-loop g l =
    record {
      turns : List Turn;
      many : length turns ≡ l.counter;
      has : HasTurns l.events (kept_in l.fn.buffers) (serving l.fn.engine) turns (kept_in l.buffers) (serving l.engine) (wire g.P.Peer l.fn.peer) (wire g.P.Peer l.peer);
      engine : TalkGoesOn l.fn.engine l.engine None;
      counted : g.P.Peer.count l.peer ≡ g.P.Peer.count l.fn.peer;
    }
