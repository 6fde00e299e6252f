use Rattle.std.proofs.Common.{◌≡◌, length}
use Rattle.pm_peer.proofs.HeardSoFar.{IsHeardSoFar}
use Rattle.pm_peer.proofs.lines.pass_line.Given as goal

-- as many pieces as turns were heard, none with a newline
abbrev pub invariant-loop-turn : goal.invariant-loop-turn
invariant-loop-turn g l =
    let left = g.P.Peer.left in
    let talk = g.P.Peer.talk in
    record {
      so_far : (heard : IsHeardSoFar (left l.initial.peer) (left l.peer) (talk l.initial.peer) (talk l.peer)) × (length heard.pieces ≡ l._turn);
      counted : g.P.Peer.count l.peer ≡ g.P.Peer.count l.initial.peer;
    }
