use Rattle.std.proofs.Common.{◌≡◌, ◌-◌, ◌≤◌, ◌++◌, false, length}
use Rattle.std.specs.List.{concat}
use Rattle.pm_peer.specs.FirstLine.{has_newline}
use Rattle.pm_peer.specs.declared.buffer.TheConstants.{BUFFER_BYTES}
use Rattle.pm_peer.proofs.HeardSoFar.{IsHeardSoFar}
use Rattle.pm_peer.proofs.lines.hear_line.Given as goal

-- the pieces that were heard are kept behind what was, and no newline is among them
abbrev pub invariant-loop-buffer : goal.invariant-loop-buffer
invariant-loop-buffer g l =
    let left = g.P.Peer.left in
    let talk = g.P.Peer.talk in
    record {
      so_far : (heard : IsHeardSoFar (left l.initial.peer) (left l.peer) (talk l.initial.peer) (talk l.peer)) × (l.buffer.kept ≡ l.initial.buffer.kept ++ concat heard.pieces);
      quiet : has_newline l.buffer.kept ≡ false;
      room : l.buffer.room ≡ BUFFER_BYTES - length l.buffer.kept;
      within : length l.buffer.kept ≤ BUFFER_BYTES;
      counted : g.P.Peer.count l.peer ≡ g.P.Peer.count l.initial.peer;
    }

-- each turn but the last takes room
abbrev pub decreases-loop-buffer : goal.decreases-loop-buffer
decreases-loop-buffer g l = l.buffer.room
