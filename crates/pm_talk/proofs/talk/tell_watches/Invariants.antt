use Rattle.std.proofs.Common.{◌≡◌, take, map}
use Rattle.pm_model.specs.Text.{watch_line}
use Rattle.pm_talk.specs.Wires.{TellsLines, wire}
use Rattle.pm_talk.proofs.talk.tell_watches.Given as goal

-- the lines of the watches so far were told
abbrev pub invariant-loop-watch : goal.invariant-loop-watch
invariant-loop-watch g l =
    record {
      told : TellsLines (map watch_line (take l.watch-index l.lines)) (wire g.P.Peer l.fn.peer) (wire g.P.Peer l.peer);
      counted : g.P.Peer.count l.peer ≡ g.P.Peer.count l.fn.peer;
    }
