use Rattle.std.proofs.lemmas.Result.{on_err_weaker, on_ok_weaker}
use Rattle.pm_talk.specs.Wires.{wire}
use Rattle.pm_talk.proofs.Wiring.{tells_one, tells_part}
use Rattle.pm_talk.proofs.turn.tell_line.Goals as goal

pub returns-clause-all : goal.returns-clause-all
returns-clause-all g c =
    on_ok_weaker c.tell.result (λ told. tells_one c.args.line.now (wire g.P.Peer c.args.peer.now) (wire g.P.Peer c.tell.new.self) told c.tell.ensures.left_stays) c.tell.ensures.told

pub returns-clause-part : goal.returns-clause-part
returns-clause-part g c =
    on_err_weaker c.tell.result (λ part. tells_part c.args.line.now (wire g.P.Peer c.args.peer.now) (wire g.P.Peer c.tell.new.self) part c.tell.ensures.left_stays) c.tell.ensures.failed
