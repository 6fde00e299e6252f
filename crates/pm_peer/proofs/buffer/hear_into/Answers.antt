use Rattle.std.proofs.Common.{◌≡◌, ◌-◌, ℕ, List, Some, length, take, sym, subst, arith}
use Rattle.std.proofs.lemmas.Slice.{take-put_mid_below}
use Rattle.std.specs.Result.{IfOk}
use Rattle.pm_io.specs.Streams.{TakesFront}
use Rattle.pm_peer.specs.declared.said.Said.{Said}
use Rattle.pm_peer.specs.Talk.{heard_more}
use Rattle.pm_peer.proofs.Parts.{behind_mid}
use Rattle.pm_peer.proofs.buffer.hear_into.Goals as goal

pub returns-clause-front : goal.returns-clause-front
returns-clause-front g c =
    take-put_mid_below c.args.to (length c.args.bytes.now - c.args.to) c.args.bytes.now c.hear.new.into c.args.to (omega arith) c.requires

pub returns-clause-taken : goal.returns-clause-taken
returns-clause-taken g c =
    subst (λ (ys : List ℕ). IfOk c.hear.result (λ n. (left : List ℕ) → g.P.Peer.left c.args.peer.now ≡ Some left → TakesFront left n ys (g.P.Peer.left c.hear.new.self)))
    (sym (behind_mid c.args.bytes.now c.hear.new.into c.args.to c.requires)) c.hear.ensures.taken

pub returns-clause-heard : goal.returns-clause-heard
returns-clause-heard g c =
    subst (λ (ys : List ℕ). IfOk c.hear.result (λ n. (said : List Said) → g.P.Peer.talk c.args.peer.now ≡ Some said → g.P.Peer.talk c.hear.new.self ≡ Some (heard_more said (take n ys))))
    (sym (behind_mid c.args.bytes.now c.hear.new.into c.args.to c.requires)) c.hear.ensures.heard
