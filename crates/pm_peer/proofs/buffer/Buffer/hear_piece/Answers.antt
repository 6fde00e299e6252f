use Rattle.std.proofs.Common.{◌≡◌, ◌+◌, ◌-◌, ℕ, List, length, sym, subst, arith}
use Rattle.std.proofs.lemmas.Grind.{common_steps}
use Rattle.std.proofs.lemmas.List.{with_items_is}
use Rattle.std.specs.List.{slice_range}
use Rattle.std.specs.Vec.{with_items}
use Rattle.pm_peer.specs.declared.buffer.TheConstants.{BUFFER_BYTES}
use Rattle.pm_peer.specs.Buffers.{BufferState, HearsPiece}
use Rattle.pm_peer.proofs.Parts.{piece_heard}
use Rattle.pm_peer.proofs.buffer.Buffer.hear_piece.Goals as goal

pub returns-clause-heard : goal.returns-clause-heard
returns-clause-heard g c =
    let i = c.self.inside in
    let n = c.in_ok-n.n in
    let held : List ℕ = c.as_mut_slice.result.now in
    let ys : List ℕ = c.hear_into.new.bytes in
    let whole = c.self.invariant.0 in
    let is : held ≡ i.bytes.items = grind (arith, common_steps, c.as_mut_slice.ensures.value) in
    let size : length held ≡ BUFFER_BYTES = grind (arith, common_steps, is, whole) in
    let new_size : length ys ≡ BUFFER_BYTES = omega (arith, c.hear_into.auto.bytes, size) in
    let items : (with_items i.bytes ys).items ≡ ys = with_items_is i.bytes ys (omega (arith, c.hear_into.auto.bytes, c.as_mut_slice.ensures.len)) in
    subst (λ (old : BufferState). HearsPiece n old (record { kept = slice_range (with_items i.bytes ys).items i.from (i.to + n); line = slice_range (with_items i.bytes ys).items 0 0; room = BUFFER_BYTES - (i.to + n) }) (g.P.Peer.left c.args.peer.now) (g.P.Peer.left c.hear_into.new.peer) (g.P.Peer.talk c.args.peer.now) (g.P.Peer.talk c.hear_into.new.peer))
    c.self.view_is
    (subst (λ (zs : List ℕ). HearsPiece n (record { kept = slice_range i.bytes.items i.from i.to; line = slice_range i.bytes.items i.line_from i.line_to; room = BUFFER_BYTES - i.to }) (record { kept = slice_range zs i.from (i.to + n); line = slice_range zs 0 0; room = BUFFER_BYTES - (i.to + n) }) (g.P.Peer.left c.args.peer.now) (g.P.Peer.left c.hear_into.new.peer) (g.P.Peer.talk c.args.peer.now) (g.P.Peer.talk c.hear_into.new.peer))
    (sym items)
    (piece_heard i.bytes.items held ys (slice_range i.bytes.items i.line_from i.line_to) i.from i.to n _ _ _ _ is c.self.invariant.1 c.self.invariant.2 size new_size c.hear_into.ensures.front c.in_ok-n.ensures.fits c.in_ok-n.ensures.taken c.in_ok-n.ensures.end c.in_ok-n.ensures.heard))
