use Rattle.std.proofs.Common.{◌≡◌, ◌∙◌, ap, sym, subst}
use Rattle.pm_peer.specs.declared.next.Next.{Next}
use Rattle.pm_peer.specs.Buffers.{BufferState}
use Rattle.pm_peer.specs.Hearing.{LinesState, lines_in, HearsNext}
use Rattle.pm_peer.proofs.Answers.{kept_line, is_end}
use Rattle.pm_peer.proofs.lines.Lines.next.Goals as goal

pub returns-in-Some-clause-next : goal.returns-in-Some-clause-next
returns-in-Some-clause-next g c =
    subst (λ (old : LinesState). HearsNext c.in-Some.next old (lines_in c.take_first.new.buffer) (g.P.Peer.left c.args.peer.now) (g.P.Peer.left c.args.peer.now) (g.P.Peer.talk c.args.peer.now) (g.P.Peer.talk c.args.peer.now)) c.self.view_is
    (kept_line c.in-Some.next (lines_in c.self.inside.buffer) (lines_in c.take_first.new.buffer) (g.P.Peer.left c.args.peer.now) (g.P.Peer.talk c.args.peer.now) c.in-Some.ensures)

pub returns-in-Ok-clause-ends : goal.returns-in-Ok-clause-ends
returns-in-Ok-clause-ends g c = λ is bytes told few.
    let next = subst (λ (answer : Next). HearsNext answer (lines_in c.move_to_front.new.self) (lines_in c.hear_line.new.buffer) (g.P.Peer.left c.args.peer.now) (g.P.Peer.left c.hear_line.new.peer) (g.P.Peer.talk c.args.peer.now) (g.P.Peer.talk c.hear_line.new.peer)) is c.in-Ok.ensures.next in
    let ends = is_end (lines_in c.move_to_front.new.self) (lines_in c.hear_line.new.buffer) _ _ _ _ next bytes told few in
    let same : c.args.self.now.kept ≡ c.move_to_front.new.self.kept = ap (λ (s : LinesState). s.kept) (sym c.self.view_is) ∙ ap (λ (b : BufferState). b.kept) (sym c.in_default.ensures.1) ∙ sym c.move_to_front.ensures.kept in
    (same ∙ ends.0, ends.1)
