use Rattle.std.proofs.Common.{◌≡◌, ◌<◌, ◌∙◌, [], ap, sym, subst, refl, arith}
use Rattle.std.proofs.lemmas.Grind.{common_steps}
use Rattle.pm_peer.specs.declared.next.Next.{Next}
use Rattle.pm_peer.specs.FirstLine.{has_newline, answer_to, IsFirstNewline}
use Rattle.pm_peer.specs.Buffers.{BufferState}
use Rattle.pm_peer.specs.Hearing.{lines_in, HearsNext, HearsQuiet}
use Rattle.pm_peer.proofs.HeardSoFar.{none_so_far, failed_so_far}
use Rattle.pm_peer.proofs.Answers.{pass_end, pass_found, pass_more, heard_often, heard_quiet, some_of}
use Rattle.pm_peer.proofs.lines.pass_line.Goals as goal

pub loop-turn-init : goal.loop-turn-init
loop-turn-init g c = record { so_far = (none_so_far _ _, refl); counted = refl }

pub returns-in_err-n-clause-none : goal.returns-in_err-n-clause-none
returns-in_err-n-clause-none g c =
    let none : HearsQuiet c.args.buffer.now.kept (g.P.Peer.left c.args.peer.now) (g.P.Peer.left c.hear_piece.new.peer) (g.P.Peer.talk c.args.peer.now) (g.P.Peer.talk c.hear_piece.new.peer) =
    heard_quiet c.args.buffer.now.kept _ _ _ _ (failed_so_far _ _ _ _ _ _ c.loop-turn.invariant.so_far.0 c.in_err-n.ensures.left_stays c.in_err-n.ensures.talk_stays) c.requires.quiet in
    grind (arith, common_steps, none, c.from_residual.ensures)

pub returns-then-n-eq0-clause-next : goal.returns-then-n-eq0-clause-next
returns-then-n-eq0-clause-next g c =
    let none_kept : c.clear.new.self.kept ≡ [] = ap (λ (b : BufferState). b.kept) c.clear.ensures in
    let room : 0 < c.clear.new.self.room = omega (arith, ap (λ (b : BufferState). b.room) c.clear.ensures) in
    pass_end (lines_in c.args.buffer.now) _ _ _ _ _ _ c.loop-turn.invariant.so_far.0 c.in_ok-n.n c.clear.new.self c.hear_piece.new.self c.in_ok-n.ensures.heard c.requires.quiet c.requires.long none_kept c.if-n-eq0.true room

pub returns-in-Some-clause-next : goal.returns-in-Some-clause-next
returns-in-Some-clause-next g c =
    let none_kept : c.clear.new.self.kept ≡ [] = ap (λ (b : BufferState). b.kept) c.clear.ensures in
    let newline = subst (λ bytes. IsFirstNewline bytes c.in-Some.at) c.kept-in-loop-turn.ensures c.in-Some.ensures in
    subst (λ (answer : Next). HearsNext answer (lines_in c.args.buffer.now) (lines_in c.pass.new.self) (g.P.Peer.left c.args.peer.now) (g.P.Peer.left c.hear_piece.new.peer) (g.P.Peer.talk c.args.peer.now) (g.P.Peer.talk c.hear_piece.new.peer))
    (sym (c.answer_to-answer.ensures ∙ ap answer_to c.kept.ensures))
    (pass_found (lines_in c.args.buffer.now) _ _ _ _ _ _ c.loop-turn.invariant.so_far.0 c.in_ok-n.n c.clear.new.self c.hear_piece.new.self c.in_ok-n.ensures.heard c.requires.quiet c.requires.long none_kept c.in-Some.at (lines_in c.pass.new.self) (some_of _ c.if-n-eq0.false) newline c.pass.ensures.no_line c.pass.ensures.kept)

pub loop-turn-preserved : goal.loop-turn-preserved
loop-turn-preserved g c =
    let none_kept : c.clear.new.self.kept ≡ [] = ap (λ (b : BufferState). b.kept) c.clear.ensures in
    record {
      so_far = pass_more (lines_in c.args.buffer.now) _ _ _ _ _ _ c.loop-turn.invariant.so_far.0 c.in_ok-n.n c.clear.new.self c.hear_piece.new.self c.in_ok-n.ensures.heard c.requires.quiet c.requires.long none_kept c.loop-turn._turn c.loop-turn.invariant.so_far.1 (some_of _ c.if-n-eq0.false) (ap has_newline (sym c.kept-in-loop-turn.ensures) ∙ c.in_default.ensures);
      counted = c.in_ok-n.ensures.counted ∙ c.loop-turn.invariant.counted;
    }

pub returns-clause-next : goal.returns-clause-next
returns-clause-next g c =
    heard_often (lines_in c.args.buffer.now) (lines_in c.clear-2.new.self) _ _ _ _ c.loop-turn.invariant.so_far.0 c.requires.quiet (omega (arith, c.loop-turn.invariant.so_far.1, c.loop-turn-test.false)) (ap (λ (b : BufferState). b.line) c.clear-2.ensures) (ap (λ (b : BufferState). b.kept) c.clear-2.ensures)
