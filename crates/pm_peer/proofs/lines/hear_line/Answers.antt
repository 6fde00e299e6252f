use Rattle.std.proofs.Common.{◌≡◌, ◌<◌, ◌∙◌, ap, sym, refl, arith}
use Rattle.std.proofs.lemmas.Grind.{common_steps}
use Rattle.std.proofs.lemmas.List.{append-nil}
use Rattle.std.proofs.lemmas.Result.{IfOk-weaker, on_err_weaker}
use Rattle.pm_peer.specs.FirstLine.{has_newline}
use Rattle.pm_peer.specs.Buffers.{BufferState}
use Rattle.pm_peer.specs.Hearing.{lines_in, HearsQuiet}
use Rattle.pm_peer.proofs.HeardSoFar.{none_so_far, failed_so_far, next_behind, quiet_behind}
use Rattle.pm_peer.proofs.Answers.{hear_end, hear_found, hear_more, heard_quiet, some_of, room_left}
use Rattle.pm_peer.proofs.lines.hear_line.Goals as goal

pub loop-buffer-init : goal.loop-buffer-init
loop-buffer-init g c = record {
  so_far = (none_so_far _ _, sym (append-nil c.args.buffer.now.kept));
  quiet = c.requires.quiet;
  room = c.requires.room;
  within = c.requires.within;
  counted = refl;
}

pub returns-in_err-n-clause-none : goal.returns-in_err-n-clause-none
returns-in_err-n-clause-none g c =
    let none : HearsQuiet c.args.buffer.now.kept (g.P.Peer.left c.args.peer.now) (g.P.Peer.left c.hear_piece.new.peer) (g.P.Peer.talk c.args.peer.now) (g.P.Peer.talk c.hear_piece.new.peer) =
    heard_quiet c.args.buffer.now.kept _ _ _ _ (failed_so_far _ _ _ _ _ _ c.loop-buffer.invariant.so_far.0 c.in_err-n.ensures.left_stays c.in_err-n.ensures.talk_stays) c.requires.quiet in
    grind (arith, common_steps, none, c.from_residual.ensures)

pub returns-then-n-eq0-clause-next : goal.returns-then-n-eq0-clause-next
returns-then-n-eq0-clause-next g c =
    let room : 0 < c.loop-buffer.buffer.room = omega (arith, c.loop-buffer-test.true, c.room.ensures) in
    hear_end (lines_in c.args.buffer.now) _ _ _ _ _ _ c.loop-buffer.invariant.so_far.0 c.in_ok-n.n c.loop-buffer.buffer c.hear_piece.new.self c.in_ok-n.ensures.heard c.loop-buffer.invariant.so_far.1 c.take_end.result (lines_in c.take_end.new.buffer) c.if-n-eq0.true room c.take_end.ensures.answer

pub returns-in-Some-clause-next : goal.returns-in-Some-clause-next
returns-in-Some-clause-next g c =
    hear_found (lines_in c.args.buffer.now) _ _ _ _ _ _ c.loop-buffer.invariant.so_far.0 c.in_ok-n.n c.loop-buffer.buffer c.hear_piece.new.self c.in_ok-n.ensures.heard c.loop-buffer.invariant.so_far.1 c.in-Some.next (lines_in c.take_first.new.buffer) (some_of _ c.if-n-eq0.false) c.in-Some.ensures

pub loop-buffer-preserved : goal.loop-buffer-preserved
loop-buffer-preserved g c =
    let same : c.take_first.new.buffer ≡ c.hear_piece.new.self = c.in_default.ensures.1 in
    let more = hear_more (lines_in c.args.buffer.now) _ _ _ _ _ _ c.loop-buffer.invariant.so_far.0 c.in_ok-n.n c.loop-buffer.buffer c.hear_piece.new.self c.in_ok-n.ensures.heard c.loop-buffer.invariant.so_far.1 (some_of _ c.if-n-eq0.false) c.in_default.ensures.0 in
    let left = room_left c.in_ok-n.n c.loop-buffer.buffer c.hear_piece.new.self _ _ _ _ c.in_ok-n.ensures.heard c.loop-buffer.invariant.room c.loop-buffer.invariant.within in
    record {
      so_far = (more.0, ap (λ (b : BufferState). b.kept) same ∙ more.1);
      quiet = ap (λ (b : BufferState). has_newline b.kept) same ∙ c.in_default.ensures.0;
      room = grind (arith, common_steps, same, left);
      within = grind (arith, common_steps, same, left);
      counted = c.in_ok-n.ensures.counted ∙ c.loop-buffer.invariant.counted;
    }

pub returns-clause-next : goal.returns-clause-next
returns-clause-next g c =
    IfOk-weaker c.pass_line.result _ _ (λ next heard. next_behind next (lines_in c.args.buffer.now) (lines_in c.loop-buffer.buffer) (lines_in c.pass_line.new.buffer) _ _ _ _ _ _ c.loop-buffer.invariant.so_far.0 c.loop-buffer.invariant.so_far.1 heard) c.pass_line.ensures.next

pub returns-clause-none : goal.returns-clause-none
returns-clause-none g c =
    on_err_weaker c.pass_line.result (λ quiet. quiet_behind c.args.buffer.now.kept c.loop-buffer.buffer.kept _ _ _ _ _ _ c.loop-buffer.invariant.so_far.0 c.loop-buffer.invariant.so_far.1 quiet) c.pass_line.ensures.none
