use Rattle.std.proofs.Common.{ap, sym, ◌∙◌, arith}
use Rattle.pm_view.specs.View.{SpaceView}
use Rattle.pm_space.specs.Shown.{view}
use Rattle.pm_young.proofs.Admitted.{on_err}
use Rattle.pm_young.proofs.Answered.{loses_still, within_answers}
use Rattle.pm_young.proofs.Nexts.{row_next}
use Rattle.pm_young.proofs.Unset.{not_new}
use Rattle.pm_young.proofs.within.answer_within.Goals as goal

pub returns-in_err-reply-clause-err : goal.returns-in_err-reply-clause-err
returns-in_err-reply-clause-err g c =
    let same = ap (λ (v : SpaceView). v.next) c.in_err-reply.ensures.err in
    on_err c.from_residual.result
    (loses_still (view c.args.space.now.parts) (view c.act.new.space.parts) (c.act.ensures.still (not_new c.args.cmd.now c.requires.no_birth)) (omega (arith, same)) c.args.nursery.now c.args.client c.args.cmd.now)

pub returns-clause-ok : goal.returns-clause-ok
returns-clause-ok g c =
    let other = not_new c.args.cmd.now c.requires.no_birth in
    within_answers (view c.args.space.now.parts) (view c.act.new.space.parts) c.args.nursery.now c.forget_set.new.nursery c.args.client c.args.cmd.now c.in_ok-reply.reply c.requires.no_birth c.requires.reads
    (c.act.ensures.still other) (row_next (view c.args.space.now.parts) (view c.act.new.space.parts) c.args.client c.args.cmd.now c.in_ok-reply.reply other c.in_ok-reply.ensures.row)
    c.in_ok-reply.ensures.short c.in_ok-reply.ensures.served c.forget_set.ensures
