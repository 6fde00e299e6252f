use Rattle.pm_space.specs.Shown.{view}
use Rattle.pm_young.proofs.Admitted.{on_err}
use Rattle.pm_young.proofs.Answered.{loses_next, loses_same, young_answers}
use Rattle.pm_young.proofs.young.answer_young.Goals as goal

pub returns-in_err-reply-clause-err : goal.returns-in_err-reply-clause-err
returns-in_err-reply-clause-err g c = on_err c.from_residual.result (loses_same (view c.args.space.now.parts) c.args.nursery.now c.args.client c.args.cmd.now)

pub returns-in_err-leave_set-clause-err : goal.returns-in_err-leave_set-clause-err
returns-in_err-leave_set-clause-err g c =
    on_err c.from_residual-in_err-leave_set.result
    (loses_next (view c.args.space.now.parts) (view c.leave_set.new.space.parts) c.leave_set.ensures.objects c.leave_set.ensures.next c.args.nursery.now c.args.client c.args.cmd.now)

pub returns-clause-ok : goal.returns-clause-ok
returns-clause-ok g c =
    young_answers (view c.args.space.now.parts) (view c.leave_set.new.space.parts) c.args.nursery.now c.answer_alone.new.nursery c.sound.ensures c.args.client c.args.cmd.now c.in_ok-reply.reply c.requires.registers c.requires.reads
    c.leave_set.ensures.objects c.leave_set.ensures.next c.in_ok-reply.ensures.short c.in_ok-reply.ensures.answer c.in_ok-leave_set.ensures.worlds
