use Rattle.std.proofs.Common.{[], refl}
use Rattle.pm_space.specs.Shown.{view}
use Rattle.pm_young.proofs.Admitted.{on_err}
use Rattle.pm_young.proofs.Crossed.{answers_after_if, loses_after_if, loses_part, reads_none_then}
use Rattle.pm_young.proofs.within.answer_after_escape.Goals as goal

pub returns-in_err-carry_joined-clause-err : goal.returns-in_err-carry_joined-clause-err
returns-in_err-carry_joined-clause-err g c =
    on_err c.from_residual.result
    (loses_part (view c.args.space.now.parts) (view c.carry_joined.new.space.parts) c.args.nursery.now c.args.id c.args.entered.now.items c.carry_joined.new.entered.items c.in_err-carry_joined.ensures.part c.args.client c.args.cmd.now c.requires.lets)

pub answer_within-requires-clause-reads : goal.answer_within-requires-clause-reads
answer_within-requires-clause-reads g c =
    let carries = c.in_ok-carry_joined.ensures.ok in
    reads_none_then c.args.nursery.now c.carry_joined.new.nursery c.args.client c.args.cmd.now c.args.id carries.ids c.requires.reads (carries.joined.all c.args.id ([], refl)) carries.leaves

pub returns-clause-ok : goal.returns-clause-ok
returns-clause-ok g c =
    answers_after_if (view c.args.space.now.parts) (view c.carry_joined.new.space.parts) c.args.nursery.now c.carry_joined.new.nursery c.sound.ensures c.args.id c.args.entered.now.items c.carry_joined.new.entered.items c.in_ok-carry_joined.ensures.ok c.args.client c.args.cmd.now c.requires.lets
    (view c.answer_within.new.space.parts) c.answer_within.new.nursery c.answer_within.result c.requires.no_birth c.answer_within.ensures.ok

pub returns-clause-err : goal.returns-clause-err
returns-clause-err g c =
    loses_after_if (view c.args.space.now.parts) (view c.carry_joined.new.space.parts) c.args.nursery.now c.carry_joined.new.nursery c.sound.ensures c.args.id c.args.entered.now.items c.carry_joined.new.entered.items c.in_ok-carry_joined.ensures.ok c.args.client c.args.cmd.now c.requires.lets
    (view c.answer_within.new.space.parts) c.answer_within.result c.answer_within.ensures.err
