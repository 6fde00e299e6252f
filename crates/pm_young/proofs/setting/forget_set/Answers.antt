use Rattle.std.proofs.Common.{sym, ◌∙◌}
use Rattle.pm_young.proofs.Unset.{done_nursery, refused_nursery}
use Rattle.pm_young.proofs.setting.forget_set.Goals as goal

pub returns-then-refuses : goal.returns-then-refuses
returns-then-refuses c = refused_nursery c.args.cmd.now c.args.reply.now c.args.client (sym c.refuses.ensures ∙ c.if-refuses.true) c.args.nursery.now

pub returns : goal.returns
returns c = done_nursery c.args.cmd.now c.args.reply.now c.args.client (sym c.refuses.ensures ∙ c.if-refuses.false) c.args.nursery.now c.forget_all.new.nursery c.set_by.result c.set_by.ensures c.forget_all.ensures
