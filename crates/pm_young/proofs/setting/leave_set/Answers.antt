use Rattle.std.proofs.Common.{sym, ◌∙◌}
use Rattle.pm_space.specs.Shown.{view}
use Rattle.pm_young.proofs.Unset.{done_leaves, refused_leaves}
use Rattle.pm_young.proofs.setting.leave_set.Goals as goal

pub returns-then-refuses-clause-worlds : goal.returns-then-refuses-clause-worlds
returns-then-refuses-clause-worlds g c = refused_leaves c.args.cmd.now c.args.reply.now c.args.client (sym c.refuses.ensures ∙ c.if-refuses.true) (view c.args.space.now.parts)

pub returns-clause-worlds : goal.returns-clause-worlds
returns-clause-worlds g c =
    done_leaves c.args.cmd.now c.args.reply.now c.args.client c.leave_all.result (sym c.refuses.ensures ∙ c.if-refuses.false) (view c.args.space.now.parts) (view c.leave_all.new.space.parts) c.set_by.result c.set_by.ensures c.leave_all.ensures.worlds
