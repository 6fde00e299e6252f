use Rattle.std.proofs.Common.{refl, sym, subst}
use Rattle.pm_space.specs.Shown.{view}
use Rattle.pm_types.specs.declared.command.Cmd.TheVariants.{Close}
use Rattle.pm_young.specs.Setting.{LeavesWithout}
use Rattle.pm_young.specs.declared.setting.Sets.{Sets}
use Rattle.pm_young.proofs.Nexts.{row_next}
use Rattle.pm_young.proofs.Unset.{close_leaves, drop_leaves}
use Rattle.pm_young.proofs.setting.leave_all.Goals as goal

pub returns-in_ok-act-in-One-clause-worlds : goal.returns-in_ok-act-in-One-clause-worlds
returns-in_ok-act-in-One-clause-worlds g c =
    subst (λ (sets : Sets). LeavesWithout (view c.args.space.now.parts) sets c.args.client (view c.act.new.space.parts)) (sym c.in-One.is)
    (drop_leaves (view c.args.space.now.parts) (view c.act.new.space.parts) c.args.client _ c.in-One.reg c.in_ok-act-in-One.ensures.served)

pub returns-in_ok-act-in-All-clause-worlds : goal.returns-in_ok-act-in-All-clause-worlds
returns-in_ok-act-in-All-clause-worlds g c =
    subst (λ (sets : Sets). LeavesWithout (view c.args.space.now.parts) sets c.args.client (view c.act-in-All.new.space.parts)) (sym c.in-All.is)
    (close_leaves (view c.args.space.now.parts) (view c.act-in-All.new.space.parts) c.args.client _ c.in_ok-act-in-All.ensures.served)

pub returns-in_ok-act-in-All-clause-objects : goal.returns-in_ok-act-in-All-clause-objects
returns-in_ok-act-in-All-clause-objects g c = c.act-in-All.ensures.still refl

pub returns-in_ok-act-in-All-clause-next : goal.returns-in_ok-act-in-All-clause-next
returns-in_ok-act-in-All-clause-next g c = row_next (view c.args.space.now.parts) (view c.act-in-All.new.space.parts) c.args.client Close _ refl c.in_ok-act-in-All.ensures.row
