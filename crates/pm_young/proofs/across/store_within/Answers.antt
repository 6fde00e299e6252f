use Rattle.std.proofs.Common.{refl}
use Rattle.pm_types.specs.declared.command.Cmd.TheVariants.{Store}
use Rattle.pm_space.specs.Shown.{view}
use Rattle.pm_young.proofs.Nexts.{row_next}
use Rattle.pm_young.proofs.across.store_within.Goals as goal

pub returns-clause-next : goal.returns-clause-next
returns-clause-next g c = row_next (view c.args.space.now.parts) (view c.act.new.space.parts) c.args.client (Store c.args.reg c.args.index c.args.value) _ refl c.in_ok-act.ensures.row
