use Rattle.std.proofs.Common.{sym, ◌∙◌}
use Rattle.pm_space.proofs.Aside.{told_unheard}
use Rattle.pm_space.proofs.barrier.tell.Goals as goal

pub returns-else-hears-clause-queues : goal.returns-else-hears-clause-queues
returns-else-hears-clause-queues c = told_unheard c.args.links.now c.args.car _ (record { source = c.args.source; slot = c.args.slot }) (sym c.hears.ensures ∙ c.if-hears.false)
