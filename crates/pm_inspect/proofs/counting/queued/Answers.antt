use Rattle.std.proofs.Common.{sym, ◌∙◌}
use Rattle.pm_inspect.proofs.Linked.{queue_there}
use Rattle.pm_inspect.proofs.counting.queued.Goals as goal

pub returns-in-Some : goal.returns-in-Some
returns-in-Some g c = c.len.ensures ∙ sym (queue_there c.args.parts.now.links c.args.car _ c.in-Some.ensures)

pub returns-in-None : goal.returns-in-None
returns-in-None g c = sym (queue_there c.args.parts.now.links c.args.car _ c.in-None.ensures)
