use Rattle.std.proofs.Common.{ℕ, sym, ◌∙◌}
use Rattle.std.specs.FinMap.{len-empty}
use Rattle.pm_types.specs.Orders.{source_cmp}
use Rattle.pm_inspect.proofs.Linked.{set_there}
use Rattle.pm_inspect.proofs.counting.remembered.Goals as goal

pub returns-in-Some : goal.returns-in-Some
returns-in-Some g c = c.len.ensures ∙ sym (set_there c.args.parts.now.links c.args.car _ c.in-Some.ensures)

pub returns-in-None : goal.returns-in-None
returns-in-None g c = sym (set_there c.args.parts.now.links c.args.car _ c.in-None.ensures ∙ len-empty source_cmp ℕ)
