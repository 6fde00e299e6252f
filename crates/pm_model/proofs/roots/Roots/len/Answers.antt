use Rattle.std.proofs.Common.{ap, sym, ◌∙◌}
use Rattle.std.specs.FinMap.{len}
use Rattle.pm_types.proofs.Orders.{names_total}
use Rattle.pm_types.proofs.Shown.{len_shown}
use Rattle.pm_model.proofs.roots.Roots.len.Goals as goal

pub returns : goal.returns
returns c = c.len.ensures.len ∙ sym (len_shown names_total c.self.inside.bound c.len.ensures.ordered) ∙ ap len c.self.view_is
