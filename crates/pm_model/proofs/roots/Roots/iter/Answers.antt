use Rattle.std.proofs.Common.{ap, sym, ◌∙◌}
use Rattle.std.specs.FinMap.{entries}
use Rattle.pm_types.proofs.Orders.{names_total, names_antisymmetric}
use Rattle.pm_types.proofs.Shown.{entries_shown}
use Rattle.pm_model.proofs.roots.Roots.iter.Goals as goal

pub returns : goal.returns
returns c = c.iter.ensures.rest ∙ sym (entries_shown names_total names_antisymmetric c.self.inside.bound c.iter.ensures.ordered) ∙ ap entries c.self.view_is
