use Rattle.std.proofs.Common.{◌≡◌, ◌∙◌, sym, ap, rules}
use Rattle.std.specs.BTreeMap as tree
use Rattle.std.specs.FinMap.{values}
use Rattle.pm_types.proofs.Orders.{names_total, names_antisymmetric}
use Rattle.pm_types.proofs.Shown.{values_shown}
use Rattle.pm_model.proofs.roots.Roots.ids.Goals as goal

pub returns : goal.returns
returns c =
    let got : c.in_ok-collect.field-0.items ≡ tree.values c.self.inside.bound = search rules in
    got ∙ sym (values_shown names_total names_antisymmetric c.self.inside.bound c.values.ensures.ordered) ∙ ap values c.self.view_is
