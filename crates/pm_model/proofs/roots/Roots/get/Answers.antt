use Rattle.std.proofs.Common.{◌∙◌}
use Rattle.pm_types.proofs.Orders.{names_total}
use Rattle.pm_types.proofs.Shown.{gotten}
use Rattle.pm_model.proofs.roots.Roots.get.Goals as goal

pub returns : goal.returns
returns c = gotten names_total c.self.inside.bound c.args.self.now c.self.view_is c.args.name.now _ (c.copied.ensures ∙ c.get.ensures.value)
