use Rattle.std.proofs.Common.{ap, ◌∙◌}
use Rattle.std.specs.FinMap.{remove}
use Rattle.pm_types.proofs.Orders.{names_total, names_antisymmetric}
use Rattle.pm_types.proofs.Shown.{remove_shown}
use Rattle.pm_model.proofs.roots.Roots.unbind.Goals as goal

pub returns : goal.returns
returns c =
    remove_shown names_total names_antisymmetric c.self.inside.bound c.remove.new.self c.args.name.now c.remove.ensures.updates
    ∙ ap (λ m. remove m c.args.name.now) c.self.view_is
