use Rattle.std.proofs.Common.{ap, ◌∙◌}
use Rattle.std.specs.FinMap.{remove}
use Rattle.pm_types.proofs.Orders.{places_total, places_antisymmetric}
use Rattle.pm_types.proofs.Shown.{remove_shown}
use Rattle.pm_model.proofs.registers.Registers.forget.Goals as goal

pub returns : goal.returns
returns c =
    remove_shown places_total places_antisymmetric c.self.inside.held c.remove.new.self (c.args.client, c.args.register) c.remove.ensures.updates
    ∙ ap (λ m. remove m (c.args.client, c.args.register)) c.self.view_is
