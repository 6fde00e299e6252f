use Rattle.std.proofs.Common.{ap, ◌∙◌}
use Rattle.std.specs.FinMap.{insert}
use Rattle.pm_types.proofs.Orders.{places_total, places_antisymmetric}
use Rattle.pm_types.proofs.Shown.{insert_shown}
use Rattle.pm_model.proofs.registers.Registers.set.Goals as goal

pub returns-clause-ok : goal.returns-clause-ok
returns-clause-ok c =
    insert_shown places_total places_antisymmetric c.self.inside.held c.insert.new.self (c.args.client, c.args.register) c.args.id c.in_ok-insert.ensures.updates
    ∙ ap (λ m. insert m (c.args.client, c.args.register) c.args.id) c.self.view_is
