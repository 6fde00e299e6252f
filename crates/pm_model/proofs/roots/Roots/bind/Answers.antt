use Rattle.std.proofs.Common.{ap, ◌∙◌}
use Rattle.std.specs.FinMap.{insert}
use Rattle.pm_types.proofs.Orders.{names_total, names_antisymmetric}
use Rattle.pm_types.proofs.Shown.{insert_shown}
use Rattle.pm_model.proofs.roots.Roots.bind.Goals as goal

pub returns-clause-ok : goal.returns-clause-ok
returns-clause-ok c =
    insert_shown names_total names_antisymmetric c.self.inside.bound c.insert.new.self c.args.name c.args.id c.in_ok-insert.ensures.updates
    ∙ ap (λ m. insert m c.args.name c.args.id) c.self.view_is
