use Rattle.std.proofs.Common.{sym, ap, ◌∙◌}
use Rattle.std.specs.FinMap.{get}
use Rattle.pm_cars.specs.Cars.{CarAndSpare}
use Rattle.pm_cars.proofs.Listed.{get_slots}
use Rattle.pm_cars.proofs.Kept.{lent_within}
use Rattle.pm_cars.proofs.car.Car.slot.Goals as goal

pub returns-clause-content : goal.returns-clause-content
returns-clause-content c =
    c.content_of.ensures ∙ sym (get_slots c.self.inside.entries.items c.args.slot) ∙ ap (λ (it : CarAndSpare). get it.car.slots c.args.slot) c.self.view_is

pub returns-clause-small : goal.returns-clause-small
returns-clause-small c =
    lent_within _ _ _ _ _ _ _ c.self.invariant c.args.slot _ c.content_of.ensures
