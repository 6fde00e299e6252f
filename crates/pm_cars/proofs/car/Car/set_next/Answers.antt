use Rattle.std.proofs.Common.{◌≤◌, sym, subst}
use Rattle.pm_cars.specs.Cars.{CarAndSpare}
use Rattle.pm_cars.proofs.Kept.{kept_next}
use Rattle.pm_cars.proofs.car.Car.set_next.Goals as goal

pub invariant_of-self : goal.invariant_of-self
invariant_of-self c =
    kept_next _ _ _ _ _ _ _ c.self.invariant c.args.slot (subst (λ (it : CarAndSpare). it.car.next ≤ c.args.slot) (sym c.self.view_is) c.requires.upward) c.requires.last
