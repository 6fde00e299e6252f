use Rattle.std.proofs.Common.{None, sym, subst}
use Rattle.pm_cars.specs.Cars.{CarAndSpare, IsLowestLive}
use Rattle.pm_cars.proofs.Counts.{none_is_live}
use Rattle.pm_cars.proofs.car.Car.live.Goals as goal

pub returns-clause-none : goal.returns-clause-none
returns-clause-none c =
    let none = none_is_live _ _ _ _ _ _ _ c.self.invariant c.self.inside.number in (
      λ is. subst (λ (it : CarAndSpare). IsLowestLive it.car None) c.self.view_is (none.0 is),
      λ lowest. none.1 (subst (λ (it : CarAndSpare). IsLowestLive it.car None) (sym c.self.view_is) lowest),
    )
