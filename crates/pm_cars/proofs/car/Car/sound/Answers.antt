use Rattle.std.proofs.Common.{subst}
use Rattle.pm_cars.specs.Cars.{CarAndSpare, IsSoundCar}
use Rattle.pm_cars.proofs.Kept.{sound}
use Rattle.pm_cars.proofs.car.Car.sound.Goals as goal

pub returns : goal.returns
returns c = subst (λ (it : CarAndSpare). IsSoundCar it.car) c.self.view_is (sound _ _ _ _ _ _ _ c.self.invariant _)
