use Rattle.std.proofs.Common.{arith, ap}
use Rattle.pm_cars.specs.Cars.{CarAndSpare, moved_count}
use Rattle.pm_cars.proofs.Counts.{few, live_or_moved}
use Rattle.pm_cars.proofs.car.Car.moved.Goals as goal

pub overflow_cast-result : goal.overflow_cast-result
overflow_cast-result c = omega (arith, few _ _ _ _ _ _ _ c.self.invariant)

pub overflow_sub-result : goal.overflow_sub-result
overflow_sub-result c = omega (arith, live_or_moved _ _ _ _ _ _ _ c.self.invariant)

pub returns : goal.returns
returns c = omega (arith, live_or_moved _ _ _ _ _ _ _ c.self.invariant, ap (λ (it : CarAndSpare). moved_count it.car) c.self.view_is)
