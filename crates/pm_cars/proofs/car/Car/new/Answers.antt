use Rattle.pm_cars.proofs.Kept.{kept_new}
use Rattle.pm_cars.proofs.car.Car.new.Goals as goal

pub invariant_of-result : goal.invariant_of-result
invariant_of-result c = rw c.new.ensures (kept_new _)
