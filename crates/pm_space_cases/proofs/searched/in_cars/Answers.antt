use Rattle.std.proofs.Common.{arith}
use Rattle.pm_space.specs.Shown.{view}
use Rattle.pm_space_cases.proofs.Searching.{all_among}
use Rattle.pm_space_cases.proofs.searched.in_cars.Goals as goal

pub returns : goal.returns
returns g c = λ same. let low = c.loop-car-test.false in all_among (view c.args.parts.now) c.args.id c.args.cars.now (λ k lt. c.loop-car.invariant k (omega (arith, lt, low)))
