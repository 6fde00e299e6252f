use Rattle.std.proofs.Common.{ap, arith}
use Rattle.pm_cars.specs.Cars.{used}
use Rattle.pm_reopen.proofs.CarLaws.{new_used}
use Rattle.pm_reopen.proofs.opened_car.open_car.Goals as goal

pub open_slots-requires-clause-fits : goal.open_slots-requires-clause-fits
open_slots-requires-clause-fits c =
    let new = ap used c.in_ok-car.ensures in
    let empty = new_used c.args.image.number in
    let fits = c.requires.fits in
    omega (arith, new, empty, fits)
