use Rattle.std.proofs.Common.{◌≡◌, ◌==◌, false, arith}
use Rattle.pm_trains.proofs.Order.{differ}
use Rattle.pm_value_cases.proofs.containers.trains.filled.Goals as goal

pub loop-car-preserved : goal.loop-car-preserved
loop-car-preserved c q above =
    let car = c.loop-car.car in
    let apart : (car == q) ≡ false = differ car q (λ same. omega (arith, above, same)) in
    c.in_ok-put.ensures q apart (c.loop-car.invariant q (omega (arith, above)))
