use Rattle.pm_save.proofs.ListLemmas.{housed_in}
use Rattle.pm_save.proofs.listed_cars.plan_train.Goals as goal

pub plan_car-requires-clause-train : goal.plan_car-requires-clause-train
plan_car-requires-clause-train g c =
    housed_in c.args.parts.now.trains.trains c.args.train c.cars-numbers.result.now c.loop-number.number-index c.cars-numbers.ensures
    (λ car. c.a_car_is_found_where_it_stands.ensures c.args.parts.now.trains car c.args.train c.sound.ensures) c.loop-number-test.true
