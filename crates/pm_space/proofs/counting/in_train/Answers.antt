use Rattle.pm_space.proofs.CountingUp.{all_housed}
use Rattle.pm_space.proofs.counting.in_train.Goals as goal

pub in_cars-requires : goal.in_cars-requires
in_cars-requires g c = all_housed c.args.parts.now.trains.trains c.args.train c.cars.result.now c.cars.ensures (λ car. c.a_car_is_found_where_it_stands.ensures c.args.parts.now.trains car c.args.train c.sound.ensures)
