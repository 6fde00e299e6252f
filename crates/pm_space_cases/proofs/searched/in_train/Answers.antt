use Rattle.std.proofs.Common.{IsSomeAnd, subst}
use Rattle.std.specs.Prelude.{IsTrue}
use Rattle.pm_trains.specs.Trains.{is_among}
use Rattle.pm_space_cases.proofs.searched.in_train.Goals as goal

pub returns : goal.returns
returns g c = λ none car home.
    c.in_cars.ensures none car
    (subst (λ o. IsSomeAnd o (λ cars. IsTrue (is_among car cars))) c.cars.ensures ((c.a_car_is_found_where_it_stands.ensures c.args.parts.now.trains car c.args.train c.sound.ensures).0 home))
