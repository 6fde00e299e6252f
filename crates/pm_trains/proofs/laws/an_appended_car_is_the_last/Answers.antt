use Rattle.std.proofs.Common.{[], ◌∷◌, ◌++◌}
use Rattle.pm_trains.proofs.Cars.{home_appended}
use Rattle.pm_trains.proofs.Found.{cars_changed, last_changed}
use Rattle.pm_trains.proofs.laws.an_appended_car_is_the_last.Goals as goal

pub returns-clause-cars : goal.returns-clause-cars
returns-clause-cars c ts train car other = cars_changed train other (λ cars. cars ++ car ∷ []) ts

pub returns-clause-youngest : goal.returns-clause-youngest
returns-clause-youngest c ts train car = last_changed 0 train (λ cars. cars ++ car ∷ []) ts

pub returns-clause-home : goal.returns-clause-home
returns-clause-home c ts train car there none other = home_appended train car ts there none other
