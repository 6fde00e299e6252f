use Rattle.std.proofs.Common.{drop, ◌∙◌}
use Rattle.pm_trains.specs.Trains.{with_cars}
use Rattle.pm_trains.proofs.Numbers.{rise_changed}
use Rattle.pm_trains.proofs.Found.{home_first, cars_removed, last_emptied, last_changed}
use Rattle.pm_trains.proofs.laws.a_removed_car_was_the_first.Goals as goal

pub returns-clause-cars : goal.returns-clause-cars
returns-clause-cars c t train other sound = cars_removed t.trains train other sound.rising (rise_changed 0 train (λ cars. drop 1 cars) t.trains sound.rising) sound.filled

pub returns-clause-youngest : goal.returns-clause-youngest
returns-clause-youngest c t train = last_emptied 0 (with_cars train (λ cars. drop 1 cars) t.trains) ∙ last_changed 0 train (λ cars. drop 1 cars) t.trains

pub returns-clause-home : goal.returns-clause-home
returns-clause-home c t train car sound is other = home_first t.trains train car (sound.single car) is other
