use Rattle.pm_trains.proofs.Found.{oldest_least, oldest_none, none_oldest}
use Rattle.pm_trains.proofs.laws.the_oldest_is_the_least_with_a_car.Goals as goal

pub returns-clause-least : goal.returns-clause-least
returns-clause-least c t old sound is train has = oldest_least 0 old train t.trains sound.rising is has

pub returns-clause-none : goal.returns-clause-none
returns-clause-none c t = (oldest_none t.trains, none_oldest t.trains)
