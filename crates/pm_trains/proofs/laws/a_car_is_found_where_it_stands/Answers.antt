use Rattle.pm_trains.proofs.Found.{home_has, home_back}
use Rattle.pm_trains.proofs.laws.a_car_is_found_where_it_stands.Goals as goal

pub returns : goal.returns
returns c t car train sound = (home_has 0 car train t.trains sound.rising, home_back car train t.trains (sound.single car))
