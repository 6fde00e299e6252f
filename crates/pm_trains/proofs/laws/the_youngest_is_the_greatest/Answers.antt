use Rattle.pm_trains.proofs.Found.{last_greatest}
use Rattle.pm_trains.proofs.laws.the_youngest_is_the_greatest.Goals as goal

pub returns : goal.returns
returns c t sound train cars is = last_greatest 0 train cars t.trains sound.rising is
