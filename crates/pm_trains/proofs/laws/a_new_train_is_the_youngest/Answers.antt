use Rattle.std.proofs.Common.{◌+◌, arith}
use Rattle.pm_trains.specs.Trains.{youngest}
use Rattle.pm_trains.proofs.Cars.{home_rotated}
use Rattle.pm_trains.proofs.Found.{cars_rotated, last_pushed}
use Rattle.pm_trains.proofs.laws.a_new_train_is_the_youngest.Goals as goal

pub returns-clause-cars : goal.returns-clause-cars
returns-clause-cars c t other sound = cars_rotated 0 (youngest t.trains + 1) other t.trains sound.rising (omega arith)

pub returns-clause-youngest : goal.returns-clause-youngest
returns-clause-youngest c ts = last_pushed 0 (youngest ts + 1) ts

pub returns-clause-home : goal.returns-clause-home
returns-clause-home c ts other = home_rotated other (youngest ts + 1) ts
