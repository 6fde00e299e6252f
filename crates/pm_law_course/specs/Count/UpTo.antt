-- Which cars are counted.
use Rattle.std.specs.Prelude.{ℕ, cond, nat_le, List, [], ◌∷◌, ◌++◌}
use Rattle.pm_trains.specs.Trains.{Train}

-- the cars of the trains that are numbered up to this one, the oldest train first
abbrev pub cars_up_to : ℕ → List Train → List ℕ
cars_up_to number [] = []
cars_up_to number (train ∷ trains) = cond (nat_le train.number number) (train.cars ++ cars_up_to number trains) (cars_up_to number trains)
