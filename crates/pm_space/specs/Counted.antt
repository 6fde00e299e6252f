-- What counting the objects of cars asks.
use Rattle.std.specs.Prelude.{ℕ, ◌<◌, List, length, get_or, IsSome}
use Rattle.pm_trains.specs.Trains.{Train, train_of}

-- each of these cars is in a train
abbrev pub AreAllHoused : List Train → List ℕ → Type 0
AreAllHoused trains cars = (k : ℕ) → k < length cars → IsSome (train_of trains (get_or cars k 0))
