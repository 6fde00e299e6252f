-- What holds of the trains at every moment.
use Rattle.std.specs.Prelude.{ℕ, ◌<◌, ◌≤◌, ◌==◌, List, [], ◌∷◌, ◌++◌, length}
use Rattle.std.specs.List.{count_by}
use Rattle.pm_trains.specs.Trains.{Train, Trains}
use Rattle.pm_trains.specs.declared.trains.TheConstants.{BIRTHS}

-- the numbers rise, and the first is over this one
abbrev pub Rise : ℕ → List Train → Type 0
Rise low [] = Unit {0}
Rise low (t ∷ ts) = (low < t.number) × Rise t.number ts

-- every train but the youngest has a car
abbrev pub Filled : List Train → Type 0
Filled [] = Unit {0}
Filled (t ∷ ts) = (0 < length ts → 0 < length t.cars) × Filled ts

-- the cars of all trains, the oldest train first
abbrev pub all_cars : List Train → List ℕ
all_cars [] = []
all_cars (t ∷ ts) = t.cars ++ all_cars ts

-- at how many places of all trains this car stands
abbrev pub places : ℕ → List Train → ℕ
places car ts = count_by (λ c. c == car) (all_cars ts)

-- Some train stands; numbers are over 0 and rise; every train but the youngest has a car; a car stands
-- at one place of one train at most; and at most 1,024 objects were born in the open train.
pub record AreSoundTrains (t : Trains) : Type 0 where
  pub standing : 0 < length t.trains
  pub rising : Rise 0 t.trains
  pub filled : Filled t.trains
  pub single : (car : ℕ) → places car t.trains ≤ 1
  pub bounded : t.births ≤ BIRTHS
