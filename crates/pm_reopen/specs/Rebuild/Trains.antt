-- What becomes of the trains while cars are put into them one after another.
use Rattle.std.specs.Prelude.{◌≡◌, ℕ, ◌==◌, Bool, true, false, if◌then◌else◌, List, [], ◌∷◌, Option, Some, None}
use Rattle.std.specs.List.{AllByRecursion}
use Rattle.pm_trains.specs.Trains.{Train, Trains, train_of, youngest, appended, rotated}
use Rattle.pm_trains.specs.Changes.{opened}

-- a car goes into the train of the one before it, or it is the first
abbrev pub goes_on : Option ℕ → ℕ → Bool
goes_on None train = true
goes_on (Some last) train = last == train

-- the trains with one car more, given with the number of its train, behind one of this train: it goes into the youngest,
-- or a new one
abbrev pub with_kept : Option ℕ → ℕ × ℕ → Trains → Trains
with_kept last kept t =
    if goes_on last kept.0 then record t { trains = appended (youngest t.trains) kept.1 t.trains } else opened t kept.1

-- the trains once all cars are in: where one is, an open train without a car follows
abbrev pub closed : Option ℕ → Trains → Trains
closed None t = t
closed (Some last) t = record { trains = rotated t.trains; births = 0 }

-- the trains with these cars more, in order
abbrev pub with_all_kept : Option ℕ → List (ℕ × ℕ) → Trains → Trains
with_all_kept last [] t = closed last t
with_all_kept last (kept ∷ others) t = with_all_kept (Some kept.0) others (with_kept last kept t)

-- no two of the cars have one number
abbrev pub HaveOwnNumbers : List (ℕ × ℕ) → Type 0
HaveOwnNumbers [] = Unit {0}
HaveOwnNumbers (kept ∷ others) = AllByRecursion (λ (other : ℕ × ℕ). (other.1 == kept.1) ≡ false) others × HaveOwnNumbers others

-- none of the cars is in a train
abbrev pub AreNew : List Train → List (ℕ × ℕ) → Type 0
AreNew ts kept = AllByRecursion (λ (one : ℕ × ℕ). train_of ts one.1 ≡ None) kept
