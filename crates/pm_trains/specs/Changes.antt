-- Which train is the oldest and which the youngest, and what each train has and where each car is found after a change.
use Rattle.std.specs.Prelude.{◌≡◌, ℕ, ◌+◌, ◌≤◌, ◌==◌, if◌then◌else◌, List, [], ◌∷◌, ◌++◌, drop, Option, Some, None, IsSomeAnd, IsTrue}
use Rattle.std.specs.Option.{option_map, option_and_then}
use Rattle.pm_trains.specs.Trains.{Train, Trains, cars_at, HasCar, is_among, train_of, youngest, appended, without_first, left_standing, rotated}

-- the car is one of those of the train of this number
abbrev pub StandsIn : List Train → ℕ → ℕ → Type 0
StandsIn ts car number = IsSomeAnd (cars_at ts number) (λ cars. IsTrue (is_among car cars))

-- no train that has a car is older than that of this number
abbrev pub NoneOlder : List Train → ℕ → Type 0
NoneOlder ts number = (n : ℕ) → HasCar ts n → number ≤ n

-- no train is younger than that of this number
abbrev pub NoneYounger : List Train → ℕ → Type 0
NoneYounger ts number = (n : ℕ) (cars : List ℕ) → cars_at ts n ≡ Some cars → n ≤ number

-- the trains after a new one was opened, which has this car
abbrev pub opened : Trains → ℕ → Trains
opened t car = record { trains = appended (youngest t.trains + 1) car (rotated t.trains); births = 0 }

-- the cars of a train, once this car was put at the end of that of this number
abbrev pub cars_with : List Train → ℕ → ℕ → ℕ → Option (List ℕ)
cars_with ts number car n = if n == number then option_map (λ cars. cars ++ car ∷ []) (cars_at ts n) else cars_at ts n

-- the cars of a train, once the first was taken out of that of this number
abbrev pub cars_without_first : List Train → ℕ → ℕ → Option (List ℕ)
cars_without_first ts number n =
    if n == number then option_and_then (λ cars. left_standing (n == youngest ts) (drop 1 cars)) (cars_at ts n) else cars_at ts n

-- the cars of a train, once a new one was opened
abbrev pub cars_with_open : List Train → ℕ → Option (List ℕ)
cars_with_open ts n = if n == youngest ts + 1 then Some [] else cars_at ts n

-- once this car was put into the train of this number, it is found there, and each other car where it was
abbrev pub HomesWith : List Train → ℕ → ℕ → Type 0
HomesWith ts number car = (c : ℕ) → train_of (appended number car ts) c ≡ (if c == car then Some number else train_of ts c)

-- once this first car was taken out of the train of this number, it is found nowhere, and each other car where it was
abbrev pub HomesWithout : List Train → ℕ → ℕ → Type 0
HomesWithout ts number car = (c : ℕ) → train_of (without_first number ts) c ≡ (if c == car then None else train_of ts c)

-- this car is noted with this train, and each other car as before
abbrev pub Notes : (ℕ → Option ℕ) → (ℕ → Option ℕ) → ℕ → ℕ → Type 0
Notes old new car number = (c : ℕ) → new c ≡ (if c == car then Some number else old c)
