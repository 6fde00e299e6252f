-- Trains of cars, and what becomes of them. Cars are numbers here; what lies in a car is not known.
use Rattle.std.specs.Prelude.{ℕ, ◌+◌, ◌-◌, ◌<◌, ◌==◌, ◌&&◌, nat_lt, if◌then◌else◌, Bool, List, [], ◌∷◌, ◌++◌, length, drop, slice_get, Option, Some, None, IsSomeAnd, refl}
use Rattle.std.specs.Option.{option_and_then}
use Rattle.std.specs.List.{list_any}
use Rattle.std.specs.Coded.{Coded, code_by, coded×, coded_ℕ, coded_list}

-- a train: its number, and its cars, the first car first
pub record Train : Type 0 where
  pub number : ℕ
  pub cars : List ℕ

-- the trains, the oldest first; the last is the open train, and so many objects were born in it
pub record Trains : Type 0 where
  pub trains : List Train
  pub births : ℕ

-- a train is stored as the pair of its parts
abbrev pub train_code : Coded Train
train_code = code_by (ℕ × List ℕ) (coded× coded_ℕ (coded_list coded_ℕ)) (λ t. (t.number, t.cars)) (λ p. record { number = p.0; cars = p.1 }) (λ _. refl)

-- trains are stored as the pair of their parts
abbrev pub trains_code : Coded Trains
trains_code = code_by (List Train × ℕ) (coded× (coded_list train_code) coded_ℕ) (λ t. (t.trains, t.births)) (λ p. record { trains = p.0; births = p.1 }) (λ _. refl)

-- a train of this number that has no car
abbrev pub empty_train : ℕ → Train
empty_train number = record { number = number; cars = [] }

-- the trains of a store in which no object was made: train 1 is open
abbrev pub first_trains : Trains
first_trains = record { trains = empty_train 1 ∷ []; births = 0 }

-- the cars of the train of this number, or none where no such train stands
abbrev pub cars_at : List Train → ℕ → Option (List ℕ)
cars_at [] number = None
cars_at (t ∷ ts) number = if t.number == number then Some t.cars else cars_at ts number

-- the train of this number stands and has a car
abbrev pub HasCar : List Train → ℕ → Type 0
HasCar ts number = IsSomeAnd (cars_at ts number) (λ cars. 0 < length cars)

-- the first car of the train of this number, or none where it has none or does not stand
abbrev pub first_car : List Train → ℕ → Option ℕ
first_car ts number = option_and_then (λ cars. slice_get cars 0) (cars_at ts number)

-- the last car of the train of this number, or none where it has none or does not stand
abbrev pub tail : List Train → ℕ → Option ℕ
tail ts number = option_and_then (λ cars. slice_get cars (length cars - 1)) (cars_at ts number)

-- this car is one of these
abbrev pub is_among : ℕ → List ℕ → Bool
is_among car cars = list_any (λ c. c == car) cars

-- the number of the train in which this car stands, or none where it stands in no train
abbrev pub train_of : List Train → ℕ → Option ℕ
train_of [] car = None
train_of (t ∷ ts) car = if is_among car t.cars then Some t.number else train_of ts car

-- the number of the oldest train that has a car
abbrev pub oldest : List Train → Option ℕ
oldest [] = None
oldest (t ∷ ts) = if length t.cars == 0 then oldest ts else Some t.number

-- the number of the last train, or this one where there is no train
abbrev pub last_number : ℕ → List Train → ℕ
last_number number [] = number
last_number number (t ∷ ts) = last_number t.number ts

-- the number of the youngest train, which is the open one
abbrev pub youngest : List Train → ℕ
youngest ts = last_number 0 ts

-- the trains where that of this number has other cars
abbrev pub with_cars : ℕ → (List ℕ → List ℕ) → List Train → List Train
with_cars number change [] = []
with_cars number change (t ∷ ts) = if t.number == number then record t { cars = change t.cars } ∷ ts else t ∷ with_cars number change ts

-- the trains where this car is the last of the train of this number
abbrev pub appended : ℕ → ℕ → List Train → List Train
appended number car ts = with_cars number (λ cars. cars ++ car ∷ []) ts

-- the trains without those that have no car, but for the youngest, which stays
abbrev pub without_empty : List Train → List Train
without_empty [] = []
without_empty (t ∷ ts) = if nat_lt 0 (length ts) && (length t.cars == 0) then without_empty ts else t ∷ without_empty ts

-- the trains where that of this number has lost its first car; one left empty goes unless it is the youngest
abbrev pub without_first : ℕ → List Train → List Train
without_first number ts = without_empty (with_cars number (λ cars. drop 1 cars) ts)

-- what is left of a train that has these cars now: one without a car stands only if it is the youngest
abbrev pub left_standing : Bool → List ℕ → Option (List ℕ)
left_standing is_youngest [] = if is_youngest then Some [] else None
left_standing is_youngest (car ∷ cars) = Some (car ∷ cars)

-- the trains with a new open train, which has no car
abbrev pub rotated : List Train → List Train
rotated ts = ts ++ empty_train (youngest ts + 1) ∷ []
