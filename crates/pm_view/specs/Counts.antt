-- How many objects stand, and in which train one lies.
use Rattle.std.specs.Prelude.{◌≡◌, ℕ, false, cond, ◌+◌, List, [], ◌∷◌, nat_le, Option, Some, None}
use Rattle.std.specs.List.{sum_by}
use Rattle.std.specs.FinMap.{get}
use Rattle.pm_types.specs.declared.address.Addr.{Addr}
use Rattle.pm_cars.specs.Cars.{Car, live_count}
use Rattle.pm_trains.specs.Trains.{Train, train_of}
use Rattle.pm_view.specs.View.{SpaceView}
use Rattle.pm_view.specs.Reading.{is_aside, id_at}

-- how many objects a car has, none where it does not stand
abbrev pub live_in : Option Car → ℕ
live_in None = 0
live_in (Some car) = live_count car

-- how many objects stand in a car: those of a car that is set aside do not
abbrev pub standing_in : SpaceView → ℕ → ℕ
standing_in view car = cond (is_aside view car) 0 (live_in (get view.cars car))

-- how many objects stand in a train
abbrev pub standing_of : SpaceView → Train → ℕ
standing_of view train = sum_by (standing_in view) train.cars

-- how many objects stand
abbrev pub standing : SpaceView → ℕ
standing view = sum_by (standing_of view) view.trains.trains

-- how many objects stand in the trains of these that are numbered up to this one
abbrev pub old_in : SpaceView → ℕ → List Train → ℕ
old_in view youngest [] = 0
old_in view youngest (train ∷ trains) = cond (nat_le train.number youngest) (standing_of view train) 0 + old_in view youngest trains

-- how many objects stand in the trains that are numbered up to this one
abbrev pub old : SpaceView → ℕ → ℕ
old view youngest = old_in view youngest view.trains.trains

-- the object of this identity stands at an address
pub record IsStandingAt (view : SpaceView) (id : ℕ) (a : Addr) : Type 0 where
  pub kept : is_aside view a.car ≡ false
  pub here : id_at view a ≡ Some id

-- the object of this identity stands
abbrev pub IsStanding : SpaceView → ℕ → Type 0
IsStanding view id = (a : Addr) × IsStandingAt view id a

-- the place of an object that stands: the number of the train in which it lies
abbrev pub IsPlaced : SpaceView → ℕ → ℕ → Type 0
IsPlaced view id train = (a : Addr) × IsStandingAt view id a × (train_of view.trains.trains a.car ≡ Some train)
