-- Where an object is put: a car in which it fits, or a new one.
use Rattle.std.specs.Prelude.{◌≡◌, ℕ, Option, Some, None, IsSomeAnd}
use Rattle.std.specs.FinMap.{get}
use Rattle.pm_types.specs.declared.object.Object.{Object}
use Rattle.pm_cars.specs.Cars.{Car, Fits, with_birth}
use Rattle.pm_view.specs.View.{Cars, SpaceView}
use Rattle.pm_view.specs.Rows.{put_car, with_car, IsVacant}

-- an object of this room fits the car
abbrev pub FitsIn : Cars → ℕ → ℕ → Type 0
FitsIn cars car room = IsSomeAnd (get cars car) (λ (it : Car). Fits it room)

-- an object is in the next slot of this car
abbrev pub with_object_in : Cars → ℕ → Object → Cars
with_object_in cars car object = put_car cars car (get cars car) (λ it. with_birth it object)

-- the space with a new car of this number at the end of a train, where no car is given
abbrev pub with_place : SpaceView → ℕ → Option ℕ → ℕ → SpaceView
with_place view train None number = with_car view train number
with_place view train (Some car) number = view

-- the car that is given, or else the new one
abbrev pub place_of : Option ℕ → ℕ → ℕ
place_of None number = number
place_of (Some car) number = car

-- this is the space with the car that is given, or else with a new car at the end of a train, under the least number
-- from 1 on that no car has
pub record IsOpened (view : SpaceView) (train : ℕ) (tail : Option ℕ) (after : SpaceView) (car : ℕ) : Type 0 where
  pub number : ℕ
  pub vacant : IsVacant view.cars number
  pub space : after ≡ with_place view train tail number
  pub place : car ≡ place_of tail number
