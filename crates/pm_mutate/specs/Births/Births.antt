-- Where an object is born.
use Rattle.std.specs.Prelude.{◌≤◌, ℕ, Option}
use Rattle.pm_trains.specs.Trains.{Trains, HasCar, youngest}
use Rattle.pm_trains.specs.declared.trains.TheConstants.{BIRTHS}
use Rattle.pm_view.specs.View.{SpaceView}
use Rattle.pm_view.specs.Rows.{tail_for}
use Rattle.pm_space.specs.Places.{IsOpened}

-- the tail of the open train, where an object of this room fits it
abbrev pub open_tail : SpaceView → ℕ → Option ℕ
open_tail view room = tail_for view (youngest view.trains.trains) room

-- This is the space with the car in which an object of this room is born: the tail of the open train where it has
-- room, and else a new car under the least number from 1 on that no car has.
abbrev pub IsOpenedFor : SpaceView → ℕ → SpaceView → ℕ → Type 0
IsOpenedFor view room after car = IsOpened view (youngest view.trains.trains) (open_tail view room) after car

-- where 1,024 objects were born in the open train it has a car
abbrev pub HasCarWhereFull : Trains → Type 0
HasCarWhereFull it = BIRTHS ≤ it.births → HasCar it.trains (youngest it.trains)
