-- What the examples speak of.
use Rattle.std.specs.Prelude.{ℕ, Bool, false, ◌==◌, ◌||◌, List, [], ◌∷◌, Some, None}
use Rattle.pm_types.specs.declared.address.Addr.{Addr}
use Rattle.pm_types.specs.declared.source.RefSource.{RefSource}
use Rattle.pm_types.specs.declared.source.Change.{Change}
use Rattle.pm_trains.specs.Trains.{Train}
use Rattle.pm_view.specs.View.{SpaceView}
use Rattle.pm_view.specs.Rows.{new_space}

-- the address of this slot of this car
abbrev pub at : ℕ → ℕ → Addr
at car slot = record { car = car; slot = slot }

-- no car is set aside
abbrev pub no_car : ℕ → Bool
no_car car = false

-- cars 1 and 2 are set aside
abbrev pub first_two : ℕ → Bool
first_two car = (car == 1) || (car == 2)

-- this car is told that the source names the slot
abbrev pub put : ℕ → RefSource → ℕ → ℕ × Change
put car source slot = (car, record { source = source; slot = Some slot })

-- this car is told that the source names no slot of it
abbrev pub take_out : ℕ → RefSource → ℕ × Change
take_out car source = (car, record { source = source; slot = None })

-- train 1 has lost its first car, and the number of that car was used again in train 2
abbrev pub reused : List Train
reused = record { number = 1; cars = 2 ∷ 3 ∷ [] } ∷ record { number = 2; cars = 1 ∷ [] } ∷ []

-- a new space in whose open train so many objects were born
abbrev pub with_births : ℕ → SpaceView
with_births births = record new_space { trains = record new_space.trains { births = births } }
