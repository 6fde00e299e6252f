-- An identity that no object of a space has.
use Rattle.std.specs.Prelude.{◌≡◌, ◌≢◌, ℕ, ◌<◌, true, List, Some}
use Rattle.pm_types.specs.declared.address.Addr.{Addr}
use Rattle.pm_trains.specs.Trains.{is_among, train_of}
use Rattle.pm_view.specs.View.{SpaceView}
use Rattle.pm_view.specs.Reading.{id_at}

-- no slot has the identity
abbrev pub Lacks : SpaceView → ℕ → Type 0
Lacks view id = (a : Addr) → id_at view a ≢ Some id

-- no slot of the car below this one has it
abbrev pub LacksBelow : SpaceView → ℕ → ℕ → ℕ → Type 0
LacksBelow view id car slots = (slot : ℕ) → slot < slots → id_at view (record { car = car; slot = slot }) ≢ Some id

-- no slot of the car has it
abbrev pub LacksIn : SpaceView → ℕ → ℕ → Type 0
LacksIn view id car = (slot : ℕ) → id_at view (record { car = car; slot = slot }) ≢ Some id

-- none of these cars has it
abbrev pub LackAll : SpaceView → ℕ → List ℕ → Type 0
LackAll view id cars = (car : ℕ) → is_among car cars ≡ true → LacksIn view id car

-- no car of the train has it
abbrev pub LacksInTrain : SpaceView → ℕ → ℕ → Type 0
LacksInTrain view id train = (car : ℕ) → train_of view.trains.trains car ≡ Some train → LacksIn view id car
