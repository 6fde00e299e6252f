-- Changes that name a slot whose object moved away.
use Rattle.std.specs.Prelude.{ℕ, Bool, false, List, [], ◌∷◌, Option, Some, None}
use Rattle.pm_types.specs.declared.source.Change.{Change}
use Rattle.pm_view.specs.View.{SpaceView}
use Rattle.pm_view.specs.Reading.{slot_at}
use Rattle.pm_view.specs.Events.{went, has_gone}

-- a slot of the car is given, and its object moved away
abbrev pub names_gone : SpaceView → ℕ → Option ℕ → Bool
names_gone view car None = false
names_gone view car (Some slot) = has_gone (went (slot_at view.cars (record { car = car; slot = slot })))

-- the front one of these changes of a car names such a slot
abbrev pub front_names_gone : SpaceView → ℕ → List Change → Bool
front_names_gone view car [] = false
front_names_gone view car (change ∷ changes) = names_gone view car change.slot
