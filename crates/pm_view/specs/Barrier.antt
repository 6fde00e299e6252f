-- The write barrier: which cars hear of a source that stores another address, and what they hear.
use Rattle.std.specs.Prelude.{ℕ, Bool, false, not, ◌&&◌, ◌==◌, if◌then◌else◌, List, [], ◌∷◌, ◌++◌, Option, Some, None}
use Rattle.std.specs.FinMap.{get, insert}
use Rattle.pm_types.specs.declared.address.Addr.{Addr}
use Rattle.pm_types.specs.declared.source.RefSource.{RefSource}
use Rattle.pm_types.specs.declared.source.Change.{Change}
use Rattle.pm_view.specs.Sources.{outside}
use Rattle.pm_view.specs.View.{Queues}

-- a car hears of a source that lies outside it, unless the car is set aside
abbrev pub heard : (ℕ → Bool) → RefSource → ℕ → Option ℕ → List (ℕ × Change)
heard aside source car slot = if outside car source && not (aside car) then (car, record { source = source; slot = slot }) ∷ [] else []

-- the car of the address that a source no longer stores hears that it names no slot there
abbrev pub left : (ℕ → Bool) → RefSource → Option Addr → List (ℕ × Change)
left aside source None = []
left aside source (Some old) = heard aside source old.car None

-- the car of the address that a source stores from now on hears which slot it names
abbrev pub entered : (ℕ → Bool) → RefSource → Option Addr → List (ℕ × Change)
entered aside source None = []
entered aside source (Some new) = heard aside source new.car (Some new.slot)

-- both addresses lie in one car
abbrev pub in_one_car : Option Addr → Option Addr → Bool
in_one_car None new = false
in_one_car (Some old) None = false
in_one_car (Some old) (Some new) = old.car == new.car

-- The changes that are queued where a source goes from an old address to a new one, each with its car: one where both
-- lie in one car, and else one for each that is not null.
abbrev pub barrier : (ℕ → Bool) → RefSource → Option Addr → Option Addr → List (ℕ × Change)
barrier aside source old new = if in_one_car old new then entered aside source new else left aside source old ++ entered aside source new

-- the queues where this one has a further change at its end; a car that does not stand hears nothing
abbrev pub pushed : Queues → ℕ → Option (List Change) → Change → Queues
pushed queues car None change = queues
pushed queues car (Some changes) change = insert queues car (changes ++ change ∷ [])

-- the queues after these changes, each at the end of its car's queue
abbrev pub told : Queues → List (ℕ × Change) → Queues
told queues [] = queues
told queues (change ∷ changes) = told (pushed queues change.0 (get queues change.0) change.1) changes

-- the changes of a list that one car is told
abbrev pub news : ℕ → List (ℕ × Change) → List Change
news car [] = []
news car (change ∷ changes) = if change.0 == car then change.1 ∷ news car changes else news car changes
