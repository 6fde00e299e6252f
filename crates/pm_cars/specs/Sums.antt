-- What becomes of a sum over the slots of a car, as that of their room, or of one for each that is Live.
use Rattle.std.specs.Prelude.{◌≡◌, ℕ, ◌+◌, ◌≤◌, Some}
use Rattle.pm_types.specs.declared.object.Object.{Object}
use Rattle.pm_types.specs.declared.object.Slot.{Slot}
use Rattle.pm_types.specs.declared.object.Slot.TheVariants.{Live}
use Rattle.pm_cars.specs.Cars.{Car, IsSoundCar, total, object_at, placed, with_slot, without_slot}

-- an object that is placed adds what its slot counts for
abbrev pub CountsPlaced : (Slot → ℕ) → Type 0
CountsPlaced f =
    (car : Car) (slot : ℕ) (object : Object) → IsSoundCar car → car.next ≤ slot
    → total f (placed car slot object).slots ≡ total f car.slots + f (Live object)

-- a Live slot that is told something else counts for that, and no longer for its object
abbrev pub CountsTold : (Slot → ℕ) → Type 0
CountsTold f =
    (car : Car) (slot : ℕ) (object : Object) (content : Slot) → object_at car slot ≡ Some object
    → total f (with_slot car slot content).slots + f (Live object) ≡ total f car.slots + f content

-- a Live slot that is dropped counts for nothing
abbrev pub CountsDropped : (Slot → ℕ) → Type 0
CountsDropped f =
    (car : Car) (slot : ℕ) (object : Object) → object_at car slot ≡ Some object
    → total f (without_slot car slot).slots + f (Live object) ≡ total f car.slots
