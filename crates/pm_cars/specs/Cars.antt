-- A car as its users see it: a number, what its slots hold, and the next slot; and beside it the births
-- for which memory was taken.
use Rattle.std.specs.Prelude.{◌≡◌, ℕ, ◌+◌, ◌*◌, ◌<◌, ◌≤◌, List, length, ◌++◌, take, drop, slice_set, Option, Some, None, IsSome, IsSomeAnd, refl}
use Rattle.std.specs.List.{sum_by}
use Rattle.std.specs.Ordering.{nat_cmp}
use Rattle.std.specs.FinMap.{FinMap, get, insert, remove, empty, values, code}
use Rattle.std.specs.Coded.{Coded, code_by, coded×, coded_ℕ}
use Rattle.pm_types.specs.declared.address.Addr.{Addr}
use Rattle.pm_types.specs.declared.object.Object.{Object}
use Rattle.pm_types.specs.declared.object.Slot.{Slot}
use Rattle.pm_types.specs.declared.object.Slot.TheVariants.{Live, Moved}
use Rattle.pm_types.specs.contracts.object.Slot as slot
use Rattle.pm_cars.specs.declared.look.Look.{Look}
use Rattle.pm_cars.specs.declared.look.Look.TheVariants as looks
use Rattle.pm_types.specs.declared.limits.TheConstants.{CAR_BYTES, CAR_HEAD_BYTES, LAST_SLOT, OBJECT_HEAD_BYTES, FIELD_BYTES, MOVED_BYTES}

-- what each Live or Moved slot holds; a slot below the next one that is in no entry is Gone
abbrev pub Slots : Type 0
Slots = FinMap nat_cmp Slot

-- a car: its number, its slots, and the next slot
pub record Car : Type 0 where
  pub number : ℕ
  pub slots : Slots
  pub next : ℕ

-- a car, and how many births in it no longer need memory
pub record CarAndSpare : Type 0 where
  pub car : Car
  pub spare : ℕ

-- a car is stored as the tuple of its parts
abbrev pub car_code : Coded Car
car_code =
    code_by (ℕ × (Slots × ℕ)) (coded× coded_ℕ (coded× (code coded_ℕ slot.the_row.coded) coded_ℕ))
    (λ c. (c.number, (c.slots, c.next))) (λ p. record { number = p.0; slots = p.1.0; next = p.1.1 }) (λ _. refl)

-- a car with its spare births is stored as the pair of both
abbrev pub car_and_spare_code : Coded CarAndSpare
car_and_spare_code = code_by (Car × ℕ) (coded× car_code coded_ℕ) (λ c. (c.car, c.spare)) (λ p. record { car = p.0; spare = p.1 }) (λ _. refl)

-- ---- room and counts

-- the sum, over all slots, of what each counts for
abbrev pub total : (Slot → ℕ) → Slots → ℕ
total f slots = sum_by f (values slots)

-- the room of an object, in bytes: a head, each field, and the bytes
abbrev pub object_room : Object → ℕ
object_room object = OBJECT_HEAD_BYTES + FIELD_BYTES * length object.fields + length object.bytes

-- the room of a slot that is Live or Moved
abbrev pub slot_room : Slot → ℕ
slot_room (Live object) = object_room object
slot_room (Moved to) = MOVED_BYTES

-- the room that is used: the head of the car, and its slots
abbrev pub used : Car → ℕ
used car = CAR_HEAD_BYTES + total slot_room car.slots

-- one for a Live slot
abbrev pub one_live : Slot → ℕ
one_live (Live object) = 1
one_live (Moved to) = 0

-- one for a Moved slot
abbrev pub one_moved : Slot → ℕ
one_moved (Live object) = 0
one_moved (Moved to) = 1

-- how many slots are Live
abbrev pub live_count : Car → ℕ
live_count car = total one_live car.slots

-- how many slots are Moved
abbrev pub moved_count : Car → ℕ
moved_count car = total one_moved car.slots

-- an object of this room fits the car at this slot: its room is left, no slot is given twice, and there is such a slot
abbrev pub FitsAt : Car → ℕ → ℕ → Type 0
FitsAt car slot room = (used car + room ≤ CAR_BYTES) × (car.next ≤ slot) × (slot ≤ LAST_SLOT)

-- an object of this room fits the car: its room is left, and a slot number is
abbrev pub Fits : Car → ℕ → Type 0
Fits car room = (used car + room ≤ CAR_BYTES) × (car.next ≤ LAST_SLOT)

-- what is true of every car
pub record IsSoundCar (car : Car) : Type 0 where
  pub room : used car ≤ CAR_BYTES
  pub next : car.next ≤ LAST_SLOT + 1
  pub below : (slot : ℕ) → car.next ≤ slot → get car.slots slot ≡ None

-- ---- what stands in a slot

-- what a slot looks like
abbrev pub look_of : Option Slot → Look
look_of None = looks.Gone
look_of (Some (Live object)) = looks.Live
look_of (Some (Moved to)) = looks.Moved to

-- the object of a Live slot
abbrev pub object_of : Option Slot → Option Object
object_of None = None
object_of (Some (Live object)) = Some object
object_of (Some (Moved to)) = None

-- the object at a slot of the car, where the slot is Live
abbrev pub object_at : Car → ℕ → Option Object
object_at car slot = object_of (get car.slots slot)

-- the slot is Live
abbrev pub IsLive : Car → ℕ → Type 0
IsLive car slot = IsSome (object_at car slot)

-- the slot is Live, and its object has a field of this index
abbrev pub HasField : Car → ℕ → ℕ → Type 0
HasField car slot index = IsSomeAnd (object_at car slot) (λ object. index < length object.fields)

-- the slot is Live, and its object has so many bytes from this place on
abbrev pub HasBytes : Car → ℕ → ℕ → ℕ → Type 0
HasBytes car slot at count = IsSomeAnd (object_at car slot) (λ object. at + count ≤ length object.bytes)

-- it is the least slot that is Live, or none where none is
abbrev pub IsLowestLive : Car → Option ℕ → Type 0
IsLowestLive car None = (slot : ℕ) → object_at car slot ≡ None
IsLowestLive car (Some low) = IsLive car low × ((slot : ℕ) → IsLive car slot → low ≤ slot)

-- ---- cars and objects after a change

-- a car with no slot
abbrev pub new_car : ℕ → Car
new_car number = record { number = number; slots = empty; next = 0 }

-- the car with this object in this slot, after which the next slot comes
abbrev pub placed : Car → ℕ → Object → Car
placed car slot object = record car { slots = insert car.slots slot (Live object); next = slot + 1 }

-- the car after the birth of this object, which takes the next slot
abbrev pub with_birth : Car → Object → Car
with_birth car object = placed car car.next object

-- the car with this next slot
abbrev pub with_next : Car → ℕ → Car
with_next car slot = record car { next = slot }

-- the car whose slot holds this, and every other slot what it held
abbrev pub with_slot : Car → ℕ → Slot → Car
with_slot car slot content = record car { slots = insert car.slots slot content }

-- the same with its spare births
abbrev pub told : CarAndSpare → ℕ → Slot → CarAndSpare
told it slot content = record it { car = with_slot it.car slot content }

-- the object of the slot was changed so, and all else is as it was
abbrev pub IsEdited : CarAndSpare → CarAndSpare → ℕ → (Object → Object) → Type 0
IsEdited old new slot change = IsSomeAnd (object_at old.car slot) (λ object. new ≡ told old slot (Live (change object)))

-- the car whose slot is Gone, and every other slot is as it was
abbrev pub without_slot : Car → ℕ → Car
without_slot car slot = record car { slots = remove car.slots slot }

-- the object with this value in the field, and all else as it was
abbrev pub with_field : Object → ℕ → Option Addr → Object
with_field object index value = record object { fields = slice_set object.fields index value }

-- the object with these bytes from this place on, and all else as it was
abbrev pub with_bytes : Object → ℕ → List ℕ → Object
with_bytes object at from = record object { bytes = take at object.bytes ++ (from ++ drop (at + length from) object.bytes) }
