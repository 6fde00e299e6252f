-- The rows that commands and events are made of. Each says the whole space after it; what it does not name stays.
use Rattle.std.specs.Prelude.{◌≡◌, ℕ, ◌+◌, ◌<◌, ◌≤◌, ◌==◌, ◌&&◌, Bool, false, cond, nat_le, if◌then◌else◌, List, [], length, Option, Some, None, IsSome, IsSomeAnd, option_and_then}
use Rattle.std.specs.FinMap.{get, insert, remove, empty}
use Rattle.pm_types.specs.Mapped.{mapped}
use Rattle.pm_types.specs.declared.limits.TheConstants.{FIELDS, OBJECT_BYTES, CAR_BYTES, LAST_SLOT}
use Rattle.pm_types.specs.declared.address.Addr.{Addr}
use Rattle.pm_types.specs.declared.object.Object.{Object}
use Rattle.pm_types.specs.declared.object.Slot.{Slot}
use Rattle.pm_types.specs.declared.object.Slot.TheVariants.{Live}
use Rattle.pm_types.specs.declared.source.RefSource.{RefSource}
use Rattle.pm_types.specs.declared.source.RefSource.TheVariants.{Root, Handle, Field}
use Rattle.pm_cars.specs.Cars.{Car, used, object_room, new_car, with_birth, with_slot, with_field, with_bytes}
use Rattle.pm_trains.specs.Trains.{first_trains, youngest, tail, rotated, appended}
use Rattle.pm_handles.specs.Handles.{with_register}
use Rattle.pm_view.specs.declared.phase.Phase.TheVariants.{Idle}
use Rattle.pm_view.specs.View.{Cars, SpaceView}
use Rattle.pm_view.specs.Reading.{object_at, field_of, stored, is_aside}
use Rattle.pm_view.specs.Barrier.{barrier, told}
use Rattle.pm_trains.specs.declared.trains.TheConstants.{BIRTHS}

-- ---- slots and objects

-- the cars where this one is another, which stay as they are where there is none
abbrev pub put_car : Cars → ℕ → Option Car → (Car → Car) → Cars
put_car cars number None change = cars
put_car cars number (Some car) change = insert cars number (change car)

-- the cars where the slot at this address holds this
abbrev pub with_slot_at : Cars → Addr → Slot → Cars
with_slot_at cars a content = put_car cars a.car (get cars a.car) (λ car. with_slot car a.slot content)

-- the cars where the object at this address is another, which stay as they are where there is none
abbrev pub put_object : Cars → Addr → Option Object → (Object → Object) → Cars
put_object cars a None change = cars
put_object cars a (Some object) change = with_slot_at cars a (Live (change object))

abbrev pub with_object : Cars → Addr → (Object → Object) → Cars
with_object cars a change = put_object cars a (object_at cars a) change

-- the object at an address has so many bytes from this place on
abbrev pub HasBytesAt : Cars → Addr → ℕ → ℕ → Type 0
HasBytesAt cars a at count = IsSomeAnd (object_at cars a) (λ (object : Object). at + count ≤ length object.bytes)

-- bytes are changed: those of the object at this address, from this place on
abbrev pub with_bytes_at : SpaceView → Addr → ℕ → List ℕ → SpaceView
with_bytes_at view a at bytes = record view { cars = with_object view.cars a (λ object. with_bytes object at bytes) }

-- ---- a source is set

-- a name's number and address, where this number has another address
abbrev pub readdressed : ℕ → Addr → ℕ × Addr → ℕ × Addr
readdressed number a bound = (bound.0, cond (bound.0 == number) a bound.1)

-- the source stores this address, and nobody heard of it; a root is never null
abbrev pub with_stored : SpaceView → RefSource → Option Addr → SpaceView
with_stored view (Root number) None = view
with_stored view (Root number) (Some a) = record view { roots = mapped (readdressed number a) view.roots }
with_stored view (Handle client register) to = record view { registers = with_register view.registers (client, register) to }
with_stored view (Field a index) to = record view { cars = with_object view.cars a (λ object. with_field object index to) }

-- what a source may be set to: a root is never null
abbrev pub HasValue : RefSource → Option Addr → Type 0
HasValue (Root number) to = IsSome to
HasValue (Handle client register) to = Unit {0}
HasValue (Field a index) to = Unit {0}

-- the cars that hear of a source that goes from one address to another have heard of it
abbrev pub with_news : SpaceView → RefSource → Option Addr → Option Addr → SpaceView
with_news view source old new = record view { queues = told view.queues (barrier (is_aside view) source old new) }

-- a source is set by the write barrier
abbrev pub spread : SpaceView → RefSource → Option Addr → SpaceView
spread view source to = with_news (with_stored view source to) source (stored view source) to

-- ---- names

-- a name that was not bound is bound to this number, which no name has, and address
abbrev pub with_name : SpaceView → List ℕ → ℕ → Addr → SpaceView
with_name view name number a = with_news (record view { roots = insert view.roots name (number, a) }) (Root number) None (Some a)

-- a name that is bound to this number and address is not bound any more
abbrev pub without_name : SpaceView → List ℕ → ℕ → Addr → SpaceView
without_name view name number a = with_news (record view { roots = remove view.roots name }) (Root number) (Some a) None

-- ---- births

-- the next identity was given
abbrev pub spent : SpaceView → SpaceView
spent view = record view { next = view.next + 1 }

-- an object that may be born: its identity was given and nobody has it, it is within the limits, and its fields are null
pub record MayBeBorn (view : SpaceView) (object : Object) : Type 0 where
  pub first : 0 < object.id
  pub given : object.id < view.next
  pub unused : (a : Addr) (other : Object) → object_at view.cars a ≡ Some other → (other.id == object.id) ≡ false
  pub fields : length object.fields ≤ FIELDS
  pub bytes : length object.bytes ≤ OBJECT_BYTES
  pub null : (i : ℕ) → field_of (Some object) i ≡ None

-- where 1,024 objects were born in the open train there is a new one
abbrev pub with_open_train : SpaceView → SpaceView
with_open_train view = if nat_le BIRTHS view.trains.births then record view { trains = record { trains = rotated view.trains.trains; births = 0 } } else view

-- an object of this room fits the car: its room is left, and a slot is
abbrev pub has_room : Car → ℕ → Bool
has_room car room = nat_le (used car + room) CAR_BYTES && nat_le car.next LAST_SLOT

-- this car where an object of this room fits it
abbrev pub if_fits : SpaceView → ℕ → ℕ → Option ℕ
if_fits view room number = option_and_then (λ (car : Car). if has_room car room then Some number else None) (get view.cars number)

-- the tail of a train, where there is one and an object of this room fits it
abbrev pub tail_for : SpaceView → ℕ → ℕ → Option ℕ
tail_for view train room = option_and_then (if_fits view room) (tail view.trains.trains train)

-- the number is the least from 1 on that no car has
pub record IsVacant (cars : Cars) (number : ℕ) : Type 0 where
  pub from_one : 0 < number
  pub vacant : get cars number ≡ None
  pub least : (other : ℕ) → 0 < other → other < number → IsSome (get cars other)

-- a new car of this number is the last one of the train, with an empty remembered set and an empty queue
abbrev pub with_car : SpaceView → ℕ → ℕ → SpaceView
with_car view train number =
    record view {
      cars = insert view.cars number (new_car number);
      sets = insert view.sets number empty;
      queues = insert view.queues number [];
      trains = record view.trains { trains = appended train number view.trains.trains };
    }

-- an object is in the next slot of this car, or in a new car of this number where none is given
abbrev pub put_in : SpaceView → ℕ → Option ℕ → ℕ → Object → SpaceView
put_in view train None number object = record (with_car view train number) { cars = insert view.cars number (with_birth (new_car number) object) }
put_in view train (Some car) number object = record view { cars = put_car view.cars car (get view.cars car) (λ it. with_birth it object) }

-- one more object was born in the open train
abbrev pub with_count : SpaceView → SpaceView
with_count view = record view { trains = record view.trains { births = view.trains.births + 1 } }

-- An object is born in the open train: in its tail where it fits, and else in a new car of this number.
abbrev pub born_in : SpaceView → ℕ → Object → SpaceView
born_in view number object = with_count (put_in view (youngest view.trains.trains) (tail_for view (youngest view.trains.trains) (object_room object)) number object)

-- an object is born, in a new open train where 1,024 were born in the one before
abbrev pub born : SpaceView → ℕ → Object → SpaceView
born view number object = born_in (with_open_train view) number object

-- the next slot of a car
abbrev pub next_of : Option Car → ℕ
next_of None = 0
next_of (Some car) = car.next

-- where it is born
abbrev pub place_in : Cars → Option ℕ → ℕ → Addr
place_in cars None number = record { car = number; slot = 0 }
place_in cars (Some car) number = record { car = car; slot = next_of (get cars car) }

abbrev pub birthplace : SpaceView → ℕ → Object → Addr
birthplace view number object =
    let open_view = with_open_train view in
    place_in open_view.cars (tail_for open_view (youngest open_view.trains.trains) (object_room object)) number

-- ---- a new space

-- a space in which nothing was ever made: train 1 is open
abbrev pub new_space : SpaceView
new_space =
    record { cars = empty; sets = empty; queues = empty; trains = first_trains; roots = empty; registers = empty; anchor = None; phase = Idle; next = 1; completed = 0 }
