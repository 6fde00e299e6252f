-- What contracts see of the parts of a space.
use Rattle.std.specs.Prelude.{◌≡◌, ℕ, ◌<◌, true, Some, IsSome, IsSomeAnd, is_some, Result, IfOk, OnErr}
use Rattle.std.specs.FinMap.{get}
use Rattle.std.specs.List.{slice_get}
use Rattle.std.specs.Option.{option_and_then}
use Rattle.pm_types.specs.Mapped.{mapped}
use Rattle.pm_types.specs.declared.limits.TheConstants.{CLIENTS, REGISTERS}
use Rattle.pm_types.specs.declared.address.Addr.{Addr}
use Rattle.pm_types.specs.declared.object.Object.{Object}
use Rattle.pm_types.specs.declared.source.RefSource.{RefSource}
use Rattle.pm_types.specs.declared.source.RefSource.TheVariants.{Root, Handle, Field}
use Rattle.pm_cars.specs.Cars.{Car, new_car}
use Rattle.pm_roots.specs.Bindings.{address_at}
use Rattle.pm_view.specs.View.{Cars, SpaceView}
use Rattle.pm_view.specs.Reading.{object_at, stored, SourceStands}
use Rattle.pm_view.specs.Seen.{seen, IsLive}
use Rattle.pm_view.specs.Rows.{with_car}
use Rattle.pm_snap.specs.Snapped.{Snapped, is_ready}
use Rattle.pm_trains.specs.Trains.{train_of, rotated, youngest}
use Rattle.pm_space.specs.declared.held.Held.{Held}
use Rattle.pm_space.specs.declared.parts.Parts.{Parts}
use Rattle.pm_space.specs.Linked.{sets_of, queues_of, HasRoom}

-- a car that is held, without its room
abbrev pub car_of : Held → Car
car_of held = held.car.car

-- a car with no slot and with room for one birth
abbrev pub empty_held : ℕ → Held
empty_held number = record { car = record { car = new_car number; spare = 1 } }

-- the cars that a table holds now
abbrev pub cars_of : Snapped Held → Cars
cars_of table = mapped car_of table.current

-- What is seen of a space, without the room that is kept ahead, the frozen cars and the chooser.
abbrev pub view : {F : Type 0} → Parts F → SpaceView
view parts = record {
  cars = cars_of parts.cars;
  sets = sets_of parts.links;
  queues = queues_of parts.links;
  trains = parts.trains;
  roots = parts.roots;
  registers = parts.handles;
  anchor = parts.guard;
  phase = parts.phase;
  next = parts.next;
  completed = parts.completed;
}

-- the frozen cars and the chooser, which a view does not have, stay as they are
pub record KeepsRest {F : Type 0} (old new : Parts F) : Type 0 where
  pub frozen : new.cars.frozen ≡ old.cars.frozen
  pub place : new.place ≡ old.place

-- A row was made: what was answered says which. After want of memory all that is seen is as it was. The rest stays.
pub record MakesRow {F A E : Type 0} (old new : Parts F) (result : Result A E) (Says : A → Type 0) : Type 0 where
  pub ok : IfOk result Says
  pub err : OnErr result (view new ≡ view old)
  pub rest : KeepsRest old new

-- the object at this address has a field of this index
abbrev pub HasFieldAt : Cars → Addr → ℕ → Type 0
HasFieldAt cars a index = IsSome (option_and_then (λ (o : Object). slice_get o.fields index) (object_at cars a))

-- A source is there: a root where its number is bound, a register where there is one, also empty, and a field where
-- an object has it, also one that is set aside.
abbrev pub IsThere : SpaceView → RefSource → Type 0
IsThere view (Root number) = IsSome (address_at view.roots number)
IsThere view (Handle client register) = (client < CLIENTS) × (register < REGISTERS)
IsThere view (Field a index) = HasFieldAt view.cars a index

-- each car that stands is in a train and has links, and no other number is or has
pub record IsLinked (view : SpaceView) : Type 0 where
  pub trains : (car : ℕ) → is_some (train_of view.trains.trains car) ≡ is_some (get view.cars car)
  pub sets : (car : ℕ) → is_some (get view.sets car) ≡ is_some (get view.cars car)

-- the car of this number stands, and has room for one birth
abbrev pub HasBirthRoom : Snapped Held → ℕ → Type 0
HasBirthRoom table number = IsSomeAnd (get table.current number) (λ (held : Held). 0 < held.car.spare)

-- each car that was ready is so
abbrev pub KeepsReady : Snapped Held → Snapped Held → Type 0
KeepsReady old new = (car : ℕ) → is_ready old car ≡ true → is_ready new car ≡ true

-- a car that was opened is ready, and has room for a birth, and its queue for so many changes
pub record IsPrepared {F : Type 0} (parts : Parts F) (number room : ℕ) : Type 0 where
  pub ready : is_ready parts.cars number ≡ true
  pub birth : HasBirthRoom parts.cars number
  pub changes : HasRoom parts.links number room

-- the space with a new open train, in which nothing was born
abbrev pub in_new_train : SpaceView → SpaceView
in_new_train view = record view { trains = record { trains = rotated view.trains.trains; births = 0 } }

-- that space, with a new car of this number in the new train
abbrev pub with_car_in_new_train : SpaceView → ℕ → SpaceView
with_car_in_new_train view number = with_car (in_new_train view) (youngest (rotated view.trains.trains)) number

-- where a source that stands stores the first address, the second is that of an object that stands
abbrev pub LeadsWhereStored : SpaceView → Addr → Addr → Type 0
LeadsWhereStored view at to = (source : RefSource) → SourceStands view source → stored view source ≡ Some at → IsLive (seen view) to
