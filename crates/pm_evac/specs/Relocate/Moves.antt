-- An object that moves: where it goes, what its fields name then, and what cars hear of it.
use Rattle.std.specs.Prelude.{◌≡◌, ℕ, ◌+◌, ◌<◌, ◌^◌, Bool, if◌then◌else◌, List, ◌++◌, length, map, get_or, Option, None, IsSomeAnd, option_map}
use Rattle.pm_types.specs.declared.address.Addr.{Addr}
use Rattle.pm_types.specs.declared.object.Object.{Object}
use Rattle.pm_types.specs.declared.object.Slot.TheVariants.{Moved}
use Rattle.pm_types.specs.declared.source.Change.{Change}
use Rattle.pm_types.specs.declared.source.RefSource.TheVariants.{Field}
use Rattle.pm_cars.specs.Cars.{object_room}
use Rattle.pm_view.specs.Sources.{same_address}
use Rattle.pm_view.specs.View.{Cars, SpaceView}
use Rattle.pm_view.specs.Reading.{slot_at, object_at, followed, is_aside}
use Rattle.pm_view.specs.Barrier.{left, entered, told}
use Rattle.pm_view.specs.Rows.{with_slot_at, IsVacant}
use Rattle.pm_view.specs.Collecting.{field_news, moved}
use Rattle.pm_space.specs.Linked.{Linked, HasRoom}
use Rattle.pm_space.specs.Places.{FitsIn, with_object_in}
use Rattle.pm_evac.specs.Relocate.Named.{named_by}

-- where an address leads once the object at the first one is at the second
abbrev pub led : Cars → Addr → Addr → Addr → Addr
led cars from to a = if same_address from a then to else followed (slot_at cars a) a

-- what fields store then
abbrev pub led_fields : Cars → Addr → Addr → List (Option Addr) → List (Option Addr)
led_fields cars from to fields = map (option_map (led cars from to)) fields

-- what cars hear of a field that leaves its old place and stores this at the new one
abbrev pub move_tells : (ℕ → Bool) → Addr → Addr → ℕ → Option Addr → Option Addr → List (ℕ × Change)
move_tells aside from to index old new = left aside (Field from index) old ++ entered aside (Field to index) new

-- and of all fields of an object, which store these at the new place
abbrev pub moves_told : (ℕ → Bool) → Addr → Addr → List (Option Addr) → List (Option Addr) → List (ℕ × Change)
moves_told aside from to old new = field_news (λ index field. move_tells aside from to index field (get_or new index None)) 0 old

-- the object at the first address is at the second, with these fields, its slot says so, and the cars heard of it
abbrev pub carried : SpaceView → Addr → Addr → Object → List (Option Addr) → SpaceView
carried view from to object fields =
    record view {
      cars = with_object_in (with_slot_at view.cars from (Moved to)) to.car (record object { fields = fields });
      queues = told view.queues (moves_told (is_aside view) from to object.fields fields);
    }

-- An object may be carried to a car, with these fields: it fits there, and the queues have room for what they hear.
pub record MayCarry (view : SpaceView) (links : Linked) (to : Addr) (object : Object) (fields : List (Option Addr)) : Type 0 where
  pub few : length object.fields < 2 ^ 32
  pub same : length fields ≡ length object.fields
  pub fits : FitsIn view.cars to.car (object_room object)
  pub room : (car : ℕ) → HasRoom links car (named_by object.fields car + named_by fields car)

-- the object at the first address may be carried to the second, with these fields
abbrev pub MayGo : SpaceView → Linked → Addr → Addr → List (Option Addr) → Type 0
MayGo view links from to fields = IsSomeAnd (object_at view.cars from) (λ object. MayCarry view links to object fields)

-- and was
abbrev pub IsCarried : SpaceView → SpaceView → Addr → Addr → List (Option Addr) → Type 0
IsCarried old new from to fields = IsSomeAnd (object_at old.cars from) (λ object. new ≡ carried old from to object fields)

-- the object at an address went to a train, in a new car of the least number that no car had where it fits no other
pub record IsMovedTo (old new : SpaceView) (from : Addr) (train : ℕ) : Type 0 where
  pub number : ℕ
  pub vacant : IsVacant old.cars number
  pub after : new ≡ moved old from train number
