-- The heap law: what holds of a space after every event.
use Rattle.std.specs.Prelude.{◌≡◌, ℕ, ◌<◌, ◌≤◌, ◌≢◌, false, ◌==◌, List, length, Option, Some, None, IsSome, IsSomeAnd, is_some}
use Rattle.std.specs.FinMap.{get, len}
use Rattle.pm_types.specs.declared.limits.TheConstants.{CLIENTS, REGISTERS, FIELDS, OBJECT_BYTES, ROOTS, END_ID}
use Rattle.pm_types.specs.declared.address.Addr.{Addr}
use Rattle.pm_types.specs.declared.object.Object.{Object}
use Rattle.pm_trains.specs.Sound.{AreSoundTrains}
use Rattle.pm_cars.specs.Cars.{Car, live_count, moved_count, IsSoundCar}
use Rattle.pm_trains.specs.Trains.{Train, cars_at, train_of, first_car, oldest, youngest}
use Rattle.pm_roots.specs.Bindings.{AllNumbersDiffer}
use Rattle.pm_view.specs.declared.phase.Phase.{Phase}
use Rattle.pm_view.specs.declared.phase.Phase.TheVariants.{Idle, Draining, Moving, Sweeping, Doomed}
use Rattle.pm_view.specs.View.{SpaceView}
use Rattle.pm_view.specs.Reading.{object_at, cars_of, is_aside, is_from}
use Rattle.pm_view.specs.Seen.{seen, IsTied}
use Rattle.pm_view.specs.Counts.{standing_in}
use Rattle.std.specs.List.{sum_by}

-- a car: it stands under its number, from 1 on, and keeps its room; it has an object unless it is being given up; and
-- only the from-car has a slot whose object moved away
pub record IsCar (view : SpaceView) (number : ℕ) (car : Car) : Type 0 where
  pub numbered : car.number ≡ number
  pub from_one : 0 < number
  pub sound : IsSoundCar car
  pub live : is_from view number ≡ false → is_aside view number ≡ false → 0 < live_count car
  pub moved : is_from view number ≡ false → moved_count car ≡ 0

-- an object: its identity was given, and it is within the limits
pub record IsObject (view : SpaceView) (object : Object) : Type 0 where
  pub first : 0 < object.id
  pub given : object.id < view.next
  pub fields : length object.fields ≤ FIELDS
  pub bytes : length object.bytes ≤ OBJECT_BYTES

-- cars, trains and objects: each car is in one train and has its remembered set and its queue, and identities differ
pub record IsBuilt (view : SpaceView) : Type 0 where
  pub trains : AreSoundTrains view.trains
  pub linked : (car : ℕ) → is_some (train_of view.trains.trains car) ≡ is_some (get view.cars car)
  pub sets : (car : ℕ) → is_some (get view.sets car) ≡ is_some (get view.cars car)
  pub queues : (car : ℕ) → is_some (get view.queues car) ≡ is_some (get view.cars car)
  pub cars : (number : ℕ) (car : Car) → get view.cars number ≡ Some car → IsCar view number car
  pub objects : (a : Addr) (object : Object) → object_at view.cars a ≡ Some object → IsObject view object
  pub apart : (a b : Addr) (o p : Object) → object_at view.cars a ≡ Some o → object_at view.cars b ≡ Some p → o.id ≡ p.id → a ≡ b
  pub next : (1 ≤ view.next) × (view.next ≤ END_ID)
  pub births : view.trains.births ≤ sum_by (standing_in view) (cars_of view.trains.trains (youngest view.trains.trains))

-- names and registers: no two names have one number, they are not too many, and registers are those of a client
pub record IsNamed (view : SpaceView) : Type 0 where
  pub numbers : AllNumbersDiffer view.roots
  pub few : len view.roots ≤ ROOTS
  pub registers : (client register : ℕ) (a : Addr) → get view.registers (client, register) ≡ Some a → (client < CLIENTS) × (register < REGISTERS)

-- the train is the oldest that has a car, and not the open one
abbrev pub IsOldest : List Train → ℕ → Type 0
IsOldest trains train = (oldest trains ≡ Some train) × ((train == youngest trains) ≡ false)

-- the car is the first one of the oldest train, which is not the open one
abbrev pub IsFront : List Train → ℕ → Type 0
IsFront trains car = IsSomeAnd (oldest trains) (λ train. IsOldest trains train × (first_car trains train ≡ Some car))

-- what a phase says of the trains and of the anchor
abbrev pub IsPhaseOf : Phase → List Train → Option (Addr × ℕ) → Type 0
IsPhaseOf Idle trains anchor = Unit {0}
IsPhaseOf (Draining train) trains anchor = IsOldest trains train
IsPhaseOf (Moving car) trains anchor = IsFront trains car
IsPhaseOf (Sweeping car) trains anchor = IsFront trains car
IsPhaseOf (Doomed train) trains anchor = IsOldest trains train × (anchor ≡ None)

-- an anchor is an object of the oldest train that is not set aside, and goes to another train, which stands
pub record IsAnchor (view : SpaceView) (a : Addr) (to : ℕ) : Type 0 where
  pub live : IsSome (object_at view.cars a)
  pub kept : is_aside view a.car ≡ false
  pub old : train_of view.trains.trains a.car ≡ oldest view.trains.trains
  pub stands : IsSome (cars_at view.trains.trains to)
  pub leaves : oldest view.trains.trains ≢ Some to

-- the heap law
pub record HeapLaw (view : SpaceView) : Type 0 where
  pub built : IsBuilt view
  pub named : IsNamed view
  pub tied : IsTied (seen view)
  pub phase : IsPhaseOf view.phase view.trains.trains view.anchor
  pub anchor : (a : Addr) (to : ℕ) → view.anchor ≡ Some (a, to) → IsAnchor view a to
