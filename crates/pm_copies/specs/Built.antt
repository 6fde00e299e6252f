-- A space that is built of cars in trains, and of roots.
use Rattle.std.specs.Prelude.{◌≡◌, ◌⊎◌, ℕ, ◌+◌, ◌<◌, ◌≤◌, ◌==◌, false, if◌then◌else◌, List, [], ◌∷◌, length, map, slice_get, Some, IsSome}
use Rattle.std.specs.List.{flat_map, AllByRecursion}
use Rattle.std.specs.FinMap.{from_entries}
use Rattle.pm_types.specs.Mapped.{mapped}
use Rattle.pm_types.specs.declared.limits.TheConstants.{FIELDS, OBJECT_BYTES, ROOTS, END_ID}
use Rattle.pm_types.specs.declared.address.Addr.{Addr}
use Rattle.pm_types.specs.declared.object.Object.{Object}
use Rattle.pm_cars.specs.Cars.{Car, live_count, moved_count, IsSoundCar}
use Rattle.pm_trains.specs.Trains.{Trains}
use Rattle.pm_image.specs.declared.car.CarImage.{CarImage}
use Rattle.pm_image.specs.declared.catalog.CatEntry.{CatEntry}
use Rattle.pm_view.specs.View.{Cars, SpaceView}
use Rattle.pm_view.specs.Reading.{object_at}
use Rattle.pm_copies.specs.Listed.{Listed, images}
use Rattle.pm_copies.specs.Accepted.{roots_in}
use Rattle.pm_copies.specs.Opened.{has_object, opened_car, opened_root, numbered, grouped, IsFresh}

-- a car with the number of its train
abbrev pub Placed : Type 0
Placed = ℕ × Car

-- the cars, by their numbers
abbrev pub built_cars : List Placed → Cars
built_cars placed = from_entries (map (λ (one : Placed). (one.1.number, one.1)) placed)

-- the number of a car's train, with the car's
abbrev pub place_of : Placed → ℕ × ℕ
place_of one = (one.0, one.1.number)

-- the trains of the cars, and behind them an open train in which nothing was born
abbrev pub built_trains : List Placed → Trains
built_trains placed = record { trains = numbered 1 (grouped (map place_of placed)); births = 0 }

-- The space is built of these cars and roots, under this next identity. It is told by them but for the numbers of the roots.
pub record IsBuiltOf (placed : List Placed) (named : List (List ℕ × Addr)) (next_id : ℕ) (view : SpaceView) : Type 0 where
  pub cars : view.cars ≡ built_cars placed
  pub trains : view.trains ≡ built_trains placed
  pub roots : mapped (λ (bound : ℕ × Addr). bound.1) view.roots ≡ from_entries named
  pub fresh : IsFresh next_id view

-- ---- of which cars and roots a space may be built

-- a car: its number is not 0, it keeps its room, and it has an object and no slot whose object moved away
pub record IsFull (car : Car) : Type 0 where
  pub from_one : 0 < car.number
  pub sound : IsSoundCar car
  pub live : 0 < live_count car
  pub moved : moved_count car ≡ 0

-- the numbers of trains go on from this one, each the same as the one before or one more
abbrev pub StepFrom : ℕ → List Placed → Type 0
StepFrom now [] = Unit {0}
StepFrom now (one ∷ others) = ((one.0 ≡ now) ⊎ (one.0 ≡ now + 1)) × StepFrom one.0 others

-- and begin at 1
abbrev pub Steps : List Placed → Type 0
Steps [] = Unit {0}
Steps (one ∷ others) = (one.0 ≡ 1) × StepFrom 1 others

-- no two cars have one number
abbrev pub CarsDiffer : List Placed → Type 0
CarsDiffer [] = Unit {0}
CarsDiffer (one ∷ others) = AllByRecursion (λ (other : Placed). (other.1.number == one.1.number) ≡ false) others × CarsDiffer others

-- an object: its identity was given, and it is within the limits
pub record IsGiven (next_id : ℕ) (object : Object) : Type 0 where
  pub first : 0 < object.id
  pub given : object.id < next_id
  pub fields : length object.fields ≤ FIELDS
  pub bytes : length object.bytes ≤ OBJECT_BYTES

-- what is asked of the cars and roots that a space is built of
pub record MayBuild (placed : List Placed) (named : List (List ℕ × Addr)) (next_id : ℕ) : Type 0 where
  pub next : (1 ≤ next_id) × (next_id ≤ END_ID)
  pub trains : Steps placed
  pub cars : AllByRecursion (λ (one : Placed). IsFull one.1) placed
  pub differ : CarsDiffer placed
  -- identities were given, and differ
  pub objects : (a : Addr) (object : Object) → object_at (built_cars placed) a ≡ Some object → IsGiven next_id object
  pub apart : (a b : Addr) (o p : Object) → object_at (built_cars placed) a ≡ Some o → object_at (built_cars placed) b ≡ Some p → o.id ≡ p.id → a ≡ b
  -- each address names an object
  pub fields : (a : Addr) (object : Object) (i : ℕ) (to : Addr) → object_at (built_cars placed) a ≡ Some object → slice_get object.fields i ≡ Some (Some to) → IsSome (object_at (built_cars placed) to)
  pub roots : AllByRecursion (λ (root : List ℕ × Addr). IsSome (object_at (built_cars placed) root.1)) named
  pub few : length named ≤ ROOTS

-- ---- of which a store is opened

-- a car that has an object, as it is opened, with the number of its train
abbrev pub opened_placed : List CarImage → Listed → List Placed
opened_placed all one = if has_object one.1.slots then (one.0, opened_car all one.1) ∷ [] else []

-- trains numbered anew where the one before had this number and now has another: one more at each change
abbrev pub renumbered_on : ℕ → ℕ → List Placed → List Placed
renumbered_on now train [] = []
renumbered_on now train (one ∷ others) = if train == one.0 then (now, one.1) ∷ renumbered_on now one.0 others else (now + 1, one.1) ∷ renumbered_on (now + 1) one.0 others

-- trains numbered anew, from 1
abbrev pub renumbered : List Placed → List Placed
renumbered [] = []
renumbered (one ∷ others) = (1, one.1) ∷ renumbered_on 1 one.0 others

-- the cars that a space is built of where these are opened
abbrev pub opening_cars : List Listed → List Placed
opening_cars listed = renumbered (flat_map (opened_placed (images listed)) listed)

-- and its roots
abbrev pub opening_roots : List Listed → List CatEntry → List (List ℕ × Addr)
opening_roots listed catalog = map (opened_root (images listed)) (roots_in catalog)
