-- What opening makes of listed cars and roots.
use Rattle.std.specs.Prelude.{◌≡◌, ℕ, suc, ◌+◌, ◌==◌, Bool, true, false, cond, is_some, if◌then◌else◌, List, [], ◌∷◌, map, Some, None, option_map, Ok}
use Rattle.std.specs.List.{flat_map}
use Rattle.std.specs.FinMap.{get, entries, from_entries, empty}
use Rattle.pm_types.specs.declared.address.Addr.{Addr}
use Rattle.pm_types.specs.declared.object.Object.{Object}
use Rattle.pm_types.specs.declared.object.Slot.{Slot}
use Rattle.pm_types.specs.declared.object.Slot.TheVariants.{Live, Moved}
use Rattle.pm_types.specs.declared.source.RefSource.{RefSource}
use Rattle.pm_cars.specs.Cars as cars
use Rattle.pm_trains.specs.Trains.{Train, Trains, empty_train}
use Rattle.pm_roots.specs.Bindings.{AllNumbersDiffer}
use Rattle.pm_image.specs.declared.car.CarImage.{CarImage}
use Rattle.pm_image.specs.declared.catalog.CatEntry.{CatEntry}
use Rattle.pm_image.specs.declared.catalog.CatEntry.TheVariants.{Car, Root}
use Rattle.pm_image.specs.Graphs.{Graph, slot_named, images_of, entries_of}
use Rattle.pm_image.specs.Stands.{Opened, opened}
use Rattle.pm_view.specs.declared.phase.Phase.TheVariants.{Idle}
use Rattle.pm_view.specs.Sources.{outside, slot_in}
use Rattle.pm_view.specs.View.{Cars, Sources, SpaceView}
use Rattle.pm_view.specs.Reading.{stored, followed}
use Rattle.pm_copies.specs.Listed.{Listed, images}
use Rattle.pm_copies.specs.Accepted.{roots_in}

-- ---- objects and cars

-- where an address leads among these cars, through at most one Moved slot
abbrev pub resolved_at : List CarImage → Addr → Addr
resolved_at images at = followed (slot_named images at) at

-- an object, each field of which is resolved
abbrev pub opened_object : List CarImage → Object → Object
opened_object images object = record object { fields = map (option_map (resolved_at images)) object.fields }

-- a slot: an object, or Gone where it was Moved
abbrev pub opened_slot : List CarImage → ℕ × Slot → List (ℕ × Slot)
opened_slot images (slot, Live object) = (slot, Live (opened_object images object)) ∷ []
opened_slot images (slot, Moved to) = []

-- one more than the greatest slot that is listed
abbrev pub next_after : ℕ → List (ℕ × Slot) → ℕ
next_after next [] = next
next_after next (entry ∷ slots) = next_after (entry.0 + 1) slots

-- a car, with its number, its objects in their slots, and its next slot
abbrev pub opened_car : List CarImage → CarImage → cars.Car
opened_car images car = record { number = car.number; slots = from_entries (flat_map (opened_slot images) car.slots); next = next_after 0 car.slots }

-- a car has an object
abbrev pub has_object : List (ℕ × Slot) → Bool
has_object [] = false
has_object ((slot, Live object) ∷ slots) = true
has_object ((slot, Moved to) ∷ slots) = has_object slots

-- a car that has an object, under its number
abbrev pub opened_entry : List CarImage → CarImage → List (ℕ × cars.Car)
opened_entry images car = if has_object car.slots then (car.number, opened_car images car) ∷ [] else []

-- the cars that have an object
abbrev pub opened_cars : List CarImage → Cars
opened_cars images = from_entries (flat_map (opened_entry images) images)

-- ---- trains

-- a car that has an object, with the number of its train
abbrev pub kept_car : Listed → List (ℕ × ℕ)
kept_car one = if has_object one.1.slots then (one.0, one.1.number) ∷ [] else []

-- a car before the first train of these: in it, where it is of that train
abbrev pub before : ℕ → ℕ → List Train → List Train
before train car [] = record { number = train; cars = car ∷ [] } ∷ []
before train car (t ∷ ts) = if t.number == train then record t { cars = car ∷ t.cars } ∷ ts else record { number = train; cars = car ∷ [] } ∷ t ∷ ts

-- trains of cars, each given with the number of its train
abbrev pub grouped : List (ℕ × ℕ) → List Train
grouped [] = []
grouped (kept ∷ others) = before kept.0 kept.1 (grouped others)

-- the trains numbered anew, from this number on, and behind them an open train without a car
abbrev pub numbered : ℕ → List Train → List Train
numbered number [] = empty_train number ∷ []
numbered number (t ∷ ts) = record { number = number; cars = t.cars } ∷ numbered (suc number) ts

-- the trains that have a car with an object, numbered from 1 in the order of the list, and an open train in which nothing was born
abbrev pub opened_trains : List Listed → Trains
opened_trains listed = record { trains = numbered 1 (grouped (flat_map kept_car listed)); births = 0 }

-- ---- the space

-- a name with its address, which is resolved
abbrev pub opened_root : List CarImage → List ℕ × Addr → List ℕ × Addr
opened_root images root = (root.0, resolved_at images root.1)

-- a name with its address, without its number
abbrev pub unnumbered : List ℕ × (ℕ × Addr) → List ℕ × Addr
unnumbered e = (e.0, e.1.1)

-- Nothing has happened in the space since it was made of its cars and roots, under this next identity. The numbers of the
-- roots may be any that differ.
pub record IsFresh (next_id : ℕ) (view : SpaceView) : Type 0 where
  pub numbers : AllNumbersDiffer view.roots
  -- each car has a remembered set, of just the sources outside it that name a slot of it, and a queue without a change
  pub sets : (car : ℕ) → is_some (get view.sets car) ≡ is_some (get view.cars car)
  pub remembered : (car : ℕ) (set : Sources) (source : RefSource) → get view.sets car ≡ Some set → get set source ≡ cond (outside car source) (slot_in car (stored view source)) None
  pub queues : (car : ℕ) → get view.queues car ≡ option_map (λ _. []) (get view.cars car)
  -- nothing is held, and no collection is in progress
  pub registers : view.registers ≡ empty
  pub anchor : view.anchor ≡ None
  pub phase : view.phase ≡ Idle
  pub next : view.next ≡ next_id
  pub completed : view.completed ≡ 0

-- The space is what opening makes of these cars and roots, under this next identity. It is told by them but for the
-- numbers of the roots.
pub record IsOpened (listed : List Listed) (catalog : List CatEntry) (next_id : ℕ) (view : SpaceView) : Type 0 where
  -- addresses are resolved, what had moved is Gone, and cars without an object are gone; the numbers of cars and slots stay
  pub cars : view.cars ≡ opened_cars (images listed)
  pub trains : view.trains ≡ opened_trains listed
  -- the names with their addresses, ascending
  pub roots : map unnumbered (entries view.roots) ≡ map (opened_root (images listed)) (roots_in catalog)
  pub fresh : IsFresh next_id view

-- ---- what a catalog lists

-- the cars that entries list, in order, each with its train: the first entry's is the first of these
abbrev pub listed_in : List CatEntry → List CarImage → List Listed
listed_in [] images = []
listed_in (Root name at ∷ entries) images = listed_in entries images
listed_in (Car car train page digest ∷ entries) [] = []
listed_in (Car car train page digest ∷ entries) (image ∷ images) = (train, image) ∷ listed_in entries images

-- the cars that a graph lists, each with its train
abbrev pub listed_graph : Graph → List Listed
listed_graph graph = listed_in (entries_of graph.catalog) (images_of graph.cars)

-- the space is what opening makes of a graph, under this next identity
abbrev pub IsOpenedFrom : Graph → ℕ → SpaceView → Type 0
IsOpenedFrom graph next_id view = IsOpened (listed_graph graph) (entries_of graph.catalog) next_id view

-- The space is what opening makes of the bytes of a store, in which this is found.
pub record IsOpenedStore (bytes : List ℕ) (view : SpaceView) : Type 0 where
  pub found : Opened
  pub is_found : opened bytes ≡ Ok found
  pub is_opened : IsOpenedFrom found.graph found.current.header.next view
