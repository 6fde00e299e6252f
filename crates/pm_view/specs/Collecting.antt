-- The collector: which event comes next, and the whole space after it. What a row does not name stays.
use Rattle.std.specs.Prelude.{ℕ, ◌+◌, ◌==◌, if◌then◌else◌, List, [], ◌∷◌, ◌++◌, length, Option, Some, None, map, option_map}
use Rattle.std.specs.Option.{unwrap_or}
use Rattle.std.specs.FinMap.{get, insert, remove, empty}
use Rattle.pm_types.specs.Counts.{raised}
use Rattle.pm_types.specs.declared.address.Addr.{Addr}
use Rattle.pm_types.specs.declared.object.Object.{Object}
use Rattle.pm_types.specs.declared.object.Slot.TheVariants.{Moved}
use Rattle.pm_types.specs.declared.source.RefSource.{RefSource}
use Rattle.pm_types.specs.declared.source.RefSource.TheVariants.{Field}
use Rattle.pm_types.specs.declared.source.Change.{Change}
use Rattle.pm_cars.specs.Cars.{object_room, without_slot}
use Rattle.pm_trains.specs.Trains.{youngest, rotated, without_first}
use Rattle.pm_view.specs.declared.phase.Phase.TheVariants as phases
use Rattle.pm_view.specs.View.{Cars, Sets, SpaceView}
use Rattle.pm_view.specs.Reading.{object_at, cars_of, is_aside, resolve}
use Rattle.pm_view.specs.Effective.{with_source}
use Rattle.pm_view.specs.Barrier.{left, entered, told}
use Rattle.pm_view.specs.Rows.{put_car, with_slot_at, with_object, with_stored, tail_for, put_in, place_in}
use Rattle.pm_view.specs.Candidates.{set_of, queue_of}

-- ---- phases

-- a train is selected, after a new open train was opened where it is the open one
abbrev pub selected : SpaceView → ℕ → SpaceView
selected view train =
    record view {
      trains = if train == youngest view.trains.trains then record { trains = rotated view.trains.trains; births = 0 } else view.trains;
      phase = phases.Draining train;
    }

-- a train is doomed, and an anchor is cleared
abbrev pub doomed : SpaceView → ℕ → SpaceView
doomed view train = record view { anchor = None; phase = phases.Doomed train }

-- the anchor that stands, or this one with its train where none does
abbrev pub anchored : Option (Addr × ℕ) → Addr → ℕ → Option (Addr × ℕ)
anchored None a to = Some (a, to)
anchored (Some anchor) a to = Some anchor

-- a car begins to be emptied, with this anchor where none stands
abbrev pub started : SpaceView → ℕ → Addr → ℕ → SpaceView
started view car a to = record view { anchor = anchored view.anchor a to; phase = phases.Moving car }

-- nothing is left that names a car, so it is swept
abbrev pub finished : SpaceView → ℕ → SpaceView
finished view car = record view { phase = phases.Sweeping car }

-- ---- changes and sources

-- the remembered sets where that of a car takes a change
abbrev pub set_takes : Sets → ℕ → Change → Sets
set_takes sets car change = insert sets car (with_source (unwrap_or (get sets car) empty) change.source change.slot)

-- the front change of a car's queue goes into its remembered set
abbrev pub applied_front : SpaceView → ℕ → List Change → SpaceView
applied_front view car [] = view
applied_front view car (change ∷ changes) = record view { sets = set_takes view.sets car change; queues = insert view.queues car changes }

abbrev pub applied_in : SpaceView → ℕ → SpaceView
applied_in view car = applied_front view car (queue_of view car)

-- A source that names a Moved slot of a car stores the address to which the object went: it leaves the car's remembered
-- set, and the object's car hears of it.
abbrev pub fixed : SpaceView → ℕ → RefSource → Addr → SpaceView
fixed view car source to =
    record (with_stored view source (Some to)) {
      sets = insert view.sets car (remove (set_of view car) source);
      queues = told view.queues (entered (is_aside view) source (Some to));
    }

-- ---- objects

-- the changes for the fields of an object, one field after the other, from this index on
abbrev pub field_news : (ℕ → Option Addr → List (ℕ × Change)) → ℕ → List (Option Addr) → List (ℕ × Change)
field_news tell index [] = []
field_news tell index (field ∷ fields) = tell index field ++ field_news tell (index + 1) fields

-- an object is at the end of a train too, or in a new car of this number there, and its slot says where it went
abbrev pub put_away : SpaceView → Addr → Option ℕ → ℕ → ℕ → Object → SpaceView
put_away view from tail train number object =
    let put = put_in view train tail number object in
    record put { cars = with_slot_at put.cars from (Moved (place_in view.cars tail number)) }

-- what the cars hear of a field of an object that goes from one address to another
abbrev pub move_news : SpaceView → Addr → Addr → ℕ → Option Addr → List (ℕ × Change)
move_news put from to index field = left (is_aside put) (Field from index) field ++ entered (is_aside put) (Field to index) (option_map (resolve put) field)

-- the object at the new address stores resolved addresses, and the cars heard of them
abbrev pub settled : SpaceView → Addr → Addr → Object → SpaceView
settled put from to object =
    record put {
      cars = with_object put.cars to (λ it. record it { fields = map (option_map (resolve put)) object.fields });
      queues = told put.queues (field_news (move_news put from to) 0 object.fields);
    }

-- An object moves to a train: to its tail where it fits, and else to a new car of this number at its end.
abbrev pub moved_object : SpaceView → Addr → ℕ → ℕ → Object → SpaceView
moved_object view from train number object =
    let tail = tail_for view train (object_room object) in
    settled (put_away view from tail train number object) from (place_in view.cars tail number) object

abbrev pub moved_some : SpaceView → Addr → ℕ → ℕ → Option Object → SpaceView
moved_some view from train number None = view
moved_some view from train number (Some object) = moved_object view from train number object

-- the object at an address moves
abbrev pub moved : SpaceView → Addr → ℕ → ℕ → SpaceView
moved view from train number = moved_some view from train number (object_at view.cars from)

-- the cars where the slot at this address is Gone
abbrev pub without_slot_at : Cars → Addr → Cars
without_slot_at cars a = put_car cars a.car (get cars a.car) (λ car. without_slot car a.slot)

abbrev pub swept_some : SpaceView → Addr → Option Object → SpaceView
swept_some view at None = view
swept_some view at (Some object) =
    record view {
      cars = without_slot_at view.cars at;
      queues = told view.queues (field_news (λ index field. left (is_aside view) (Field at index) field) 0 object.fields);
    }

-- an object is swept, and its references are withdrawn
abbrev pub swept : SpaceView → Addr → SpaceView
swept view at = swept_some view at (object_at view.cars at)

-- ---- cars

-- a car, the first one of a train, goes
abbrev pub without_car : SpaceView → ℕ → ℕ → SpaceView
without_car view train car =
    record view {
      cars = remove view.cars car;
      sets = remove view.sets car;
      queues = remove view.queues car;
      trains = record view.trains { trains = without_first train view.trains.trains };
    }

-- a collection is completed, which is counted; the count stands still at the greatest number of 64 bits
abbrev pub completing : SpaceView → SpaceView
completing view = record view { phase = phases.Idle; completed = raised view.completed }

-- a car of a doomed train goes, and the collection is completed where it was the train's last
abbrev pub freed_of_train : SpaceView → ℕ → ℕ → SpaceView
freed_of_train view train car = if length (cars_of view.trains.trains train) == 1 then completing (without_car view train car) else without_car view train car
