-- Which event of the collector comes next, and the whole space after it.
use Rattle.std.specs.Prelude.{◌≡◌, ℕ, Bool, true, false, ◌==◌, cond, List, [], ◌∷◌, length, Option, Some, None, IsTrue, option_map, option_and_then}
use Rattle.std.specs.Option.{unwrap_or}
use Rattle.std.specs.List.{find}
use Rattle.std.specs.FinMap.{get, entries}
use Rattle.pm_types.specs.declared.address.Addr.{Addr}
use Rattle.pm_types.specs.declared.object.Slot.{Slot}
use Rattle.pm_types.specs.declared.object.Slot.TheVariants.{Live, Moved}
use Rattle.pm_types.specs.declared.source.RefSource.{RefSource}
use Rattle.pm_types.specs.declared.source.Change.{Change}
use Rattle.pm_cars.specs.Cars.{Car}
use Rattle.pm_cars.specs.Entries.{holds_object}
use Rattle.pm_trains.specs.Trains.{train_of, first_car, is_among, oldest}
use Rattle.pm_view.specs.declared.phase.Phase.{Phase}
use Rattle.pm_view.specs.declared.phase.Phase.TheVariants.{Idle, Draining, Moving, Sweeping, Doomed}
use Rattle.pm_view.specs.View.{SpaceView}
use Rattle.pm_view.specs.Reading.{slot_at, id_at, cars_of, is_aside}
use Rattle.pm_view.specs.Rows.{IsVacant}
use Rattle.pm_view.specs.Candidates.{set_of, queue_of, least_outside, referenced_car, candidates}
use Rattle.pm_view.specs.Collecting.{selected, doomed, started, finished, applied_in, fixed, moved, swept, without_car, completing, freed_of_train}

-- an event of the collector
pub data Row : Type 0 where
  -- none
  nothing : Row
  -- this train is selected
  select : ℕ → Row
  -- the front change of this car's queue is applied
  apply : ℕ → Row
  -- this train is doomed
  doom : ℕ → Row
  -- this car begins to be emptied; where no anchor stands the object at this address is noted
  start : ℕ → Addr → Row
  -- this source of this car stores the address to which the object went
  fix : ℕ → RefSource → Addr → Row
  -- the anchor at this address moves to its train
  move_anchor : Addr → ℕ → Row
  -- the object at this address, which a source outside its train names, moves to a train that is picked
  move_out : Addr → Row
  -- the object at this address moves to the end of this train, which is its own
  move_on : Addr → ℕ → Row
  -- this car is swept from now on
  finish : ℕ → Row
  -- the object at this address is swept
  sweep : Addr → Row
  -- this car, which was swept, goes
  free : ℕ → Row
  -- this car of this train, which is doomed, goes
  free_doomed : ℕ → ℕ → Row

-- the first car of a train, in the train's order, that has a queued change
abbrev pub has_change : List Change → Bool
has_change [] = false
has_change (change ∷ changes) = true

abbrev pub changed_car : SpaceView → ℕ → Option ℕ
changed_car view train = find (λ car. has_change (queue_of view car)) (cars_of view.trains.trains train)

-- the address of the slot that an entry of a car names
abbrev pub named_in : ℕ → RefSource × ℕ → Addr
named_in car entry = record { car = car; slot = entry.1 }

-- the object to be noted: the one that the least outside source of the first car that remembers one names
abbrev pub to_note : SpaceView → ℕ → Option Addr
to_note view train = option_and_then (λ car. option_map (named_in car) (least_outside view train car)) (referenced_car view train)

-- to which address the object of a slot went, where it moved
abbrev pub went : Option Slot → Option Addr
went None = None
went (Some (Live object)) = None
went (Some (Moved to)) = Some to

-- the least source of a car that names a Moved slot, with the address to which the object went
abbrev pub has_gone : Option Addr → Bool
has_gone None = false
has_gone (Some to) = true

abbrev pub least_stale : SpaceView → ℕ → Option (RefSource × ℕ)
least_stale view car = find (λ e. has_gone (went (slot_at view.cars (named_in car e)))) (entries (set_of view car))

abbrev pub to_fix : SpaceView → ℕ → Option (RefSource × Addr)
to_fix view car = option_and_then (λ e. option_map (λ to. (e.0, to)) (went (slot_at view.cars (named_in car e)))) (least_stale view car)

-- the anchor, where it lies in the car
abbrev pub anchor_in : ℕ → Option (Addr × ℕ) → Option (Addr × ℕ)
anchor_in car None = None
anchor_in car (Some anchor) = cond (anchor.0.car == car) (Some anchor) None

-- the first entry of a list
abbrev pub first_of : List (RefSource × ℕ) → Option (RefSource × ℕ)
first_of [] = None
first_of (e ∷ es) = Some e

-- the least source that a car remembers
abbrev pub least : SpaceView → ℕ → Option (RefSource × ℕ)
least view car = first_of (entries (set_of view car))

-- the lowest Live slot of a car
abbrev pub lowest_live : SpaceView → ℕ → Option ℕ
lowest_live view car = option_and_then (λ (it : Car). option_map (λ e. e.0) (find (λ e. holds_object e.1) (entries it.slots))) (get view.cars car)

-- the row of each phase, the first one that applies
abbrev pub idle_row : Option ℕ → Row
idle_row None = nothing
idle_row (Some train) = select train

abbrev pub draining_row : ℕ → Option ℕ → Option ℕ → Option Addr → Row
draining_row train first (Some car) noted = apply car
draining_row train first None None = doom train
draining_row train None None (Some a) = nothing
draining_row train (Some car) None (Some a) = start car a

abbrev pub moving_row : ℕ → ℕ → List Change → Option (RefSource × Addr) → Option (Addr × ℕ) → Option (RefSource × ℕ) → Option (RefSource × ℕ) → Row
moving_row car train (change ∷ changes) stale anchor outside other = apply car
moving_row car train [] (Some e) anchor outside other = fix car e.0 e.1
moving_row car train [] None (Some anchor) outside other = move_anchor anchor.0 anchor.1
moving_row car train [] None None (Some e) other = move_out (named_in car e)
moving_row car train [] None None None (Some e) = move_on (named_in car e) train
moving_row car train [] None None None None = finish car

abbrev pub sweeping_row : ℕ → Option ℕ → Row
sweeping_row car (Some slot) = sweep (record { car = car; slot = slot })
sweeping_row car None = free car

abbrev pub doomed_row : ℕ → ℕ → Option ℕ → Row
doomed_row train car (Some slot) = sweep (record { car = car; slot = slot })
doomed_row train car None = free_doomed train car

abbrev pub doomed_rows : SpaceView → ℕ → Option ℕ → Row
doomed_rows view train None = nothing
doomed_rows view train (Some car) = doomed_row train car (lowest_live view car)

-- the train of a car, where it stands
abbrev pub home : SpaceView → ℕ → ℕ
home view car = unwrap_or (train_of view.trains.trains car) 0

abbrev pub row_in : SpaceView → Phase → Row
row_in view Idle = idle_row (oldest view.trains.trains)
row_in view (Draining train) = draining_row train (first_car view.trains.trains train) (changed_car view train) (to_note view train)
row_in view (Moving car) = moving_row car (home view car) (queue_of view car) (to_fix view car) (anchor_in car view.anchor) (least_outside view (home view car) car) (least view car)
row_in view (Sweeping car) = sweeping_row car (lowest_live view car)
row_in view (Doomed train) = doomed_rows view train (first_car view.trains.trains train)

-- the event that comes next
abbrev pub next_row : SpaceView → Row
next_row view = row_in view view.phase

-- The space after an event. Where a train is picked it is this one, and a new car has this number.
abbrev pub after : SpaceView → ℕ → ℕ → Row → SpaceView
after view picked number nothing = view
after view picked number (select train) = selected view train
after view picked number (apply car) = applied_in view car
after view picked number (doom train) = doomed view train
after view picked number (start car a) = started view car a picked
after view picked number (fix car source to) = fixed view car source to
after view picked number (move_anchor a to) = record (moved view a to number) { anchor = None }
after view picked number (move_out a) = moved view a picked number
after view picked number (move_on a train) = moved view a train number
after view picked number (finish car) = finished view car
after view picked number (sweep a) = swept view a
after view picked number (free car) = completing (without_car view (home view car) car)
after view picked number (free_doomed train car) = freed_of_train view train car

-- the trains to which the object at an address may go
abbrev pub ways_out : SpaceView → Addr → List ℕ
ways_out view a = candidates view (home view a.car) a

-- a train is picked only from these: none where an anchor stands
abbrev pub MayNote : SpaceView → Option (Addr × ℕ) → Addr → ℕ → Type 0
MayNote view None a picked = IsTrue (is_among picked (ways_out view a))
MayNote view (Some anchor) a picked = Unit {0}

-- where an event picks a train it is one of those to which the object may go
abbrev pub MayPick : SpaceView → ℕ → Row → Type 0
MayPick view picked (start car a) = MayNote view view.anchor a picked
MayPick view picked (move_out a) = IsTrue (is_among picked (ways_out view a))
MayPick view picked row = Unit {0}

-- where an event makes a new car its number is the least that no car has
abbrev pub MayPlace : SpaceView → ℕ → Row → Type 0
MayPlace view number (move_anchor a to) = IsVacant view.cars number
MayPlace view number (move_out a) = IsVacant view.cars number
MayPlace view number (move_on a train) = IsVacant view.cars number
MayPlace view number row = Unit {0}

-- the identity of the object that an event moves
abbrev pub moving_id : SpaceView → Row → Option ℕ
moving_id view (move_anchor a to) = id_at view a
moving_id view (move_out a) = id_at view a
moving_id view (move_on a train) = id_at view a
moving_id view row = None

-- the train to which an event moves an object
abbrev pub goal_of : ℕ → Row → ℕ
goal_of picked (move_anchor a to) = to
goal_of picked (move_on a train) = train
goal_of picked row = picked

-- the cars whose objects end to stand by an event: those that are set aside then, where it dooms a train or ends a car
abbrev pub ended_by : SpaceView → Row → ℕ → Bool
ended_by now (doom train) car = is_aside now car
ended_by now (finish from) car = is_aside now car
ended_by now row car = false

-- the event completes a collection: the car that was swept goes, or the last car of a train that is doomed
abbrev pub completes : SpaceView → Row → Bool
completes view (free car) = true
completes view (free_doomed train car) = length (cars_of view.trains.trains train) == 1
completes view row = false

-- the event clears an anchor
abbrev pub clears : Row → Bool
clears (doom train) = true
clears (move_anchor a to) = true
clears row = false

-- the event moves the object at this address to this train
abbrev pub MovesTo : ℕ → Row → Addr → ℕ → Type 0
MovesTo picked (move_anchor a to) b train = (b ≡ a) × (train ≡ to)
MovesTo picked (move_out a) b train = (b ≡ a) × (train ≡ picked)
MovesTo picked (move_on a to) b train = (b ≡ a) × (train ≡ to)
MovesTo picked row b train = ⊥
