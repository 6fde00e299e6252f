-- Sources that are sought slot by slot, and cars that are sought one by one.
use Rattle.std.specs.Prelude.{ℕ, Bool, ◌&&◌, ◌==◌, if◌then◌else◌, is_some, List, Option, Some, None, option_map, option_and_then}
use Rattle.std.specs.List.{list_any, find}
use Rattle.std.specs.Ordering.{is_lt}
use Rattle.pm_types.specs.Orders.{source_cmp}
use Rattle.pm_types.specs.declared.address.Addr.{Addr}
use Rattle.pm_types.specs.declared.object.Slot.{Slot}
use Rattle.pm_types.specs.declared.source.RefSource.{RefSource}
use Rattle.pm_types.specs.declared.source.RefSource.TheVariants.{Root, Handle, Field}
use Rattle.pm_trains.specs.Trains.{Train, is_among}
use Rattle.pm_view.specs.View.{SpaceView}
use Rattle.pm_view.specs.Reading.{cars_of}
use Rattle.pm_view.specs.Candidates.{least_outside}
use Rattle.pm_view.specs.Events.{went, has_gone, has_change, named_in}
use Rattle.pm_space.specs.Linked.{Linked, queues_of, waiting}

-- the entry of the lesser source
abbrev pub lesser : Option (RefSource × ℕ) → Option (RefSource × ℕ) → Option (RefSource × ℕ)
lesser None other = other
lesser (Some e) None = Some e
lesser (Some e) (Some d) = if is_lt (source_cmp d.0 e.0) then Some d else Some e

-- the object of a slot moved away
abbrev pub has_moved : Slot → Bool
has_moved content = has_gone (went (Some content))

-- this slot is Moved among these
abbrev pub is_moved : List (ℕ × Slot) → ℕ → Bool
is_moved slots slot = list_any (λ e. (e.0 == slot) && has_moved e.1) slots

-- the car of a source that is a field of an object in the train, none where the source is another one
abbrev pub inside_car : List Train → ℕ → RefSource → Option ℕ
inside_car trains train (Root number) = None
inside_car trains train (Handle client register) = None
inside_car trains train (Field a index) = if is_among a.car (cars_of trains train) then Some a.car else None

-- the first of these cars that has a queued change
abbrev pub first_changed : Linked → List ℕ → Option ℕ
first_changed links cars = find (λ car. has_change (waiting (queues_of links) car)) cars

-- the object that the least source outside a train names in the first of these cars that remembers such a source
abbrev pub first_noted : SpaceView → ℕ → List ℕ → Option Addr
first_noted view train cars = option_and_then (λ car. option_map (named_in car) (least_outside view train car)) (find (λ car. is_some (least_outside view train car)) cars)
