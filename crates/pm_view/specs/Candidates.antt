-- References that come from outside a train, and the trains to which an object of it may go.
use Rattle.std.specs.Prelude.{ℕ, Bool, true, false, not, ◌==◌, ◌&&◌, if◌then◌else◌, List, [], ◌∷◌, ◌++◌, map, Option, is_some}
use Rattle.std.specs.Option.{unwrap_or}
use Rattle.std.specs.List.{find, filter, list_any}
use Rattle.std.specs.FinMap.{get, entries, empty}
use Rattle.pm_types.specs.declared.address.Addr.{Addr}
use Rattle.pm_types.specs.declared.source.RefSource.{RefSource}
use Rattle.pm_types.specs.declared.source.RefSource.TheVariants.{Root, Handle, Field}
use Rattle.pm_types.specs.declared.source.Change.{Change}
use Rattle.pm_trains.specs.Trains.{Train, is_among, youngest}
use Rattle.pm_view.specs.Sources.{lies_in}
use Rattle.pm_view.specs.View.{Sources, SpaceView}
use Rattle.pm_view.specs.Reading.{cars_of}

-- the remembered set of a car, with nothing in it where no such car stands
abbrev pub set_of : SpaceView → ℕ → Sources
set_of view car = unwrap_or (get view.sets car) empty

-- the queued changes of a car, the front first, none where no such car stands
abbrev pub queue_of : SpaceView → ℕ → List Change
queue_of view car = unwrap_or (get view.queues car) []

-- the source is no field of an object in the train
abbrev pub is_beyond : List Train → ℕ → RefSource → Bool
is_beyond trains train source = not (lies_in (λ car. is_among car (cars_of trains train)) source)

-- the least source outside the train that is remembered by a car, with the slot that it names
abbrev pub least_outside : SpaceView → ℕ → ℕ → Option (RefSource × ℕ)
least_outside view train car = find (λ e. is_beyond view.trains.trains train e.0) (entries (set_of view car))

-- the first car of a train, in the train's order, that remembers a source outside the train
abbrev pub referenced_car : SpaceView → ℕ → Option ℕ
referenced_car view train = find (λ car. is_some (least_outside view train car)) (cars_of view.trains.trains train)

-- the source is a root or a register
abbrev pub is_bare : RefSource → Bool
is_bare (Root number) = true
is_bare (Handle client register) = true
is_bare (Field a index) = false

-- a source that passes is remembered for the object at this address
abbrev pub is_named_by : SpaceView → Addr → (RefSource → Bool) → Bool
is_named_by view a passes = list_any (λ e. (e.1 == a.slot) && passes e.0) (entries (set_of view a.car))

-- an object of another train names the object at this address
abbrev pub is_named_from : SpaceView → ℕ → Addr → Train → Bool
is_named_from view train a other = not (other.number == train) && is_named_by view a (λ source. lies_in (λ car. is_among car other.cars) source)

-- the other trains that have an object that names the object at this address, ascending
abbrev pub naming_trains : SpaceView → ℕ → Addr → List ℕ
naming_trains view train a = map (λ (other : Train). other.number) (filter (is_named_from view train a) view.trains.trains)

-- The trains to which the object at this address may go: those that name it, ascending, and the open train behind them
-- where a root or a register names it and the open train is not among them.
abbrev pub candidates : SpaceView → ℕ → Addr → List ℕ
candidates view train a =
    let naming = naming_trains view train a in
    let open_train = youngest view.trains.trains in
    if is_named_by view a is_bare && not (is_among open_train naming) then naming ++ open_train ∷ [] else naming
