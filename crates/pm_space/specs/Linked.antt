-- Remembered sets and queues of cars, as a space shows them.
use Rattle.std.specs.Prelude.{◌≡◌, ℕ, ◌+◌, ◌≤◌, ◌==◌, ◌&&◌, Bool, not, cond, if◌then◌else◌, List, [], ◌∷◌, Option, Some, None, IsSome}
use Rattle.std.specs.List.{sum_by}
use Rattle.std.specs.Ordering.{nat_cmp}
use Rattle.std.specs.BTreeMap as tree
use Rattle.std.specs.FinMap.{FinMap, get, insert, remove, empty}
use Rattle.std.specs.Option.{unwrap_or}
use Rattle.pm_types.specs.Mapped.{mapped}
use Rattle.pm_types.specs.declared.address.Addr.{Addr}
use Rattle.pm_types.specs.declared.source.Change.{Change}
use Rattle.pm_trains.specs.Trains.{Train, train_of}
use Rattle.pm_types.specs.declared.source.RefSource.{RefSource}
use Rattle.pm_view.specs.Sources.{outside}
use Rattle.pm_view.specs.Barrier.{told, left, in_one_car}
use Rattle.pm_view.specs.Effective.{with_source}
use Rattle.pm_view.specs.Collecting.{set_takes}
use Rattle.pm_view.specs.View.{Sources, Sets, Queues}
use Rattle.pm_space.specs.declared.links.Links.{Links}

-- the remembered set and the queue of each car
abbrev pub Linked : Type 0
Linked = FinMap nat_cmp Links

-- a car's remembered set
abbrev pub set_of : Links → Sources
set_of links = links.set

-- a car's queue, without its room
abbrev pub queue_of : Links → List Change
queue_of links = links.queue.changes

-- the remembered set of each car
abbrev pub sets_of : Linked → Sets
sets_of links = mapped set_of links

-- the queue of each car
abbrev pub queues_of : Linked → Queues
queues_of links = mapped queue_of links

-- a queue has room for so many more changes; where no car is, none is pushed
abbrev pub HasRoomOf : Option Links → ℕ → Type 0
HasRoomOf None count = Unit {0}
HasRoomOf (Some links) count = count ≤ links.queue.spare

-- the car's queue has room for so many more changes
abbrev pub HasRoom : Linked → ℕ → ℕ → Type 0
HasRoom links car count = HasRoomOf (get links car) count

-- where an address is given, the queue of its car has room for a change
abbrev pub HasRoomFor : Linked → Option Addr → Type 0
HasRoomFor links None = Unit {0}
HasRoomFor links (Some a) = HasRoom links a.car 1

-- how many changes a car may be told because of this address
abbrev pub told_by : ℕ → Option Addr → ℕ
told_by car None = 0
told_by car (Some a) = cond (a.car == car) 1 0

-- what is counted for a car
abbrev pub counted : tree.BTreeMap ℕ ℕ → ℕ → ℕ
counted counts car = unwrap_or (tree.get nat_cmp counts car) 0

-- how often a car stands in a list
abbrev pub times : ℕ → List ℕ → ℕ
times car cars = sum_by (λ c. cond (c == car) 1 0) cars

-- each car that has a remembered set is in a train
abbrev pub AreHoused : Sets → List Train → Type 0
AreHoused sets trains = (car : ℕ) → IsSome (get sets car) → IsSome (train_of trains car)

-- the queue of each car that had links has the room that it had
abbrev pub KeepsRoom : Linked → Linked → Type 0
KeepsRoom old new = (car count : ℕ) → IsSome (get old car) → HasRoom old car count → HasRoom new car count

-- of the room that the queues had, so many changes were used at most
abbrev pub UsesRoom : Linked → Linked → (ℕ → ℕ) → Type 0
UsesRoom old new used = (car count : ℕ) → HasRoom old car (count + used car) → HasRoom new car count

-- the queues heard of these changes, and of no others
abbrev pub Tells : Linked → Linked → List (ℕ × Change) → Type 0
Tells old new changes = queues_of new ≡ told (queues_of old) changes

-- a car hears of the source: the source lies outside it, and it is not set aside
abbrev pub is_heard : (ℕ → Bool) → RefSource → ℕ → Bool
is_heard aside source car = outside car source && not (aside car)

-- what the old address's car is told, unless the new address lies in it too
abbrev pub left_for_another : (ℕ → Bool) → RefSource → Option Addr → Option Addr → List (ℕ × Change)
left_for_another aside source old new = if in_one_car old new then [] else left aside source old

-- the changes that wait in a car's queue, the front first, none where no such car is
abbrev pub waiting : Queues → ℕ → List Change
waiting queues car = unwrap_or (get queues car) []

-- a remembered set that took the first of these changes
abbrev pub took_front : Sources → List Change → Sources
took_front set [] = set
took_front set (change ∷ changes) = with_source set change.source change.slot

-- the remembered sets where that of a car took the first of these changes
abbrev pub with_front : Sets → ℕ → List Change → Sets
with_front sets car [] = sets
with_front sets car (change ∷ changes) = set_takes sets car change

-- the queues where that of a car, which has these changes, lost the first
abbrev pub without_front : Queues → ℕ → List Change → Queues
without_front queues car [] = queues
without_front queues car (change ∷ changes) = insert queues car changes

-- the remembered sets where that of a car has forgotten a source
abbrev pub without_source : Sets → ℕ → RefSource → Sets
without_source sets car source = insert sets car (remove (unwrap_or (get sets car) empty) source)
