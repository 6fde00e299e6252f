-- How much work is left of a collection.
use Rattle.std.specs.Prelude.{ℕ, ◌+◌, ◌*◌, List, length}
use Rattle.std.specs.Option.{unwrap_or}
use Rattle.std.specs.List.{sum_by}
use Rattle.std.specs.FinMap.{get, len}
use Rattle.pm_trains.specs.Trains.{first_car}
use Rattle.pm_view.specs.declared.phase.Phase.{Phase}
use Rattle.pm_view.specs.declared.phase.Phase.TheVariants.{Idle, Draining, Moving, Sweeping, Doomed}
use Rattle.pm_view.specs.View.{SpaceView}
use Rattle.pm_view.specs.Reading.{cars_of}
use Rattle.pm_view.specs.Counts.{live_in}
use Rattle.pm_view.specs.Candidates.{set_of, queue_of}
use Rattle.pm_view.specs.Events.{Row, nothing, select, apply, doom, start, fix, move_anchor, move_out, move_on, finish, sweep, free, free_doomed}

-- how many changes are queued for a car
abbrev pub queued : SpaceView → ℕ → ℕ
queued view car = length (queue_of view car)

-- how many sources a car remembers
abbrev pub remembered : SpaceView → ℕ → ℕ
remembered view car = len (set_of view car)

-- how many objects a car has
abbrev pub objects_in : SpaceView → ℕ → ℕ
objects_in view car = live_in (get view.cars car)

-- what a car that is emptied costs: three for each queued change, two for each remembered source, and 768 for each object,
-- which is three times the greatest number of fields and three more
abbrev pub emptying : SpaceView → ℕ → ℕ → ℕ
emptying view changes car = 3 * changes + 2 * remembered view car + 768 * objects_in view car

-- what a train that is doomed costs: one for each object and one for each car
abbrev pub dooming : SpaceView → List ℕ → ℕ
dooming view cars = sum_by (objects_in view) cars + length cars

-- the first car of a train
abbrev pub front_car : SpaceView → ℕ → ℕ
front_car view train = unwrap_or (first_car view.trains.trains train) 0

-- the work that is left in a phase
abbrev pub work_in : SpaceView → Phase → ℕ
work_in view Idle = 0
work_in view (Draining train) =
    let cars = cars_of view.trains.trains train in emptying view (sum_by (queued view) cars) (front_car view train) + dooming view cars + 4
work_in view (Moving car) = emptying view (queued view car) car + 2
work_in view (Sweeping car) = objects_in view car + 1
work_in view (Doomed train) = dooming view (cars_of view.trains.trains train)

-- the work that is left
abbrev pub work : SpaceView → ℕ
work view = work_in view view.phase

-- by how much an event lowers the work that is left, at least
abbrev pub lowers : Row → ℕ
lowers nothing = 0
lowers (select train) = 0
lowers (apply car) = 1
lowers (doom train) = 4
lowers (start car a) = 3
lowers (fix car source to) = 2
lowers (move_anchor a to) = 3
lowers (move_out a) = 3
lowers (move_on a train) = 3
lowers (finish car) = 1
lowers (sweep a) = 1
lowers (free car) = 1
lowers (free_doomed train car) = 1
