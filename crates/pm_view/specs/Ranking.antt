-- How far the collections have come: what fits, and the rank.
use Rattle.std.specs.Prelude.{ℕ, ◌+◌, ◌-◌, ◌*◌, ◌≤◌, ◌==◌, Bool, true, false, cond, nat_le, List, [], ◌∷◌, length, Option, Some, None}
use Rattle.std.specs.List.{filter}
use Rattle.pm_types.specs.declared.address.Addr.{Addr}
use Rattle.pm_trains.specs.declared.trains.TheConstants.{BIRTHS}
use Rattle.pm_trains.specs.Trains.{Train, youngest}
use Rattle.pm_view.specs.declared.phase.Phase.{Phase}
use Rattle.pm_view.specs.declared.phase.Phase.TheVariants.{Idle, Draining, Moving, Sweeping, Doomed}
use Rattle.pm_view.specs.View.{SpaceView}
use Rattle.pm_view.specs.Counts.{standing_of, old}

-- how many births the train of this number still takes: none unless it is open
abbrev pub taking : SpaceView → ℕ → ℕ
taking view number = cond (number == youngest view.trains.trains) (BIRTHS - view.trains.births) 0

-- A train of this number was opened, and the objects in the trains numbered up to it, with the births that it still
-- takes while it is open, are at most so many.
pub record Fits (view : SpaceView) (number objects : ℕ) : Type 0 where
  pub given : number ≤ youngest view.trains.trains
  pub few : old view number + taking view number ≤ objects

-- the trains that are numbered up to this one, the oldest first
abbrev pub up_to : ℕ → List Train → List Train
up_to number trains = filter (λ (train : Train). nat_le train.number number) trains

-- the objects of a train, with the births that it still takes while it is open
abbrev pub content : SpaceView → Train → ℕ
content view train = standing_of view train + taking view train.number

-- in this phase a car is emptied or swept, or a train is given up
abbrev pub is_emptying : Phase → Bool
is_emptying Idle = false
is_emptying (Draining train) = false
is_emptying (Moving car) = true
is_emptying (Sweeping car) = true
is_emptying (Doomed train) = true

-- the place of a car in a list, counted from 1
abbrev pub place_of : ℕ → List ℕ → ℕ
place_of car [] = 1
place_of car (c ∷ cars) = cond (c == car) 1 (place_of car cars + 1)

-- How many cars the collections may take from the oldest train until an object leaves it: up to the anchor's car; and
-- where no anchor stands as many as it may have objects, and one more while its first car goes.
abbrev pub way : SpaceView → Train → Option (Addr × ℕ) → ℕ
way view train (Some anchor) = place_of anchor.0.car train.cars
way view train None = content view train + cond (is_emptying view.phase) 1 0

-- for so many trains behind the oldest, so many objects in it and such a way
abbrev pub value : ℕ → ℕ → ℕ → ℕ → ℕ
value objects behind many far = behind * ((objects + 2) * (objects + 2)) + many * (objects + 2) + far

abbrev pub rank_of : SpaceView → ℕ → List Train → ℕ
rank_of view objects [] = 0
rank_of view objects (train ∷ trains) = value objects (length trains) (content view train) (way view train view.anchor)

-- The rank: how many collections may be completed until no train numbered up to this one stands, where the objects in
-- them are at most so many.
abbrev pub rank : SpaceView → ℕ → ℕ → ℕ
rank view number objects = rank_of view objects (up_to number view.trains.trains)
