-- The front of the train that is drained in which no change waits.
use Rattle.std.specs.Prelude.{◌≡◌, ℕ, List, Option, None, take}
use Rattle.std.specs.List.{find}
use Rattle.std.proofs.Props.{props}
use Rattle.pm_view.specs.declared.phase.Phase.TheVariants.{Draining}
use Rattle.pm_view.specs.View.{SpaceView}
use Rattle.pm_view.specs.Reading.{cars_of}
use Rattle.pm_view.specs.Candidates.{queue_of}
use Rattle.pm_view.specs.Events.{has_change}

-- the first of these cars in whose queue a change waits
abbrev pub first_waiting : SpaceView → List ℕ → Option ℕ
first_waiting view cars = find (λ car. has_change (queue_of view car)) cars

-- while a train is drained, no change waits in the first so many of its cars
abbrev pub IsQuiet : SpaceView → ℕ → Type 0
IsQuiet view count = (train : ℕ) → view.phase ≡ Draining train → first_waiting view (take count (cars_of view.trains.trains train)) ≡ None

-- it does so in one way
pub IsQuiet-prop : (view : SpaceView) (count : ℕ) → IsProp (IsQuiet view count)
IsQuiet-prop view count = hlevel props
