-- What the laws of a collection's course speak of.
use Rattle.std.specs.Prelude.{◌≡◌, ℕ, ◌+◌, Bool, true, false, ◌==◌, List, Option, Some, None}
use Rattle.pm_trains.specs.Trains.{Train, train_of, youngest}
use Rattle.pm_view.specs.declared.phase.Phase.{Phase}
use Rattle.pm_view.specs.declared.phase.Phase.TheVariants.{Idle, Draining, Moving, Sweeping, Doomed}
use Rattle.pm_view.specs.View.{SpaceView}
use Rattle.pm_view.specs.Counts.{IsPlaced}
use Rattle.pm_view.specs.Events.{Row, select, start}

-- the event opens a new train: it selects the one that is open
abbrev pub opens : SpaceView → Row → Bool
opens view (select train) = train == youngest view.trains.trains
opens view row = false

-- the open train is a new one, under the next number, and no object was born in it
pub record IsOpened (view t : SpaceView) : Type 0 where
  pub youngest : youngest t.trains.trains ≡ youngest view.trains.trains + 1
  pub births : t.trains.births ≡ 0

-- the event notes an anchor where none stands
abbrev pub notes : Row → Bool
notes (start car a) = true
notes row = false

-- in this phase the train is the one that is collected
abbrev pub train_in : Phase → List Train → Option ℕ
train_in Idle trains = None
train_in (Draining train) trains = Some train
train_in (Moving car) trains = train_of trains car
train_in (Sweeping car) trains = train_of trains car
train_in (Doomed train) trains = Some train

-- the number of the train that is collected, none where no collection is in progress
abbrev pub collected : SpaceView → Option ℕ
collected view = train_in view.phase view.trains.trains

-- the object of this identity stands in the open train
abbrev pub IsPlacedInOpen : SpaceView → ℕ → Type 0
IsPlacedInOpen view id = IsPlaced view id (youngest view.trains.trains)
