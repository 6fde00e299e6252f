-- What an event answers, and the space after it.
use Rattle.std.specs.Prelude.{◌≡◌, ◌≢◌, ◌↔◌, ℕ, ◌+◌, ◌<◌, ◌≤◌, ◌==◌, Bool, true, false, not, is_some, List, length, Option, Some, None, Result, IfOk, OnErr}
use Rattle.std.specs.Borrow.{Bor}
use Rattle.std.specs.Fn.{Shared}
use Rattle.std.specs.FinMap.{get}
use Rattle.pm_types.specs.declared.address.Addr.{Addr}
use Rattle.pm_types.specs.declared.no_memory.NoMemory.{NoMemory}
use Rattle.pm_types.specs.declared.event.Step.{Step}
use Rattle.pm_types.specs.declared.event.Step.TheVariants.{Nothing, Selected, Applied, Doomed, Started, Fixed, Moved, Finished, Swept, Freed}
use Rattle.pm_place.specs.Choosers.{IsPicked}
use Rattle.pm_trains.specs.Trains.{train_of}
use Rattle.pm_view.specs.declared.phase.Phase.TheVariants as phases
use Rattle.pm_model.specs.World.{World}
use Rattle.pm_model.specs.Reachability.{IsReachable}
use Rattle.pm_view.specs.View.{SpaceView}
use Rattle.pm_view.specs.Represents.{IsHeld, Represents}
use Rattle.pm_view.specs.Reading.{cars_of}
use Rattle.pm_view.specs.Events.{Row, nothing, select, apply, doom, start, fix, move_anchor, move_out, move_on, finish, sweep, free, free_doomed, next_row, after, ways_out, MayPick, MayPlace, moving_id, goal_of, ended_by, completes}
use Rattle.pm_view.specs.Counts.{IsStanding, IsStandingAt, IsPlaced}
use Rattle.pm_view.specs.Stale.{IsSole}
use Rattle.pm_view.specs.Work.{work, lowers}
use Rattle.pm_view.specs.Bounded.{KeepsRank, KeepsSunk}
use Rattle.pm_space.specs.declared.parts.Parts.{Parts}
use Rattle.pm_space.specs.Quiet.{IsQuiet}
use Rattle.pm_space.specs.Shown.{view, KeepsRest}
use Rattle.pm_evac.specs.Relocate.Changed.{identity}

-- what an event answers, where a train is picked this one
abbrev pub step_of : SpaceView → ℕ → Row → Step
step_of view picked nothing = Nothing
step_of view picked (select train) = Selected train
step_of view picked (apply car) = Applied car
step_of view picked (doom train) = Doomed train
step_of view picked (start car a) = Started car (not (is_some view.anchor))
step_of view picked (fix car source to) = Fixed car
step_of view picked (move_anchor a to) = Moved (identity view a) to
step_of view picked (move_out a) = Moved (identity view a) picked
step_of view picked (move_on a train) = Moved (identity view a) train
step_of view picked (finish car) = Finished car
step_of view picked (sweep a) = Swept (identity view a)
step_of view picked (free car) = Freed car true
step_of view picked (free_doomed train car) = Freed car (length (cars_of view.trains.trains train) == 1)

-- the next event was made: what it picks is among what may be picked, and this is the space after it, and its answer
pub record IsEvent (old new : SpaceView) (step : Step) : Type 0 where
  pub picked : ℕ
  pub number : ℕ
  pub may_pick : MayPick old picked (next_row old)
  pub may_place : MayPlace old number (next_row old)
  pub after : new ≡ after old picked number (next_row old)
  pub answer : step ≡ step_of old picked (next_row old)

-- the event applies a change
abbrev pub IsApply : Row → Type 0
IsApply (apply car) = Unit {0}
IsApply row = ⊥

-- the event fixes a source
abbrev pub IsFix : Row → Type 0
IsFix (fix car source to) = Unit {0}
IsFix row = ⊥

-- the event moves an object
abbrev pub IsMove : Row → Type 0
IsMove (move_anchor a to) = Unit {0}
IsMove (move_out a) = Unit {0}
IsMove (move_on a train) = Unit {0}
IsMove row = ⊥

-- with the event the sweeping of a car begins
abbrev pub IsFinish : Row → Type 0
IsFinish (finish car) = Unit {0}
IsFinish row = ⊥

-- the event sweeps an object
abbrev pub IsSweep : Row → Type 0
IsSweep (sweep a) = Unit {0}
IsSweep row = ⊥

-- the event frees a car
abbrev pub IsFree : Row → Type 0
IsFree (free car) = Unit {0}
IsFree (free_doomed train car) = Unit {0}
IsFree row = ⊥

-- the event may pick a train: a car begins to be emptied, or an object moves out
abbrev pub IsPicking : Row → Type 0
IsPicking (start car a) = Unit {0}
IsPicking (move_out a) = Unit {0}
IsPicking row = ⊥

-- The event may take memory. None comes, a train is doomed and a car begins to be swept without any.
abbrev pub TakesMemory : Row → Type 0
TakesMemory nothing = ⊥
TakesMemory (doom train) = ⊥
TakesMemory (finish car) = ⊥
TakesMemory row = Unit {0}

-- ---- what an event that was made keeps

-- the space stands for each world for which it stood
abbrev pub KeepsWorlds : SpaceView → SpaceView → Type 0
KeepsWorlds old new = (world : World) → Represents old world → Represents new world

-- The place of one object at most is another: that of the object that the event moves. No object begins to stand, and
-- those that end to stand lie in cars that are set aside then. What a world reaches stands.
pub record MovesOneAtMost (old new : SpaceView) (picked : ℕ) : Type 0 where
  pub moved : (id : ℕ) → moving_id old (next_row old) ≡ Some id → IsPlaced new id (goal_of picked (next_row old))
  pub before : (id train : ℕ) → moving_id old (next_row old) ≢ Some id → IsPlaced new id train → IsPlaced old id train
  pub after : (id train : ℕ) (a : Addr) → moving_id old (next_row old) ≢ Some id → IsStandingAt old id a → train_of old.trains.trains a.car ≡ Some train → ended_by new (next_row old) a.car ≡ false
      → IsPlaced new id train
  pub reached : (world : World) (id : ℕ) → Represents old world → IsReachable world.heap (IsHeld world) id → IsStanding new id

-- where a collection is in progress, and the event does not complete it, less work is left of it
abbrev pub LowersWork : SpaceView → SpaceView → Type 0
LowersWork old new = old.phase ≢ phases.Idle → completes old (next_row old) ≡ false → work new + lowers (next_row old) ≤ work old

-- the answer says that a collection of a train began
abbrev pub IsSelected : Step → Type 0
IsSelected (Selected train) = Unit {0}
IsSelected step = ⊥

-- the answer says that a collection was completed
abbrev pub is_completing : Step → Bool
is_completing (Freed car completed) = completed
is_completing step = false

-- no car stands
abbrev pub HasNoCar : SpaceView → Type 0
HasNoCar view = (car : ℕ) → get view.cars car ≡ None

-- In which phase an event answers what: `Nothing` exactly in Idle where no car stands, and `Selected` exactly in Idle where
-- one does. So a collection that is in progress always has a next event.
pub record AnswersByPhase (old : SpaceView) (step : Step) : Type 0 where
  pub rests : (step ≡ Nothing) ↔ ((old.phase ≡ phases.Idle) × HasNoCar old)
  pub selects : IsSelected step ↔ ((old.phase ≡ phases.Idle) × (HasNoCar old → ⊥))

-- where a collection is in progress, and the answer does not say that it was completed, at least one less work is left of it
abbrev pub MovesOn : SpaceView → SpaceView → Step → Type 0
MovesOn old new step = old.phase ≢ phases.Idle → is_completing step ≡ false → work new < work old

-- what a space keeps of quiet cars and of the slot that moved holds also once the next event was made
pub record HoldOnceMade (old : SpaceView) (quiet : ℕ) (moved : Option ℕ) : Type 0 where
  pub still : (new : SpaceView) (step : Step) → IsEvent old new step → IsQuiet new quiet
  pub sole : (new : SpaceView) (step : Step) → IsEvent old new step → IsSole new moved

-- ---- who picks a train

module _ {F : Type 0} (calls : Shared F (Bor (List ℕ) × Unit {0}) ℕ) (choose : F) where
  -- where no anchor stands the train is the chooser's pick among those to which the object may go
  abbrev pub IsNoted : SpaceView → Option (Addr × ℕ) → Addr → ℕ → Type 0
  IsNoted view None a picked = IsPicked calls choose (ways_out view a) picked
  IsNoted view (Some anchor) a picked = Unit {0}

  -- where an event picks a train it is the chooser's pick among those to which the object may go
  abbrev pub IsChosen : SpaceView → ℕ → Row → Type 0
  IsChosen view picked (start car a) = IsNoted view view.anchor a picked
  IsChosen view picked (move_out a) = IsPicked calls choose (ways_out view a) picked
  IsChosen view picked row = Unit {0}

  -- the next event was made, with the chooser's pick
  pub record IsChosenEvent (old new : SpaceView) (step : Step) : Type 0 where
    pub event : IsEvent old new step
    pub chosen : IsChosen old event.picked (next_row old)

  -- the next event was made, with the chooser's pick, and what follows from that: of places and of work, of what
  -- fits and the rank, of sunk sets, and of the phase in which it is answered
  pub record IsMade (old new : SpaceView) (step : Step) : Type 0 where
    pub event : IsEvent old new step
    pub chosen : IsChosen old event.picked (next_row old)
    pub places : MovesOneAtMost old new event.picked
    pub work : LowersWork old new
    pub rank : KeepsRank old new
    pub sunk : KeepsSunk old new
    pub phase : AnswersByPhase old step
    pub progress : MovesOn old new step

-- What a call says that makes the next event: it was made, with the chooser's pick, or after want of memory all that is
-- seen is as it was, and the event may take memory; in any case each world for which the space stood stays, the frozen
-- cars, and the chooser.
pub record MakesEvent {F : Type 0} (calls : Shared F (Bor (List ℕ) × Unit {0}) ℕ) (old new : Parts F) (result : Result Step NoMemory) : Type 0 where
  pub ok : IfOk result (λ step. IsMade calls old.place (view old) (view new) step)
  pub worlds : KeepsWorlds (view old) (view new)
  pub err : OnErr result (view new ≡ view old)
  pub short : OnErr result (TakesMemory (next_row (view old)))
  pub rest : KeepsRest old new
