-- What holds of a space where a row comes next.
use Rattle.std.proofs.Common.{◌≡◌, ◌⊎◌, inl, inr, ℕ, true, refl, ap, subst, List, [], ◌∷◌, Option, Some, None}
use Rattle.pm_types.specs.declared.address.Addr.{Addr}
use Rattle.pm_types.specs.declared.source.RefSource.{RefSource}
use Rattle.pm_types.specs.declared.source.Change.{Change}
use Rattle.pm_trains.specs.Trains.{first_car, oldest}
use Rattle.pm_view.specs.declared.phase.Phase.{Phase}
use Rattle.pm_view.specs.declared.phase.Phase.TheVariants.{Idle, Draining, Moving, Sweeping, Doomed}
use Rattle.pm_view.specs.View.{SpaceView}
use Rattle.pm_view.specs.Candidates.{queue_of, least_outside}
use Rattle.pm_view.specs.Events.{Row, nothing, select, apply, doom, start, fix, move_anchor, move_out, move_on, finish, sweep, free, free_doomed, has_change, changed_car, to_note, to_fix, anchor_in, least, lowest_live, named_in, home, idle_row, draining_row, moving_row, sweeping_row, doomed_row, doomed_rows, row_in, next_row}

pub record IsSelecting (view : SpaceView) (train : ℕ) : Type 0 where
  pub idle : view.phase ≡ Idle
  pub oldest : oldest view.trains.trains ≡ Some train

-- a train is drained, no car of it has a queued change, and this is the object to be noted
pub record IsDrained (view : SpaceView) (train : ℕ) (noted : Option Addr) : Type 0 where
  pub draining : view.phase ≡ Draining train
  pub applied : changed_car view train ≡ None
  pub found : to_note view train ≡ noted

-- a car has a queued change: the first of a train that is drained, or the one that is emptied
abbrev pub IsChanged : SpaceView → ℕ → Type 0
IsChanged view car = ((train : ℕ) × (view.phase ≡ Draining train) × (changed_car view train ≡ Some car)) ⊎ ((view.phase ≡ Moving car) × (has_change (queue_of view car) ≡ true))

pub record IsStarting (view : SpaceView) (car : ℕ) (a : Addr) : Type 0 where
  pub train : ℕ
  pub drained : IsDrained view train (Some a)
  pub first : first_car view.trains.trains train ≡ Some car

-- a car is emptied, it has no queued change, and this is the source to be fixed
pub record IsEmptied (view : SpaceView) (car : ℕ) (stale : Option (RefSource × Addr)) : Type 0 where
  pub moving : view.phase ≡ Moving car
  pub applied : queue_of view car ≡ []
  pub goes : to_fix view car ≡ stale

pub record IsMovingAnchor (view : SpaceView) (a : Addr) (to : ℕ) : Type 0 where
  pub car : ℕ
  pub emptied : IsEmptied view car None
  pub anchor : anchor_in car view.anchor ≡ Some (a, to)

pub record IsMovingOut (view : SpaceView) (a : Addr) : Type 0 where
  pub car : ℕ
  pub emptied : IsEmptied view car None
  pub none : anchor_in car view.anchor ≡ None
  pub entry : RefSource × ℕ
  pub outside : least_outside view (home view car) car ≡ Some entry
  pub here : a ≡ named_in car entry

pub record IsMovingOn (view : SpaceView) (a : Addr) (train : ℕ) : Type 0 where
  pub car : ℕ
  pub emptied : IsEmptied view car None
  pub none : anchor_in car view.anchor ≡ None
  pub outside : least_outside view (home view car) car ≡ None
  pub entry : RefSource × ℕ
  pub least : least view car ≡ Some entry
  pub here : a ≡ named_in car entry
  pub home : train ≡ home view car

pub record IsFinishing (view : SpaceView) (car : ℕ) : Type 0 where
  pub emptied : IsEmptied view car None
  pub none : anchor_in car view.anchor ≡ None
  pub least : least view car ≡ None

-- a car of a doomed train, its first
pub record IsFirstDoomed (view : SpaceView) (train car : ℕ) : Type 0 where
  pub doomed : view.phase ≡ Doomed train
  pub first : first_car view.trains.trains train ≡ Some car

-- the car that is swept
abbrev pub IsSwept : SpaceView → ℕ → Type 0
IsSwept view car = (view.phase ≡ Sweeping car) ⊎ ((train : ℕ) × IsFirstDoomed view train car)

pub record IsSweeping (view : SpaceView) (a : Addr) : Type 0 where
  pub swept : IsSwept view a.car
  pub low : lowest_live view a.car ≡ Some a.slot

pub record IsFreeing (view : SpaceView) (car : ℕ) : Type 0 where
  pub sweeping : view.phase ≡ Sweeping car
  pub empty : lowest_live view car ≡ None

pub record IsFreeingDoomed (view : SpaceView) (train car : ℕ) : Type 0 where
  pub doomed : IsFirstDoomed view train car
  pub empty : lowest_live view car ≡ None

-- no collection is in progress and no train has a car, or the train of the phase has none
abbrev pub IsNothing : SpaceView → Type 0
IsNothing view =
    ((view.phase ≡ Idle) × (oldest view.trains.trains ≡ None)) ⊎ ((train : ℕ) × ((view.phase ≡ Draining train) ⊎ (view.phase ≡ Doomed train)) × (first_car view.trains.trains train ≡ None))

-- what holds where a row comes next
abbrev pub Comes : SpaceView → Row → Type 0
Comes view nothing = IsNothing view
Comes view (select train) = IsSelecting view train
Comes view (apply car) = IsChanged view car
Comes view (doom train) = IsDrained view train None
Comes view (start car a) = IsStarting view car a
Comes view (fix car source to) = IsEmptied view car (Some (source, to))
Comes view (move_anchor a to) = IsMovingAnchor view a to
Comes view (move_out a) = IsMovingOut view a
Comes view (move_on a train) = IsMovingOn view a train
Comes view (finish car) = IsFinishing view car
Comes view (sweep a) = IsSweeping view a
Comes view (free car) = IsFreeing view car
Comes view (free_doomed train car) = IsFreeingDoomed view train car

module _ (view : SpaceView) where
  idle_comes : view.phase ≡ Idle → (o : Option ℕ) → oldest view.trains.trains ≡ o → Comes view (idle_row o)
  idle_comes at None is = inl (at, is)
  idle_comes at (Some train) is = record { idle = at; oldest = is }

  draining_comes : (train : ℕ) → view.phase ≡ Draining train → (f c : Option ℕ) (n : Option Addr) → first_car view.trains.trains train ≡ f → changed_car view train ≡ c → to_note view train ≡ n → Comes view (draining_row train f c n)
  draining_comes train at f (Some car) n first changed noted = inl (train, at, changed)
  draining_comes train at f None None first changed noted = record { draining = at; applied = changed; found = noted }
  draining_comes train at None None (Some a) first changed noted = inr (train, inl at, first)
  draining_comes train at (Some car) None (Some a) first changed noted = record { train = train; drained = record { draining = at; applied = changed; found = noted }; first = first }

  moving_comes : (car : ℕ) → view.phase ≡ Moving car → (q : List Change) (s : Option (RefSource × Addr)) (a : Option (Addr × ℕ)) (e f : Option (RefSource × ℕ)) → queue_of view car ≡ q → to_fix view car ≡ s → anchor_in car view.anchor ≡ a
      → least_outside view (home view car) car ≡ e → least view car ≡ f → Comes view (moving_row car (home view car) q s a e f)
  moving_comes car at (change ∷ changes) s a e f queue stale anchor outside other = inr (at, ap has_change queue)
  moving_comes car at [] (Some x) a e f queue stale anchor outside other = record { moving = at; applied = queue; goes = stale }
  moving_comes car at [] None (Some a) e f queue stale anchor outside other = record { car = car; emptied = record { moving = at; applied = queue; goes = stale }; anchor = anchor }
  moving_comes car at [] None None (Some e) f queue stale anchor outside other = record { car = car; emptied = record { moving = at; applied = queue; goes = stale }; none = anchor; entry = e; outside = outside; here = refl }
  moving_comes car at [] None None None (Some f) queue stale anchor outside other =
      record { car = car; emptied = record { moving = at; applied = queue; goes = stale }; none = anchor; outside = outside; entry = f; least = other; here = refl; home = refl }
  moving_comes car at [] None None None None queue stale anchor outside other = record { emptied = record { moving = at; applied = queue; goes = stale }; none = anchor; least = other }

  sweeping_comes : (car : ℕ) → view.phase ≡ Sweeping car → (o : Option ℕ) → lowest_live view car ≡ o → Comes view (sweeping_row car o)
  sweeping_comes car at None low = record { sweeping = at; empty = low }
  sweeping_comes car at (Some slot) low = record { swept = inl at; low = low }

  doomed_comes : (train car : ℕ) → IsFirstDoomed view train car → (o : Option ℕ) → lowest_live view car ≡ o → Comes view (doomed_row train car o)
  doomed_comes train car at None low = record { doomed = at; empty = low }
  doomed_comes train car at (Some slot) low = record { swept = inr (train, at); low = low }

  doomed_cars : (train : ℕ) → view.phase ≡ Doomed train → (o : Option ℕ) → first_car view.trains.trains train ≡ o → Comes view (doomed_rows view train o)
  doomed_cars train at None first = inr (train, inr at, first)
  doomed_cars train at (Some car) first = doomed_comes train car (record { doomed = at; first = first }) (lowest_live view car) refl

  phase_comes : (p : Phase) → view.phase ≡ p → Comes view (row_in view p)
  phase_comes Idle at = idle_comes at (oldest view.trains.trains) refl
  phase_comes (Draining train) at = draining_comes train at _ _ _ refl refl refl
  phase_comes (Moving car) at = moving_comes car at _ _ _ _ _ refl refl refl refl refl
  phase_comes (Sweeping car) at = sweeping_comes car at (lowest_live view car) refl
  phase_comes (Doomed train) at = doomed_cars train at (first_car view.trains.trains train) refl

  -- it holds of the row that comes next
  pub comes : Comes view (next_row view)
  comes = phase_comes view.phase refl

  pub comes_where : (row : Row) → next_row view ≡ row → Comes view row
  comes_where row is = subst (Comes view) is comes
