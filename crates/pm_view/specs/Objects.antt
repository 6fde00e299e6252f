-- What becomes of the objects that stand.
use Rattle.std.specs.Prelude.{◌≡◌, ℕ, ◌+◌, false, nat_le, if◌then◌else◌, Some, None, IsSome}
use Rattle.std.specs.FinMap.{get}
use Rattle.pm_types.specs.declared.address.Addr.{Addr}
use Rattle.pm_trains.specs.Trains.{train_of}
use Rattle.pm_trains.specs.Trains as trains
use Rattle.pm_view.specs.Sources.{same_address}
use Rattle.pm_view.specs.View.{SpaceView}
use Rattle.pm_view.specs.Reading.{is_aside, id_at}
use Rattle.pm_trains.specs.declared.trains.TheConstants.{BIRTHS}

-- the objects of a space stay where they are, in the trains where they are, and the same cars are set aside
pub record KeepsObjects (view t : SpaceView) : Type 0 where
  pub trains : t.trains ≡ view.trains
  pub aside : (car : ℕ) → is_aside t car ≡ is_aside view car
  pub ids : (a : Addr) → id_at t a ≡ id_at view a

-- One object more stands, at a place that had none, in the open train; every other one stays where it was, in its
-- train. The open train is a new one exactly where 1,024 objects were born in the one before.
pub record AddsObject (view t : SpaceView) (id : ℕ) (place : Addr) : Type 0 where
  pub none : id_at view place ≡ None
  pub here : id_at t place ≡ Some id
  pub free : is_aside t place.car ≡ false
  pub home : train_of t.trains.trains place.car ≡ Some (trains.youngest t.trains.trains)
  pub ids : (a : Addr) → same_address place a ≡ false → id_at t a ≡ id_at view a
  pub aside : (car : ℕ) → is_aside t car ≡ is_aside view car
  pub homes : (car : ℕ) → IsSome (get view.cars car) → train_of t.trains.trains car ≡ train_of view.trains.trains car
  pub youngest : trains.youngest t.trains.trains ≡ (if nat_le BIRTHS view.trains.births then trains.youngest view.trains.trains + 1 else trains.youngest view.trains.trains)
  pub births : t.trains.births ≡ (if nat_le BIRTHS view.trains.births then 1 else view.trains.births + 1)
