-- Which events open a train.
use Rattle.std.proofs.Common.{◌≡◌, ℕ, ◌+◌, ◌==◌, if◌then◌else◌, Bool, true, false, refl, sym, ◌∙◌, List, [], ◌∷◌, ◌++◌, length, drop, Option, Some, None}
use Rattle.std.proofs.lemmas.Bool.{true≢false}
use Rattle.pm_types.specs.declared.address.Addr.{Addr}
use Rattle.pm_types.specs.declared.object.Object.{Object}
use Rattle.pm_types.specs.declared.source.RefSource.{RefSource}
use Rattle.pm_types.specs.declared.source.RefSource.TheVariants.{Root, Handle, Field}
use Rattle.pm_types.specs.declared.source.Change.{Change}
use Rattle.pm_cars.specs.Cars.{object_room}
use Rattle.pm_trains.specs.Trains.{youngest, with_cars, rotated}
use Rattle.pm_trains.proofs.Found.{last_changed, last_emptied, last_pushed}
use Rattle.pm_view.specs.declared.phase.Phase.TheVariants.{Draining}
use Rattle.pm_view.specs.View.{SpaceView}
use Rattle.pm_view.specs.Reading.{object_at, cars_of}
use Rattle.pm_view.specs.Rows.{tail_for, place_in}
use Rattle.pm_view.specs.Candidates.{queue_of}
use Rattle.pm_view.specs.Collecting.{applied_front, put_away, settled, moved_some, moved, swept_some, without_car, completing}
use Rattle.pm_view.specs.Events.{Row, nothing, select, apply, doom, start, fix, move_anchor, move_out, move_on, finish, sweep, free, free_doomed, after, home}
use Rattle.pm_law_course.specs.Course.{opens, IsOpened}

pub record KeepsOpen (view t : SpaceView) : Type 0 where
  pub youngest : youngest t.trains.trains ≡ youngest view.trains.trains
  pub births : t.trains.births ≡ view.trains.births

module _ (view : SpaceView) where
  moved_open : (from : Addr) (train number : ℕ) → KeepsOpen view (moved view from train number)
  moved_open from train number = by_object (object_at view.cars from)
    where
      by_tail : (object : Object) (d : Option ℕ) → KeepsOpen view (settled (put_away view from d train number object) from (place_in view.cars d number) object)
      by_tail object None = record { youngest = last_changed 0 train (λ cars. cars ++ number ∷ []) view.trains.trains; births = refl }
      by_tail object (Some c) = record { youngest = refl; births = refl }

      by_object : (o : Option Object) → KeepsOpen view (moved_some view from train number o)
      by_object None = record { youngest = refl; births = refl }
      by_object (Some object) = by_tail object (tail_for view train (object_room object))

  car_open : (train car : ℕ) → KeepsOpen view (without_car view train car)
  car_open train car = record {
    youngest = last_emptied 0 (with_cars train (λ cars. drop 1 cars) view.trains.trains) ∙ last_changed 0 train (λ cars. drop 1 cars) view.trains.trains;
    births = refl;
  }

  select_open : (train : ℕ) (b : Bool) → b ≡ false → KeepsOpen view (record view { trains = if b then record { trains = rotated view.trains.trains; births = 0 } else view.trains; phase = Draining train })
  select_open train true still = absurd (true≢false still)
  select_open train false still = record { youngest = refl; births = refl }

  select_opens : (train : ℕ) (b : Bool) → b ≡ true → IsOpened view (record view { trains = if b then record { trains = rotated view.trains.trains; births = 0 } else view.trains; phase = Draining train })
  select_opens train true is = record { youngest = last_pushed 0 (youngest view.trains.trains + 1) view.trains.trains; births = refl }
  select_opens train false is = absurd (true≢false (sym is))

  pub open_same : (row : Row) (picked number : ℕ) → opens view row ≡ false → KeepsOpen view (after view picked number row)
  open_same nothing picked number still = record { youngest = refl; births = refl }
  open_same (select train) picked number still = select_open train (train == youngest view.trains.trains) still
  open_same (apply car) picked number still = by_queue (queue_of view car)
    where
      by_queue : (q : List Change) → KeepsOpen view (applied_front view car q)
      by_queue [] = record { youngest = refl; births = refl }
      by_queue (c ∷ cs) = record { youngest = refl; births = refl }
  open_same (doom train) picked number still = record { youngest = refl; births = refl }
  open_same (start car a) picked number still = record { youngest = refl; births = refl }
  open_same (fix car source to) picked number still = by_source source
    where
      by_source : (x : RefSource) → KeepsOpen view (after view picked number (fix car x to))
      by_source (Root n) = record { youngest = refl; births = refl }
      by_source (Handle c r) = record { youngest = refl; births = refl }
      by_source (Field a i) = record { youngest = refl; births = refl }
  open_same (move_anchor a to) picked number still = let was = moved_open a to number in record { youngest = was.youngest; births = was.births }
  open_same (move_out a) picked number still = moved_open a picked number
  open_same (move_on a train) picked number still = moved_open a train number
  open_same (finish car) picked number still = record { youngest = refl; births = refl }
  open_same (sweep a) picked number still = by_object (object_at view.cars a)
    where
      by_object : (o : Option Object) → KeepsOpen view (swept_some view a o)
      by_object None = record { youngest = refl; births = refl }
      by_object (Some object) = record { youngest = refl; births = refl }
  open_same (free car) picked number still = let was = car_open (home view car) car in record { youngest = was.youngest; births = was.births }
  open_same (free_doomed train car) picked number still = by_last (length (cars_of view.trains.trains train) == 1)
    where
      by_last : (b : Bool) → KeepsOpen view (if b then completing (without_car view train car) else without_car view train car)
      by_last true = let was = car_open train car in record { youngest = was.youngest; births = was.births }
      by_last false = car_open train car

  pub opened_then : (row : Row) (picked number : ℕ) → opens view row ≡ true → IsOpened view (after view picked number row)
  opened_then nothing picked number is = absurd (true≢false (sym is))
  opened_then (select train) picked number is = select_opens train (train == youngest view.trains.trains) is
  opened_then (apply car) picked number is = absurd (true≢false (sym is))
  opened_then (doom train) picked number is = absurd (true≢false (sym is))
  opened_then (start car a) picked number is = absurd (true≢false (sym is))
  opened_then (fix car source to) picked number is = absurd (true≢false (sym is))
  opened_then (move_anchor a to) picked number is = absurd (true≢false (sym is))
  opened_then (move_out a) picked number is = absurd (true≢false (sym is))
  opened_then (move_on a train) picked number is = absurd (true≢false (sym is))
  opened_then (finish car) picked number is = absurd (true≢false (sym is))
  opened_then (sweep a) picked number is = absurd (true≢false (sym is))
  opened_then (free car) picked number is = absurd (true≢false (sym is))
  opened_then (free_doomed train car) picked number is = absurd (true≢false (sym is))
