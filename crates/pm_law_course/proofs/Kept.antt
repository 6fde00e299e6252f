-- Rows that leave the phase, the count of completed collections and the anchor as they are.
use Rattle.std.proofs.Common.{◌≡◌, ℕ, nat_le, if◌then◌else◌, Bool, true, false, refl, ◌∙◌, List, [], ◌∷◌, Option, Some, None, zero, suc}
use Rattle.pm_types.specs.declared.limits.TheConstants.{REGISTERS}
use Rattle.pm_types.specs.declared.address.Addr.{Addr}
use Rattle.pm_types.specs.declared.object.Object.{Object}
use Rattle.pm_types.specs.declared.source.RefSource.{RefSource}
use Rattle.pm_types.specs.declared.source.RefSource.TheVariants.{Root, Handle, Field}
use Rattle.pm_types.specs.declared.source.Change.{Change}
use Rattle.pm_types.specs.declared.command.Cmd.{Cmd}
use Rattle.pm_cars.specs.Cars.{object_room}
use Rattle.pm_trains.specs.Trains.{youngest, rotated}
use Rattle.pm_view.specs.View.{SpaceView}
use Rattle.pm_view.specs.Reading.{object_at}
use Rattle.pm_view.specs.Rows.{with_stored, spread, spent, tail_for, put_in, with_count, born_in, born, place_in, birthplace}
use Rattle.pm_view.specs.Candidates.{queue_of}
use Rattle.pm_view.specs.Collecting.{applied_front, applied_in, fixed, put_away, settled, moved_some, moved, swept_some, swept}
use Rattle.pm_view.specs.Commands.{emptied, fresh, row, Picks}
use Rattle.pm_law_commands.proofs.EveryRow.{OfRows, row_holds, new_holds}

pub record KeepsCourse (view t : SpaceView) : Type 0 where
  pub phase : t.phase ≡ view.phase
  pub completed : t.completed ≡ view.completed
  pub anchor : t.anchor ≡ view.anchor

pub itself : (view : SpaceView) → KeepsCourse view view
itself view = record { phase = refl; completed = refl; anchor = refl }

both : (view t u : SpaceView) → KeepsCourse view t → KeepsCourse t u → KeepsCourse view u
both view t u one two = record { phase = two.phase ∙ one.phase; completed = two.completed ∙ one.completed; anchor = two.anchor ∙ one.anchor }

-- ---- events

module _ (view : SpaceView) where
  pub stored_keeps : (x : RefSource) (to : Option Addr) → KeepsCourse view (with_stored view x to)
  stored_keeps (Root n) None = itself view
  stored_keeps (Root n) (Some a) = record { phase = refl; completed = refl; anchor = refl }
  stored_keeps (Handle c r) to = record { phase = refl; completed = refl; anchor = refl }
  stored_keeps (Field a i) to = record { phase = refl; completed = refl; anchor = refl }

  pub applied_keeps : (car : ℕ) → KeepsCourse view (applied_in view car)
  applied_keeps car = by_queue (queue_of view car)
    where
      by_queue : (q : List Change) → KeepsCourse view (applied_front view car q)
      by_queue [] = itself view
      by_queue (c ∷ cs) = record { phase = refl; completed = refl; anchor = refl }

  pub fixed_keeps : (car : ℕ) (x : RefSource) (to : Addr) → KeepsCourse view (fixed view car x to)
  fixed_keeps car x to = let was = stored_keeps x (Some to) in record { phase = was.phase; completed = was.completed; anchor = was.anchor }

  pub moved_keeps : (from : Addr) (train number : ℕ) → KeepsCourse view (moved view from train number)
  moved_keeps from train number = by_object (object_at view.cars from)
    where
      by_tail : (object : Object) (d : Option ℕ) → KeepsCourse view (settled (put_away view from d train number object) from (place_in view.cars d number) object)
      by_tail object None = record { phase = refl; completed = refl; anchor = refl }
      by_tail object (Some c) = record { phase = refl; completed = refl; anchor = refl }

      by_object : (o : Option Object) → KeepsCourse view (moved_some view from train number o)
      by_object None = itself view
      by_object (Some object) = by_tail object (tail_for view train (object_room object))

  pub swept_keeps : (a : Addr) → KeepsCourse view (swept view a)
  swept_keeps a = by_object (object_at view.cars a)
    where
      by_object : (o : Option Object) → KeepsCourse view (swept_some view a o)
      by_object None = itself view
      by_object (Some object) = record { phase = refl; completed = refl; anchor = refl }

  -- ---- commands

  pub spread_keeps : (x : RefSource) (to : Option Addr) → KeepsCourse view (spread view x to)
  spread_keeps x to = let was = stored_keeps x to in record { phase = was.phase; completed = was.completed; anchor = was.anchor }

  born_in_keeps : (number : ℕ) (object : Object) → KeepsCourse view (born_in view number object)
  born_in_keeps number object = by_tail (tail_for view (youngest view.trains.trains) (object_room object))
    where
      by_tail : (d : Option ℕ) → KeepsCourse view (with_count (put_in view (youngest view.trains.trains) d number object))
      by_tail None = record { phase = refl; completed = refl; anchor = refl }
      by_tail (Some c) = record { phase = refl; completed = refl; anchor = refl }

born_keeps : (view : SpaceView) (number : ℕ) (object : Object) → KeepsCourse view (born view number object)
born_keeps view number object = by_births (nat_le 1024 view.trains.births)
  where
    by_births : (b : Bool) → KeepsCourse view (born_in (if b then record view { trains = record { trains = rotated view.trains.trains; births = 0 } } else view) number object)
    by_births true =
        let now = record view { trains = record { trains = rotated view.trains.trains; births = 0 } } in
        let was = born_in_keeps now number object in
        record { phase = was.phase; completed = was.completed; anchor = was.anchor }
    by_births false = born_in_keeps view number object

emptied_keeps : (view : SpaceView) (client n : ℕ) → KeepsCourse view (emptied view client n)
emptied_keeps view client zero = itself view
emptied_keeps view client (suc n) = both view (emptied view client n) (emptied view client (suc n)) (emptied_keeps view client n) (spread_keeps (emptied view client n) (Handle client n) None)

kept_of_rows : (view : SpaceView) (client : ℕ) (picks : Picks) → OfRows view (KeepsCourse view) (Unit {0}) (Unit {0}) client picks
kept_of_rows view client picks = record {
  still = itself view;
  spread = spread_keeps view;
  bytes = λ a at bytes within. record { phase = refl; completed = refl; anchor = refl };
  bound = λ name number a. record { phase = refl; completed = refl; anchor = refl };
  unbound = λ name number a. record { phase = refl; completed = refl; anchor = refl };
  made = λ may reg count bytes. new_holds view (KeepsCourse view) (itself view) client reg count picks.car bytes (λ small more.
      let object = fresh view count bytes in
      let was = born_keeps (spent view) picks.car object in
      let now = spread_keeps (born (spent view) picks.car object) (Handle client reg) (Some (birthplace (spent view) picks.car object)) in
      record { phase = now.phase ∙ was.phase; completed = now.completed ∙ was.completed; anchor = now.anchor ∙ was.anchor });
  emptied = λ may. emptied_keeps view client REGISTERS;
}

pub command_keeps : (view : SpaceView) (client : ℕ) (cmd : Cmd) (picks : Picks) → KeepsCourse view (row view client cmd picks).1
command_keeps view client cmd picks = row_holds view (KeepsCourse view) (Unit {0}) (Unit {0}) client picks (kept_of_rows view client picks) cmd (λ new. tt) (λ close. tt)
