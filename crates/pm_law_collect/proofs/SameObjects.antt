-- No event makes an object: each identity of a place after it was that of a place before it.
use Rattle.std.proofs.Common.{◌≡◌, ℕ, ◌==◌, if◌then◌else◌, Bool, true, false, cond, refl, ap, sym, ◌∙◌, List, [], ◌∷◌, length, Option, Some, None}
use Rattle.std.specs.Option.{option_map}
use Rattle.std.specs.FinMap.{get}
use Rattle.pm_types.specs.declared.address.Addr.{Addr}
use Rattle.pm_types.specs.declared.object.Object.{Object}
use Rattle.pm_types.specs.declared.object.Slot.{Slot}
use Rattle.pm_types.specs.declared.object.Slot.TheVariants.{Live, Moved}
use Rattle.pm_types.specs.declared.source.RefSource.{RefSource}
use Rattle.pm_types.specs.declared.source.Change.{Change}
use Rattle.pm_cars.specs.declared.look.Look.TheVariants as looks
use Rattle.pm_cars.specs.Cars.{object_of, look_of}
use Rattle.pm_view.specs.Sources.{same_address}
use Rattle.pm_view.specs.View.{SpaceView}
use Rattle.pm_view.specs.Reading.{slot_at, id_at, cars_of}
use Rattle.pm_view.specs.Law.{HeapLaw}
use Rattle.pm_view.specs.Rows.{spread}
use Rattle.pm_view.specs.Candidates.{queue_of}
use Rattle.pm_view.specs.Collecting.{selected, doomed, started, finished, applied_front, applied_in, fixed, moved, swept, without_car, completing, freed_of_train}
use Rattle.pm_view.specs.Events.{Row, nothing, select, apply, doom, start, fix, move_anchor, move_out, move_on, finish, sweep, free, free_doomed, home, next_row, after, MayPick, MayPlace}
use Rattle.pm_law_commands.proofs.RowLemmas.SameSource.{same_address-true}
use Rattle.pm_law_commands.proofs.RowLemmas.Places.{slot_of}
use Rattle.pm_law_commands.proofs.RowLemmas.Meaning.{id_same}
use Rattle.pm_law_commands.proofs.RowLemmas.SpreadKept.{reshaped_spread}
use Rattle.pm_law_collect.specs.Moves.Moved.{HasMoved}
use Rattle.pm_law_collect.proofs.PhasesLemmas.Comes.{IsSweeping, comes_where}
use Rattle.pm_law_collect.proofs.PhasesLemmas.Fronts.{at_remove}
use Rattle.pm_law_collect.proofs.PhasesLemmas.Small.{none_some}
use Rattle.pm_law_collect.proofs.MovesLemmas.Once.{once_moved}
use Rattle.pm_law_collect.proofs.SweepsLemmas.SweepRow.{swept_slot}

-- some place has the identity
abbrev IsSomewhere : SpaceView → ℕ → Type 0
IsSomewhere view id = (b : Addr) × (id_at view b ≡ Some id)

-- each identity of a place of the second space is that of a place of the first
abbrev MakesNone : SpaceView → SpaceView → Type 0
MakesNone view t = (id : ℕ) (a : Addr) → id_at t a ≡ Some id → IsSomewhere view id

-- the identity of the object in a slot
abbrev id_in : Option Slot → Option ℕ
id_in slot = option_map (λ (o : Object). o.id) (object_of slot)

-- the same places have the same identities
same_ids : (view t : SpaceView) → ((a : Addr) → id_at t a ≡ id_at view a) → MakesNone view t
same_ids view t ids = λ id a is. (a, sym (ids a) ∙ is)

-- an identity of a slot that is there, or is Gone then
unless_gone : (view : SpaceView) (a : Addr) (id : ℕ) (b : Bool) (o : Option Slot) → id_in o ≡ id_at view a → id_in (cond b None o) ≡ Some id → IsSomewhere view id
unless_gone view a id true o same is = absurd (none_some id is)
unless_gone view a id false o same is = (a, sym same ∙ is)

-- ---- an object that moves

no_id : (o : Option Slot) (to : Addr) (id : ℕ) → look_of o ≡ looks.Moved to → id_in o ≡ Some id → ⊥
no_id None to id look is = none_some id is
no_id (Some (Live object)) to id look is = cc
no_id (Some (Moved b)) to id look is = none_some id is

moved_makes_none : (view t : SpaceView) (from : Addr) → HasMoved view t from → MakesNone view t
moved_makes_none view t from moved id a is = by_from (same_address from a) refl
  where
    by_to : same_address from a ≡ false → (b : Bool) → same_address moved.to a ≡ b → IsSomewhere view id
    by_to apart true same = (from, sym moved.id ∙ ap (id_at t) (same_address-true moved.to a same) ∙ is)
    by_to apart false other = (a, sym (ap (option_map (λ (o : Object). o.id)) (moved.objects a apart other)) ∙ is)

    by_from : (b : Bool) → same_address from a ≡ b → IsSomewhere view id
    by_from true same = absurd (no_id (slot_at t.cars from) moved.to id moved.told (ap (id_at t) (same_address-true from a same) ∙ is))
    by_from false apart = by_to apart (same_address moved.to a) refl

-- ---- the other rows

module _ (view : SpaceView) where
  applied_makes_none : (car : ℕ) → MakesNone view (applied_in view car)
  applied_makes_none car = by_queue (queue_of view car)
    where
      by_queue : (q : List Change) → MakesNone view (applied_front view car q)
      by_queue [] = same_ids view view (λ a. refl)
      by_queue (c ∷ cs) = same_ids view (applied_front view car (c ∷ cs)) (λ a. refl)

  fixed_makes_none : (car : ℕ) (x : RefSource) (to : Addr) → MakesNone view (fixed view car x to)
  fixed_makes_none car x to = same_ids view (fixed view car x to) (id_same view (spread view x (Some to)) (reshaped_spread view x (Some to)))

  swept_makes_none : (at : Addr) → HeapLaw view → IsSweeping view at → MakesNone view (swept view at)
  swept_makes_none at law is id a now =
      unless_gone view a id (same_address at a) (slot_at view.cars a) refl (sym (ap id_in (swept_slot view at law is a)) ∙ now)

  -- a car goes
  freed_makes_none : (train car : ℕ) → MakesNone view (without_car view train car)
  freed_makes_none train car id a now = by_car (car == a.car) (sym (ap (λ o. id_in (slot_of o a.slot)) (at_remove view.cars car a.car)) ∙ now)
    where
      by_car : (b : Bool) → id_in (slot_of (cond b None (get view.cars a.car)) a.slot) ≡ Some id → IsSomewhere view id
      by_car true is = absurd (none_some id is)
      by_car false is = (a, is)

  freed_of_train_makes_none : (train car : ℕ) → MakesNone view (freed_of_train view train car)
  freed_of_train_makes_none train car = by_last (length (cars_of view.trains.trains train) == 1)
    where
      by_last : (b : Bool) → MakesNone view (if b then completing (without_car view train car) else without_car view train car)
      by_last true = freed_makes_none train car
      by_last false = freed_makes_none train car

pub event_makes_none : (view : SpaceView) (picked number : ℕ) (row : Row) → HeapLaw view → next_row view ≡ row → MayPick view picked row → MayPlace view number row → MakesNone view (after view picked number row)
event_makes_none view picked number nothing law next may vacant = same_ids view view (λ a. refl)
event_makes_none view picked number (select train) law next may vacant = same_ids view (selected view train) (λ a. refl)
event_makes_none view picked number (apply car) law next may vacant = applied_makes_none view car
event_makes_none view picked number (doom train) law next may vacant = same_ids view (doomed view train) (λ a. refl)
event_makes_none view picked number (start car a) law next may vacant = same_ids view (started view car a picked) (λ a. refl)
event_makes_none view picked number (fix car source to) law next may vacant = fixed_makes_none view car source to
event_makes_none view picked number (move_anchor a to) law next may vacant =
    moved_makes_none view (after view picked number (move_anchor a to)) a (once_moved view picked number (move_anchor a to) law next may vacant a to (refl, refl))
event_makes_none view picked number (move_out a) law next may vacant =
    moved_makes_none view (after view picked number (move_out a)) a (once_moved view picked number (move_out a) law next may vacant a picked (refl, refl))
event_makes_none view picked number (move_on a train) law next may vacant =
    moved_makes_none view (after view picked number (move_on a train)) a (once_moved view picked number (move_on a train) law next may vacant a train (refl, refl))
event_makes_none view picked number (finish car) law next may vacant = same_ids view (finished view car) (λ a. refl)
event_makes_none view picked number (sweep a) law next may vacant = swept_makes_none view a law (comes_where view (sweep a) next)
event_makes_none view picked number (free car) law next may vacant = freed_makes_none view (home view car) car
event_makes_none view picked number (free_doomed train car) law next may vacant = freed_of_train_makes_none view train car
