-- Whatever event of the collector comes next, the heap law is kept, and what the space stands for.
use Rattle.std.proofs.Common.{◌≡◌, ℕ, ◌==◌, if◌then◌else◌, Bool, true, false, List, [], ◌∷◌, length, ap, sym, ◌∙◌, Option, Some, None}
use Rattle.pm_types.specs.declared.address.Addr.{Addr}
use Rattle.std.proofs.lemmas.Bool.{true≢false}
use Rattle.pm_types.specs.declared.object.Object.{Object}
use Rattle.pm_types.specs.declared.source.RefSource.{RefSource}
use Rattle.pm_types.specs.declared.source.RefSource.TheVariants.{Root, Handle, Field}
use Rattle.pm_types.specs.declared.source.Change.{Change}
use Rattle.pm_trains.specs.Trains.{train_of, tail}
use Rattle.pm_view.specs.Reading.{object_at, cars_of}
use Rattle.pm_view.specs.Rows.{with_stored}
use Rattle.pm_view.specs.Collecting.{anchored, applied_front, swept_some, without_car, completing}
use Rattle.pm_view.specs.View.{SpaceView}
use Rattle.pm_view.specs.Counts.{IsStandingAt, IsPlaced}
use Rattle.pm_view.specs.Law.{HeapLaw}
use Rattle.pm_view.specs.Candidates.{queue_of}
use Rattle.pm_view.specs.Events.{Row, nothing, select, apply, doom, start, fix, move_anchor, move_out, move_on, finish, sweep, free, free_doomed, next_row, after, MayPick, MayPlace, moving_id, goal_of, ended_by, clears, MovesTo}
use Rattle.pm_law_collect.proofs.PhasesLemmas.MeansSame.{Keeps, unchanged_keeps}
use Rattle.pm_law_collect.proofs.PhasesLemmas.Small.{none_some}
use Rattle.pm_law_collect.proofs.PhasesLemmas.Stays.{Stays, stays_itself, selected_stays, doomed_stays, started_stays, finished_stays, applied_stays, fixed_stays, swept_stays}
use Rattle.pm_law_collect.proofs.PhasesLemmas.Comes.{comes_where}
use Rattle.pm_law_collect.proofs.PhasesLemmas.PhaseRows.{selected_keeps, doomed_keeps, started_keeps, finished_keeps}
use Rattle.pm_law_collect.proofs.ChangesLemmas.Requeued.{applied_keeps}
use Rattle.pm_law_collect.proofs.ChangesLemmas.FixRow.{fixed_keeps}
use Rattle.pm_law_collect.proofs.MovesLemmas.MoveRows.{same_some, anchor_tail, out_tail, train_tail, anchor_moves, object_moves_out, object_moves_on}
use Rattle.pm_law_collect.proofs.SweepsLemmas.SweepRow.{swept_keeps}
use Rattle.pm_law_collect.proofs.SweepsLemmas.FreeRow.{freed_goes, freed_doomed_goes}

pub event_keeps : (view : SpaceView) (picked number : ℕ) (row : Row) → HeapLaw view → next_row view ≡ row → MayPick view picked row → MayPlace view number row → Keeps view (after view picked number row)
event_keeps view picked number nothing law next may vacant = unchanged_keeps view law
event_keeps view picked number (select train) law next may vacant = selected_keeps view train law (comes_where view (select train) next)
event_keeps view picked number (apply car) law next may vacant = applied_keeps view car law
event_keeps view picked number (doom train) law next may vacant = doomed_keeps view train law (comes_where view (doom train) next)
event_keeps view picked number (start car a) law next may vacant = started_keeps view car a picked law (comes_where view (start car a) next) may
event_keeps view picked number (fix car source to) law next may vacant = fixed_keeps view car source to law (comes_where view (fix car source to) next)
event_keeps view picked number (move_anchor a to) law next may vacant = (anchor_moves view a to number law (comes_where view (move_anchor a to) next) vacant).0
event_keeps view picked number (move_out a) law next may vacant = (object_moves_out view a picked number law (comes_where view (move_out a) next) may vacant).0
event_keeps view picked number (move_on a train) law next may vacant = (object_moves_on view a train number law (comes_where view (move_on a train) next) vacant).0
event_keeps view picked number (finish car) law next may vacant = finished_keeps view car law (comes_where view (finish car) next)
event_keeps view picked number (sweep a) law next may vacant = swept_keeps view a law (comes_where view (sweep a) next)
event_keeps view picked number (free car) law next may vacant = (freed_goes view car law (comes_where view (free car) next)).0
event_keeps view picked number (free_doomed train car) law next may vacant = (freed_doomed_goes view train car law (comes_where view (free_doomed train car) next)).0

-- and each object but the one that moves stands where it stood
pub event_stays : (view : SpaceView) (picked number : ℕ) (row : Row) → HeapLaw view → next_row view ≡ row → MayPick view picked row → MayPlace view number row
    → Stays view (after view picked number row) (moving_id view row) (ended_by (after view picked number row) row)
event_stays view picked number nothing law next may vacant = stays_itself view
event_stays view picked number (select train) law next may vacant = selected_stays view train (comes_where view (select train) next)
event_stays view picked number (apply car) law next may vacant = applied_stays view car
event_stays view picked number (doom train) law next may vacant = doomed_stays view train law (comes_where view (doom train) next)
event_stays view picked number (start car a) law next may vacant = started_stays view car picked a law (comes_where view (start car a) next)
event_stays view picked number (fix car source to) law next may vacant = fixed_stays view car source to
event_stays view picked number (move_anchor a to) law next may vacant = (anchor_moves view a to number law (comes_where view (move_anchor a to) next) vacant).1
event_stays view picked number (move_out a) law next may vacant = (object_moves_out view a picked number law (comes_where view (move_out a) next) may vacant).1
event_stays view picked number (move_on a train) law next may vacant = (object_moves_on view a train number law (comes_where view (move_on a train) next) vacant).1
event_stays view picked number (finish car) law next may vacant = finished_stays view car law (comes_where view (finish car) next)
event_stays view picked number (sweep a) law next may vacant = swept_stays view a (comes_where view (sweep a) next)
event_stays view picked number (free car) law next may vacant = (freed_goes view car law (comes_where view (free car) next)).1
event_stays view picked number (free_doomed train car) law next may vacant = (freed_doomed_goes view train car law (comes_where view (free_doomed train car) next)).1

-- and that one stands in the train to which it moves
pub event_lands : (view : SpaceView) (picked number : ℕ) (row : Row) → HeapLaw view → next_row view ≡ row → MayPick view picked row → MayPlace view number row
    → (id : ℕ) → moving_id view row ≡ Some id → IsPlaced (after view picked number row) id (goal_of picked row)
event_lands view picked number nothing law next may vacant id is = absurd (none_some id is)
event_lands view picked number (select train) law next may vacant id is = absurd (none_some id is)
event_lands view picked number (apply car) law next may vacant id is = absurd (none_some id is)
event_lands view picked number (doom train) law next may vacant id is = absurd (none_some id is)
event_lands view picked number (start car a) law next may vacant id is = absurd (none_some id is)
event_lands view picked number (fix car source to) law next may vacant id is = absurd (none_some id is)
event_lands view picked number (move_anchor a to) law next may vacant id is = (anchor_moves view a to number law (comes_where view (move_anchor a to) next) vacant).2 id is
event_lands view picked number (move_out a) law next may vacant id is = (object_moves_out view a picked number law (comes_where view (move_out a) next) may vacant).2 id is
event_lands view picked number (move_on a train) law next may vacant id is = (object_moves_on view a train number law (comes_where view (move_on a train) next) vacant).2 id is
event_lands view picked number (finish car) law next may vacant id is = absurd (none_some id is)
event_lands view picked number (sweep a) law next may vacant id is = absurd (none_some id is)
event_lands view picked number (free car) law next may vacant id is = absurd (none_some id is)
event_lands view picked number (free_doomed train car) law next may vacant id is = absurd (none_some id is)

-- as it is spoken, of identities and trains
module _ (view t : SpaceView) (moving : Option ℕ) (ends : ℕ → Bool) (stays : Stays view t moving ends) where
  pub placed_before : (id train : ℕ) → (moving ≡ Some id → ⊥) → IsPlaced t id train → IsPlaced view id train
  placed_before id train still placed = let was = stays.back id placed.0 still placed.1 in (placed.0, was.0, was.1 ∙ placed.2)

  pub placed_after : (id train : ℕ) (a : Addr) → (moving ≡ Some id → ⊥) → ends a.car ≡ false → IsStandingAt view id a → train_of view.trains.trains a.car ≡ Some train → IsPlaced t id train
  placed_after id train a still left at home = let now = stays.forth id a still left at in (a, now.0, now.1 ∙ home)

-- no object moves to the car in which it lies
pub event_tails : (view : SpaceView) (picked number : ℕ) (row : Row) → HeapLaw view → next_row view ≡ row → MayPick view picked row → MayPlace view number row
    → (a : Addr) (train c : ℕ) → MovesTo picked row a train → tail view.trains.trains train ≡ Some c → (a.car == c) ≡ false
event_tails view picked number nothing law next may vacant b train c moves last = absurd moves
event_tails view picked number (select n) law next may vacant b train c moves last = absurd moves
event_tails view picked number (apply car) law next may vacant b train c moves last = absurd moves
event_tails view picked number (doom n) law next may vacant b train c moves last = absurd moves
event_tails view picked number (start car a) law next may vacant b train c moves last = absurd moves
event_tails view picked number (fix car source to) law next may vacant b train c moves last = absurd moves
event_tails view picked number (move_anchor a to) law next may vacant b train c moves last =
    ap (λ (b : Addr). b.car == c) moves.0 ∙ anchor_tail view a to number law (comes_where view (move_anchor a to) next) vacant c (ap (tail view.trains.trains) (sym moves.1) ∙ last)
event_tails view picked number (move_out a) law next may vacant b train c moves last =
    ap (λ (b : Addr). b.car == c) moves.0 ∙ out_tail view a picked number law (comes_where view (move_out a) next) may vacant c (ap (tail view.trains.trains) (sym moves.1) ∙ last)
event_tails view picked number (move_on a n) law next may vacant b train c moves last =
    ap (λ (b : Addr). b.car == c) moves.0 ∙ train_tail view a n number law (comes_where view (move_on a n) next) vacant c (ap (tail view.trains.trains) (sym moves.1) ∙ last)
event_tails view picked number (finish car) law next may vacant b train c moves last = absurd moves
event_tails view picked number (sweep a) law next may vacant b train c moves last = absurd moves
event_tails view picked number (free car) law next may vacant b train c moves last = absurd moves
event_tails view picked number (free_doomed n car) law next may vacant b train c moves last = absurd moves

-- an anchor stands as it was noted until it moves or its train is doomed
pub anchor_stays : (view : SpaceView) (picked number : ℕ) (row : Row) (anchor : Addr × ℕ) → clears row ≡ false → view.anchor ≡ Some anchor → (after view picked number row).anchor ≡ Some anchor
anchor_stays view picked number nothing anchor keeps stands = stands
anchor_stays view picked number (select train) anchor keeps stands = stands
anchor_stays view picked number (apply car) anchor keeps stands = by_queue (queue_of view car)
  where
    by_queue : (q : List Change) → (applied_front view car q).anchor ≡ Some anchor
    by_queue [] = stands
    by_queue (c ∷ cs) = stands
anchor_stays view picked number (doom train) anchor keeps stands = absurd (true≢false keeps)
anchor_stays view picked number (start car a) anchor keeps stands = ap (λ o. anchored o a picked) stands
anchor_stays view picked number (fix car source to) anchor keeps stands = by_source source
  where
    by_source : (x : RefSource) → (with_stored view x (Some to)).anchor ≡ Some anchor
    by_source (Root n) = stands
    by_source (Handle c r) = stands
    by_source (Field a i) = stands
anchor_stays view picked number (move_anchor a to) anchor keeps stands = absurd (true≢false keeps)
anchor_stays view picked number (move_out a) anchor keeps stands = same_some view a picked number (object_at view.cars a) ∙ stands
anchor_stays view picked number (move_on a train) anchor keeps stands = same_some view a train number (object_at view.cars a) ∙ stands
anchor_stays view picked number (finish car) anchor keeps stands = stands
anchor_stays view picked number (sweep a) anchor keeps stands = by_object (object_at view.cars a)
  where
    by_object : (o : Option Object) → (swept_some view a o).anchor ≡ Some anchor
    by_object None = stands
    by_object (Some object) = stands
anchor_stays view picked number (free car) anchor keeps stands = stands
anchor_stays view picked number (free_doomed train car) anchor keeps stands = by_last (length (cars_of view.trains.trains train) == 1)
  where
    by_last : (b : Bool) → (if b then completing (without_car view train car) else without_car view train car).anchor ≡ Some anchor
    by_last true = stands
    by_last false = stands
