-- When an anchor is noted, when its object moves, and when it is cleared.
use Rattle.std.proofs.Common.{◌≡◌, ℕ, ◌==◌, if◌then◌else◌, Bool, true, false, cond, refl, ap, sym, subst, ◌∙◌, length, Option, Some, None}
use Rattle.std.proofs.lemmas.Bool.{eq-eqb, cond-true, true≢false}
use Rattle.pm_types.specs.declared.address.Addr.{Addr}
use Rattle.pm_view.specs.View.{SpaceView}
use Rattle.pm_view.specs.Reading.{cars_of}
use Rattle.pm_view.specs.Collecting.{without_car, completing}
use Rattle.pm_view.specs.Events.{Row, nothing, select, apply, doom, start, fix, move_anchor, move_out, move_on, finish, sweep, free, free_doomed, anchor_in, next_row, after, clears, MovesTo}
use Rattle.pm_law_collect.proofs.PhasesLemmas.Small.{some_pair, none_some}
use Rattle.pm_law_collect.proofs.PhasesLemmas.Comes.{comes_where}
use Rattle.pm_law_course.specs.Course.{notes}
use Rattle.pm_law_course.proofs.Kept.{applied_keeps, fixed_keeps, moved_keeps, swept_keeps}

-- no other event notes one
pub none_then : (view : SpaceView) (row : Row) (picked number : ℕ) → notes row ≡ false → view.anchor ≡ None → (after view picked number row).anchor ≡ None
none_then view nothing picked number other none = none
none_then view (select train) picked number other none = none
none_then view (apply car) picked number other none = (applied_keeps view car).anchor ∙ none
none_then view (doom train) picked number other none = refl
none_then view (start car a) picked number other none = absurd (true≢false other)
none_then view (fix car source to) picked number other none = (fixed_keeps view car source to).anchor ∙ none
none_then view (move_anchor a to) picked number other none = refl
none_then view (move_out a) picked number other none = (moved_keeps view a picked number).anchor ∙ none
none_then view (move_on a train) picked number other none = (moved_keeps view a train number).anchor ∙ none
none_then view (finish car) picked number other none = none
none_then view (sweep a) picked number other none = (swept_keeps view a).anchor ∙ none
none_then view (free car) picked number other none = none
none_then view (free_doomed train car) picked number other none = by_last (length (cars_of view.trains.trains train) == 1)
  where
    by_last : (b : Bool) → (if b then completing (without_car view train car) else without_car view train car).anchor ≡ None
    by_last true = none
    by_last false = none

pub cleared_then : (view : SpaceView) (row : Row) (picked number : ℕ) → clears row ≡ true → (after view picked number row).anchor ≡ None
cleared_then view nothing picked number is = absurd (true≢false (sym is))
cleared_then view (select train) picked number is = absurd (true≢false (sym is))
cleared_then view (apply car) picked number is = absurd (true≢false (sym is))
cleared_then view (doom train) picked number is = refl
cleared_then view (start car a) picked number is = absurd (true≢false (sym is))
cleared_then view (fix car source to) picked number is = absurd (true≢false (sym is))
cleared_then view (move_anchor a to) picked number is = refl
cleared_then view (move_out a) picked number is = absurd (true≢false (sym is))
cleared_then view (move_on a train) picked number is = absurd (true≢false (sym is))
cleared_then view (finish car) picked number is = absurd (true≢false (sym is))
cleared_then view (sweep a) picked number is = absurd (true≢false (sym is))
cleared_then view (free car) picked number is = absurd (true≢false (sym is))
cleared_then view (free_doomed train car) picked number is = absurd (true≢false (sym is))

-- ---- the event that moves an anchor's object

-- an anchor that is found in a car is the one that stands
found_is : (car : ℕ) (a b : Addr) (to t : ℕ) → anchor_in car (Some (a, to)) ≡ Some (b, t) → (a ≡ b) × (to ≡ t)
found_is car a b to t is = by_case (a.car == car) is
  where
    by_case : (c : Bool) → ◌≡◌ {A = Option (Addr × ℕ)} (cond c (Some (a, to)) None) (Some (b, t)) → (a ≡ b) × (to ≡ t)
    by_case true is = some_pair a b to t is
    by_case false is = absurd (none_some {A = Addr × ℕ} (b, t) is)

-- where none is found in a car, the object lies in another
elsewhere : (car : ℕ) (a : Addr) (to : ℕ) → anchor_in car (Some (a, to)) ≡ None → a.car ≡ car → ⊥
elsewhere car a to none here = none_some {A = Addr × ℕ} (a, to) (sym none ∙ cond-true _ _ _ (eq-eqb a.car car here))

pub moves_by : (view : SpaceView) (row : Row) (picked to train : ℕ) (a : Addr) → next_row view ≡ row → view.anchor ≡ Some (a, to) → MovesTo picked row a train → row ≡ move_anchor a to
moves_by view nothing picked to train a next stands moves = absurd moves
moves_by view (select n) picked to train a next stands moves = absurd moves
moves_by view (apply car) picked to train a next stands moves = absurd moves
moves_by view (doom n) picked to train a next stands moves = absurd moves
moves_by view (start car b) picked to train a next stands moves = absurd moves
moves_by view (fix car source b) picked to train a next stands moves = absurd moves
moves_by view (move_anchor b t) picked to train a next stands moves =
    let is = comes_where view (move_anchor b t) next in
    let same = found_is is.car a b to t (subst (λ o. anchor_in is.car o ≡ Some (b, t)) stands is.anchor) in
    λ i. move_anchor (sym same.0 i) (sym same.1 i)
moves_by view (move_out b) picked to train a next stands moves =
    let is = comes_where view (move_out b) next in
    absurd (elsewhere is.car a to (subst (λ o. anchor_in is.car o ≡ None) stands is.none) (ap (λ (c : Addr). c.car) (moves.0 ∙ is.here)))
moves_by view (move_on b n) picked to train a next stands moves =
    let is = comes_where view (move_on b n) next in
    absurd (elsewhere is.car a to (subst (λ o. anchor_in is.car o ≡ None) stands is.none) (ap (λ (c : Addr). c.car) (moves.0 ∙ is.here)))
moves_by view (finish car) picked to train a next stands moves = absurd moves
moves_by view (sweep b) picked to train a next stands moves = absurd moves
moves_by view (free car) picked to train a next stands moves = absurd moves
moves_by view (free_doomed n car) picked to train a next stands moves = absurd moves
