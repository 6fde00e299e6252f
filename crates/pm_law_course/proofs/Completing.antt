-- With which events the count of completed collections rises, and what the phase is then.
use Rattle.std.proofs.Common.{◌≡◌, ◌⊎◌, ⊎_elim, ℕ, ◌==◌, if◌then◌else◌, Bool, true, false, cond, refl, ap, sym, subst, ◌∙◌, List, [], ◌∷◌, length, drop, Some, None, arith}
use Rattle.std.specs.Option.{unwrap_or, option_and_then}
use Rattle.std.specs.FinMap.{get, remove}
use Rattle.std.proofs.lemmas.Bool.{eqb-true, eq-eqb, cond-true, true≢false}
use Rattle.pm_types.specs.Counts.{raised}
use Rattle.pm_trains.specs.Trains.{cars_at, without_first, left_standing}
use Rattle.pm_trains.proofs.Numbers.{rise_changed}
use Rattle.pm_trains.proofs.Found.{cars_removed}
use Rattle.pm_view.specs.declared.phase.Phase.{Phase}
use Rattle.pm_view.specs.declared.phase.Phase.TheVariants.{Idle, Draining, Moving, Sweeping, Doomed}
use Rattle.pm_view.specs.View.{SpaceView}
use Rattle.pm_view.specs.Reading.{cars_of}
use Rattle.pm_view.specs.Law.{IsPhaseOf, IsOldest, HeapLaw}
use Rattle.pm_view.specs.Candidates.{queue_of}
use Rattle.pm_view.specs.Collecting.{without_car, completing}
use Rattle.pm_view.specs.Events.{Row, nothing, select, apply, doom, start, fix, move_anchor, move_out, move_on, finish, sweep, free, free_doomed, has_change, changed_car, next_row, after, completes}
use Rattle.pm_law_collect.proofs.PhasesLemmas.Comes.{IsChanged, IsFirstDoomed, comes_where}
use Rattle.pm_law_course.proofs.Kept.{applied_keeps, fixed_keeps, moved_keeps, swept_keeps}
use Rattle.pm_law_collect.proofs.PhasesLemmas.Fronts.{at_remove, first_cars}

pub completed_then : (view : SpaceView) (row : Row) (picked number : ℕ) → (after view picked number row).completed ≡ cond (completes view row) (raised view.completed) view.completed
completed_then view nothing picked number = refl
completed_then view (select train) picked number = refl
completed_then view (apply car) picked number = (applied_keeps view car).completed
completed_then view (doom train) picked number = refl
completed_then view (start car a) picked number = refl
completed_then view (fix car source to) picked number = (fixed_keeps view car source to).completed
completed_then view (move_anchor a to) picked number = (moved_keeps view a to number).completed
completed_then view (move_out a) picked number = (moved_keeps view a picked number).completed
completed_then view (move_on a train) picked number = (moved_keeps view a train number).completed
completed_then view (finish car) picked number = refl
completed_then view (sweep a) picked number = (swept_keeps view a).completed
completed_then view (free car) picked number = refl
completed_then view (free_doomed train car) picked number = by_last (length (cars_of view.trains.trains train) == 1)
  where
    by_last : (b : Bool) → (if b then completing (without_car view train car) else without_car view train car).completed ≡ cond b (raised view.completed) view.completed
    by_last true = refl
    by_last false = refl

-- a collection that is completed is no longer in progress
pub ended_then : (view : SpaceView) (row : Row) (picked number : ℕ) → completes view row ≡ true → (after view picked number row).phase ≡ Idle
ended_then view nothing picked number is = absurd (true≢false (sym is))
ended_then view (select train) picked number is = absurd (true≢false (sym is))
ended_then view (apply car) picked number is = absurd (true≢false (sym is))
ended_then view (doom train) picked number is = absurd (true≢false (sym is))
ended_then view (start car a) picked number is = absurd (true≢false (sym is))
ended_then view (fix car source to) picked number is = absurd (true≢false (sym is))
ended_then view (move_anchor a to) picked number is = absurd (true≢false (sym is))
ended_then view (move_out a) picked number is = absurd (true≢false (sym is))
ended_then view (move_on a train) picked number is = absurd (true≢false (sym is))
ended_then view (finish car) picked number is = absurd (true≢false (sym is))
ended_then view (sweep a) picked number is = absurd (true≢false (sym is))
ended_then view (free car) picked number is = refl
ended_then view (free_doomed train car) picked number is = by_last (length (cars_of view.trains.trains train) == 1) is
  where
    by_last : (b : Bool) → b ≡ true → (if b then completing (without_car view train car) else without_car view train car).phase ≡ Idle
    by_last true is = refl
    by_last false is = absurd (true≢false (sym is))

-- ---- a collection that is not completed stays in progress

no_idle : (p : Phase) → p ≡ Idle → (train : ℕ) → p ≡ Draining train → ⊥
no_idle p idle train is = cc

no_idle_moving : (p : Phase) → p ≡ Idle → (car : ℕ) → p ≡ Moving car → ⊥
no_idle_moving p idle car is = cc

no_idle_sweeping : (p : Phase) → p ≡ Idle → (car : ℕ) → p ≡ Sweeping car → ⊥
no_idle_sweeping p idle car is = cc

no_idle_doomed : (p : Phase) → p ≡ Idle → (train : ℕ) → p ≡ Doomed train → ⊥
no_idle_doomed p idle train is = cc

module _ (view : SpaceView) where
  changed_busy : (car : ℕ) → IsChanged view car → view.phase ≡ Idle → ⊥
  changed_busy car is idle =
      ⊎_elim
      (λ (drained : (train : ℕ) × (view.phase ≡ Draining train) × (changed_car view train ≡ Some car)). no_idle view.phase idle drained.0 drained.1)
      (λ (moving : (view.phase ≡ Moving car) × (has_change (queue_of view car) ≡ true)). no_idle_moving view.phase idle car moving.0)
      is

  swept_busy : (car : ℕ) → (view.phase ≡ Sweeping car) ⊎ ((train : ℕ) × IsFirstDoomed view train car) → view.phase ≡ Idle → ⊥
  swept_busy car is idle =
      ⊎_elim
      (λ (sweeping : view.phase ≡ Sweeping car). no_idle_sweeping view.phase idle car sweeping)
      (λ (doomed : (train : ℕ) × IsFirstDoomed view train car). no_idle_doomed view.phase idle doomed.0 doomed.1.doomed)
      is

  pub going_then : (row : Row) (picked number : ℕ) → next_row view ≡ row → (row ≡ nothing → ⊥) → completes view row ≡ false → (after view picked number row).phase ≡ Idle → ⊥
  going_then nothing picked number next some goes idle = some refl
  going_then (select train) picked number next some goes idle = cc
  going_then (apply car) picked number next some goes idle = changed_busy car (comes_where view (apply car) next) (sym (applied_keeps view car).phase ∙ idle)
  going_then (doom train) picked number next some goes idle = cc
  going_then (start car a) picked number next some goes idle = cc
  going_then (fix car source to) picked number next some goes idle = no_idle_moving view.phase (sym (fixed_keeps view car source to).phase ∙ idle) car (comes_where view (fix car source to) next).moving
  going_then (move_anchor a to) picked number next some goes idle = let is = comes_where view (move_anchor a to) next in no_idle_moving view.phase (sym (moved_keeps view a to number).phase ∙ idle) is.car is.emptied.moving
  going_then (move_out a) picked number next some goes idle = let is = comes_where view (move_out a) next in no_idle_moving view.phase (sym (moved_keeps view a picked number).phase ∙ idle) is.car is.emptied.moving
  going_then (move_on a train) picked number next some goes idle = let is = comes_where view (move_on a train) next in no_idle_moving view.phase (sym (moved_keeps view a train number).phase ∙ idle) is.car is.emptied.moving
  going_then (finish car) picked number next some goes idle = cc
  going_then (sweep a) picked number next some goes idle = swept_busy a.car (comes_where view (sweep a) next).swept (sym (swept_keeps view a).phase ∙ idle)
  going_then (free car) picked number next some goes idle = absurd (true≢false goes)
  going_then (free_doomed train car) picked number next some goes idle = by_last (length (cars_of view.trains.trains train) == 1) goes idle
    where
      by_last : (b : Bool) → b ≡ false → (if b then completing (without_car view train car) else without_car view train car).phase ≡ Idle → ⊥
      by_last true goes idle = absurd (true≢false goes)
      by_last false goes idle = no_idle_doomed view.phase idle train (comes_where view (free_doomed train car) next).doomed.doomed

  -- ---- what goes with it

  pub car_gone : (car : ℕ) → get (remove view.cars car) car ≡ None
  car_gone car = at_remove view.cars car car ∙ cond-true _ _ _ (eq-eqb car car refl)

  pub train_gone : (train car picked number : ℕ) → HeapLaw view → next_row view ≡ free_doomed train car → completes view (free_doomed train car) ≡ true → cars_at (after view picked number (free_doomed train car)).trains.trains train ≡ None
  train_gone train car picked number law next last = by_last (length (cars_of view.trains.trains train) == 1) gone
    where
      is : IsFirstDoomed view train car
      is = (comes_where view (free_doomed train car) next).doomed

      old : IsOldest view.trains.trains train
      old = (subst (λ p. IsPhaseOf p view.trains.trains view.anchor) is.doomed law.phase).0

      alone : (rest : List ℕ) → cars_at view.trains.trains train ≡ Some (car ∷ rest) → rest ≡ []
      alone [] cars = refl
      alone (d ∷ rest) cars = let two : length (cars_of view.trains.trains train) ≡ length (car ∷ d ∷ rest) = ap (λ o. length (unwrap_or o [])) cars in absurd (let one = eqb-true (length (cars_of view.trains.trains train)) 1 last in omega (arith, one, two))

      gone : cars_at (without_first train view.trains.trains) train ≡ None
      gone =
          let cars = first_cars (cars_at view.trains.trains train) car is.first in
          cars_removed view.trains.trains train train law.built.trains.rising (rise_changed 0 train (λ cars. drop 1 cars) view.trains.trains law.built.trains.rising) law.built.trains.filled
          ∙ cond-true _ _ _ (eq-eqb train train refl)
          ∙ (λ i. option_and_then (λ (cars : List ℕ). left_standing (old.1 i) (drop 1 cars)) (cars.1 i))
          ∙ ap (λ xs. left_standing false xs) (alone cars.0 cars.1)

      by_last : (b : Bool) → cars_at (without_first train view.trains.trains) train ≡ None → cars_at (if b then completing (without_car view train car) else without_car view train car).trains.trains train ≡ None
      by_last true gone = gone
      by_last false gone = gone
