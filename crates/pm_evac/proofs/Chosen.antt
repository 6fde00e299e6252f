-- What the chooser picks may be picked, and an event whose row is known was made.
use Rattle.std.proofs.Common.{◌≡◌, ℕ, ◌==◌, ◌||◌, Bool, true, false, refl, ap, sym, subst, ◌∙◌, List, [], ◌∷◌, zero, suc, Option, Some, None, IsTrue, is_some}
use Rattle.std.specs.List.{slice_get}
use Rattle.std.specs.Borrow.{Bor}
use Rattle.std.specs.Fn.{Shared}
use Rattle.std.proofs.lemmas.Bool.{eq-eqb, true≢false}
use Rattle.pm_types.specs.declared.address.Addr.{Addr}
use Rattle.pm_types.specs.declared.event.Step.{Step}
use Rattle.pm_trains.specs.Trains.{is_among}
use Rattle.pm_place.specs.Choosers.{IsPicked}
use Rattle.pm_view.specs.View.{SpaceView}
use Rattle.pm_view.specs.Events.{Row, start, move_out, next_row, after, ways_out, MayNote, MayPick, MayPlace}
use Rattle.pm_evac.specs.Steps.{step_of, IsNoted, IsChosen, IsChosenEvent}

-- an item of a list is among it
among_at : (xs : List ℕ) (i x : ℕ) → slice_get xs i ≡ Some x → is_among x xs ≡ true
among_at [] i x is = absurd (let none : ◌≡◌ {A = Option ℕ} None (Some x) = is in true≢false (sym (ap is_some none)))
among_at (y ∷ xs) zero x is = first (y == x) (is_among x xs) (eq-eqb y x (let same : Some y ≡ Some x = is in cc))
  where
    first : (b d : Bool) → b ≡ true → (b || d) ≡ true
    first true d is = refl
    first false d is = absurd (true≢false (sym is))
among_at (y ∷ xs) (suc i) x is = later (y == x) (among_at xs i x is)
  where
    later : (b : Bool) {d : Bool} → d ≡ true → (b || d) ≡ true
    later true is = refl
    later false is = is

module _ {F : Type 0} (calls : Shared F (Bor (List ℕ) × Unit {0}) ℕ) (choose : F) (v : SpaceView) (picked : ℕ) where
  pub among_picked : (a : Addr) → IsPicked calls choose (ways_out v a) picked → IsTrue (is_among picked (ways_out v a))
  among_picked a is = among_at (ways_out v a) is.index picked is.member

  may_note : (o : Option (Addr × ℕ)) (a : Addr) → IsNoted calls choose v o a picked → MayNote v o a picked
  may_note None a is = among_picked a is
  may_note (Some anchor) a is = tt

  -- what the chooser picks may be picked
  may_pick : (row : Row) → IsChosen calls choose v picked row → MayPick v picked row
  may_pick (start car a) is = may_note v.anchor a is
  may_pick (move_out a) is = among_picked a is
  may_pick row is = tt

  -- this row came next and was made: the space after it is the row's, and the answer too
  pub made : (w : SpaceView) (step : Step) (row : Row) (number : ℕ) → next_row v ≡ row → IsChosen calls choose v picked row → MayPlace v number row → w ≡ after v picked number row → step ≡ step_of v picked row
      → IsChosenEvent calls choose v w step
  made w step row number next chosen place seen answer = record {
    event = record {
      picked = picked;
      number = number;
      may_pick = subst (MayPick v picked) (sym next) (may_pick row chosen);
      may_place = subst (MayPlace v number) (sym next) place;
      after = seen ∙ ap (after v picked number) (sym next);
      answer = answer ∙ ap (step_of v picked) (sym next);
    };
    chosen = subst (IsChosen calls choose v picked) (sym next) chosen;
  }
