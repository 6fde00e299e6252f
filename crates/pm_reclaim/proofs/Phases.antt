-- In which phase an event answers what, and that a collection in progress moves on.
use Rattle.std.proofs.Common.{◌≡◌, ℕ, ◌≤◌, refl, ap, sym, subst, ◌∙◌, Option, Some, None, arith}
use Rattle.std.specs.FinMap.{get}
use Rattle.pm_types.specs.declared.event.Step.{Step}
use Rattle.pm_types.specs.declared.event.Step.TheVariants.{Nothing}
use Rattle.pm_trains.specs.Trains.{oldest}
use Rattle.pm_view.specs.declared.phase.Phase.TheVariants.{Idle}
use Rattle.pm_view.specs.View.{SpaceView}
use Rattle.pm_view.specs.Events.{Row, nothing, select, free, free_doomed, next_row, row_in, idle_row, completes}
use Rattle.pm_view.specs.Work.{lowers}
use Rattle.pm_evac.specs.Steps.{step_of, IsSelected, is_completing, HasNoCar, AnswersByPhase, LowersWork, MovesOn}

-- the row by its answer
nothing_is : (old : SpaceView) (picked : ℕ) (row : Row) → step_of old picked row ≡ Nothing → row ≡ nothing
nothing_is old picked nothing is = refl
nothing_is old picked row is = absurd (cc is)

selected_is : (old : SpaceView) (picked : ℕ) (row : Row) → IsSelected (step_of old picked row) → (train : ℕ) × (row ≡ select train)
selected_is old picked (select train) is = (train, refl)
selected_is old picked row is = absurd is

completing_is : (old : SpaceView) (picked : ℕ) (row : Row) → completes old row ≡ is_completing (step_of old picked row)
completing_is old picked (free car) = refl
completing_is old picked (free_doomed train car) = refl
completing_is old picked row = refl

apart : (train : ℕ) → nothing ≡ select train → ⊥
apart train is = cc

-- every row but two lowers the work that is left
some_lowers : (row : Row) → (row ≡ nothing → ⊥) → ((train : ℕ) → row ≡ select train → ⊥) → 1 ≤ lowers row
some_lowers nothing other unselected = absurd (other refl)
some_lowers (select train) other unselected = absurd (unselected train refl)
some_lowers row other unselected = omega arith

module _ (old : SpaceView) (step : Step) (picked : ℕ) (answer : step ≡ step_of old picked (next_row old)) (idle : next_row old ≡ nothing → old.phase ≡ Idle) (begun : (train : ℕ) → next_row old ≡ select train → old.phase ≡ Idle) where
  module _ (empty : (car : ℕ) → next_row old ≡ nothing → get old.cars car ≡ None) (none : old.phase ≡ Idle → HasNoCar old → next_row old ≡ nothing) where
    rests : step ≡ Nothing → (old.phase ≡ Idle) × HasNoCar old
    rests is = let row = nothing_is old picked (next_row old) (sym answer ∙ is) in (idle row, λ car. empty car row)

    selects : IsSelected step → (old.phase ≡ Idle) × (HasNoCar old → ⊥)
    selects is =
        let row = selected_is old picked (next_row old) (subst IsSelected answer is) in
        let at = begun row.0 row.1 in
        (at, λ no_car. apart row.0 (sym (none at no_car) ∙ row.1))

    by_oldest : (o : Option ℕ) → next_row old ≡ idle_row o → (HasNoCar old → ⊥) → IsSelected (step_of old picked (next_row old))
    by_oldest None is some = absurd (some (λ car. empty car is))
    by_oldest (Some train) is some = subst (λ row. IsSelected (step_of old picked row)) (sym is) tt

    pub answers_by_phase : AnswersByPhase old step
    answers_by_phase = record {
      rests = (rests, λ both. answer ∙ ap (step_of old picked) (none both.0 both.1));
      selects = (selects, λ both. subst IsSelected (sym answer) (by_oldest (oldest old.trains.trains) (ap (row_in old) both.0) both.1));
    }

  pub moves_on : (new : SpaceView) → LowersWork old new → MovesOn old new step
  moves_on new lowered going unsaid =
      let less = lowered going (completing_is old picked (next_row old) ∙ ap is_completing (sym answer) ∙ unsaid) in
      let some = some_lowers (next_row old) (λ is. going (idle is)) (λ train is. going (begun train is)) in
      omega (arith, less, some)
