-- No event comes just where no collection is in progress and no car stands.
use Rattle.std.proofs.Common.{◌≡◌, ◌⊎◌, ⊎_elim, ℕ, ◌<◌, ◌==◌, true, refl, ap, sym, subst, ◌∙◌, List, [], ◌∷◌, length, Option, Some, None, is_some, arith}
use Rattle.std.specs.Option.{IsSomeAnd, option_and_then}
use Rattle.std.specs.List.{slice_get, count_by}
use Rattle.std.specs.FinMap.{get}
use Rattle.std.proofs.lemmas.Bool.{true≢false}
use Rattle.pm_trains.specs.Trains.{cars_at, first_car, oldest}
use Rattle.pm_trains.specs.Sound.{all_cars, places}
use Rattle.pm_trains.proofs.Found.{oldest_none}
use Rattle.pm_trains.proofs.Cars.{lost}
use Rattle.pm_view.specs.declared.phase.Phase.TheVariants.{Idle, Draining, Doomed}
use Rattle.pm_view.specs.View.{SpaceView}
use Rattle.pm_view.specs.Law.{IsPhaseOf, HeapLaw}
use Rattle.pm_view.specs.Events.{nothing, idle_row, row_in, next_row}
use Rattle.pm_law_commands.proofs.RowLemmas.OpenTrain.{first_home}
use Rattle.pm_law_commands.proofs.RowLemmas.Born.{none_from_some}
use Rattle.pm_law_collect.proofs.PhasesLemmas.Small.{none_some}
use Rattle.pm_law_collect.proofs.PhasesLemmas.PhaseRows.{oldest_has}
use Rattle.pm_law_collect.proofs.PhasesLemmas.Comes.{comes_where}

-- a train that has a car has a first one
has_first : (o : Option (List ℕ)) → IsSomeAnd o (λ cars. 0 < length cars) → (c : ℕ) × (option_and_then (λ (cars : List ℕ). slice_get cars 0) o ≡ Some c)
has_first None has = absurd has
has_first (Some []) has = absurd (omega (arith, has))
has_first (Some (c ∷ cars)) has = (c, refl)

module _ (view : SpaceView) (law : HeapLaw view) where
  first_of_oldest : (n : ℕ) → oldest view.trains.trains ≡ Some n → (c : ℕ) × (first_car view.trains.trains n ≡ Some c)
  first_of_oldest n old = has_first (cars_at view.trains.trains n) (oldest_has 0 n view.trains.trains law.built.trains.rising old)

  no_train : (n : ℕ) → oldest view.trains.trains ≡ Some n → first_car view.trains.trains n ≡ None → ⊥
  no_train n old none = let first = first_of_oldest n old in none_some first.0 (sym none ∙ first.1)

  -- no car stands where no train has one
  no_car : oldest view.trains.trains ≡ None → (car : ℕ) → get view.cars car ≡ None
  no_car none car =
      let empty : all_cars view.trains.trains ≡ [] = oldest_none view.trains.trains none in
      let at_none : places car view.trains.trains ≡ 0 = ap (λ cars. count_by (λ c. c == car) cars) empty in
      none_from_some (get view.cars car) (sym (law.built.linked car) ∙ ap is_some (lost car view.trains.trains at_none))

  pub nothing_where : next_row view ≡ nothing → (view.phase ≡ Idle) × ((car : ℕ) → get view.cars car ≡ None)
  nothing_where next =
      ⊎_elim
      (λ (idle : (view.phase ≡ Idle) × (oldest view.trains.trains ≡ None)). (idle.0, no_car idle.1))
      (λ (other : (train : ℕ) × ((view.phase ≡ Draining train) ⊎ (view.phase ≡ Doomed train)) × (first_car view.trains.trains train ≡ None)).
      absurd (no_train other.0
      (⊎_elim
      (λ (at : view.phase ≡ Draining other.0). (subst (λ p. IsPhaseOf p view.trains.trains view.anchor) at law.phase).0)
      (λ (at : view.phase ≡ Doomed other.0). (subst (λ p. IsPhaseOf p view.trains.trains view.anchor) at law.phase).0.0)
      other.1) other.2))
      (comes_where view nothing next)

  no_oldest : ((car : ℕ) → get view.cars car ≡ None) → (o : Option ℕ) → oldest view.trains.trains ≡ o → o ≡ None
  no_oldest none None is = refl
  no_oldest none (Some n) is =
      let first = first_of_oldest n is in
      let home = first_home view.trains.trains n first.0 law.built.trains.single first.1 in
      let some : is_some (get view.cars first.0) ≡ true = sym (law.built.linked first.0) ∙ ap is_some home in
      absurd (true≢false (sym some ∙ ap is_some (none first.0)))

  pub nothing_there : view.phase ≡ Idle → ((car : ℕ) → get view.cars car ≡ None) → next_row view ≡ nothing
  nothing_there idle none = ap (row_in view) idle ∙ ap idle_row (no_oldest none (oldest view.trains.trains) refl)
