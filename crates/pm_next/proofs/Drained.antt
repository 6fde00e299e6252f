-- A train that is drained: it stands, and in the front of it no change waits.
use Rattle.std.proofs.Common.{◌≡◌, ℕ, zero, suc, ◌+◌, ◌<◌, ◌≤◌, Bool, true, false, cond, List, [], ◌∷◌, length, take, get_or, Some, None, IsSome, refl, sym, ap, subst, ◌∙◌, arith}
use Rattle.std.specs.List.{find}
use Rattle.std.proofs.lemmas.Option.{none-some}
use Rattle.pm_trains.specs.Trains.{cars_at}
use Rattle.pm_view.specs.declared.phase.Phase.TheVariants.{Draining}
use Rattle.pm_view.specs.View.{SpaceView}
use Rattle.pm_view.specs.Law.{HeapLaw, IsPhaseOf}
use Rattle.pm_law_collect.proofs.PhasesLemmas.PhaseRows.{oldest_has}
use Rattle.pm_space.proofs.HeldCars.{some_and}

-- a train that is drained stands
pub drained_stands : (v : SpaceView) → HeapLaw v → (train : ℕ) → v.phase ≡ Draining train → IsSome (cars_at v.trains.trains train)
drained_stands v law train at =
    let oldest : IsPhaseOf (Draining train) v.trains.trains v.anchor = subst (λ p. IsPhaseOf p v.trains.trains v.anchor) at law.phase in
    some_and (cars_at v.trains.trains train) (λ cars. 0 < length cars) (oldest_has 0 train v.trains.trains law.built.trains.rising oldest.0)

-- ---- the front of a list

-- where none of the first i passes, and the next does not, none of the first i + 1 does
pub none_more : (test : ℕ → Bool) (xs : List ℕ) (i : ℕ) → i < length xs → find test (take i xs) ≡ None → test (get_or xs i 0) ≡ false → find test (take (i + 1) xs) ≡ None
none_more test xs i inside none fails =
    let more : i + 1 ≡ suc i = omega arith in
    ap (λ (n : ℕ). find test (take n xs)) more ∙ next xs i inside none fails
  where
    next : (xs : List ℕ) (i : ℕ) → i < length xs → find test (take i xs) ≡ None → test (get_or xs i 0) ≡ false → find test (take (suc i) xs) ≡ None
    next [] i inside none fails = absurd (omega (arith, inside))
    next (x ∷ xs) zero inside none fails = ap (λ (b : Bool). cond b (Some x) None) fails
    next (x ∷ xs) (suc i) inside none fails =
        elim (test x) as (λ b. cond b (Some x) (find test (take i xs)) ≡ None → cond b (Some x) (find test (take (suc i) xs)) ≡ None) [
          | true ↦ λ here. absurd (none-some x (sym here))
          | false ↦ λ there. next xs i (omega (arith, inside)) there fails
        ] none

-- where the next passes it is the first that does
pub found_here : (test : ℕ → Bool) (xs : List ℕ) (i : ℕ) → i < length xs → find test (take i xs) ≡ None → test (get_or xs i 0) ≡ true → find test xs ≡ Some (get_or xs i 0)
found_here test [] i inside none passes = absurd (omega (arith, inside))
found_here test (x ∷ xs) zero inside none passes = ap (λ (b : Bool). cond b (Some x) (find test xs)) passes
found_here test (x ∷ xs) (suc i) inside none passes =
    elim (test x) as (λ b. cond b (Some x) (find test (take i xs)) ≡ None → cond b (Some x) (find test xs) ≡ Some (get_or xs i 0)) [
      | true ↦ λ here. absurd (none-some x (sym here))
      | false ↦ λ there. found_here test xs i (omega (arith, inside)) there passes
    ] none

-- and behind the last there is none
pub found_past : (test : ℕ → Bool) (xs : List ℕ) (i : ℕ) → length xs ≤ i → find test (take i xs) ≡ None → find test xs ≡ None
found_past test [] zero past none = refl
found_past test [] (suc i) past none = refl
found_past test (x ∷ xs) zero past none = absurd (omega (arith, past))
found_past test (x ∷ xs) (suc i) past none =
    elim (test x) as (λ b. cond b (Some x) (find test (take i xs)) ≡ None → cond b (Some x) (find test xs) ≡ None) [
      | true ↦ λ here. absurd (none-some x (sym here))
      | false ↦ λ there. found_past test xs i (omega (arith, past)) there
    ] none
