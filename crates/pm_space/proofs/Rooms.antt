-- Room for as many changes as cars stand in a list.
use Rattle.std.proofs.Common.{◌≡◌, ℕ, ◌<◌, ◌≤◌, ◌+◌, ◌==◌, arith, true, false, cond, ap, sym, subst, ◌∙◌, List, length, take, get_or, ⊎_elim}
use Rattle.std.proofs.lemmas.Bool.{cases_Bool, cond-false, eqb-true}
use Rattle.std.proofs.lemmas.List.Sums.{sum_by_more, count_by-le-length}
use Rattle.std.proofs.lemmas.List.{length-take}
use Rattle.pm_space.specs.Linked.{Linked, HasRoom, times}

-- a car stands in the front of a list at most as often as the front is long
pub few_times : (cars : List ℕ) (i car : ℕ) → times car (take i cars) ≤ i
few_times cars i car = let few = count_by-le-length (λ c. c == car) (take i cars) in let short = length-take i cars in omega (arith, few, short)

-- how often a car stands in a list up to the next place
pub once_more : (cars : List ℕ) (i car : ℕ) → i < length cars → times car (take (i + 1) cars) ≡ times car (take i cars) + cond (get_or cars i 0 == car) 1 0
once_more cars i car inside = sum_by_more (λ c. cond (c == car) 1 0) cars i 0 inside

module _ (cars : List ℕ) (i : ℕ) (inside : i < length cars) where
  -- counts where one car was counted once more
  pub counted_more : (old new : ℕ → ℕ) → ((car : ℕ) → old car ≡ times car (take i cars)) → ((other : ℕ) → new other ≡ old other + cond (get_or cars i 0 == other) 1 0)
      → (car : ℕ) → new car ≡ times car (take (i + 1) cars)
  counted_more old new before after car = after car ∙ ap (λ n. n + cond (get_or cars i 0 == car) 1 0) (before car) ∙ sym (once_more cars i car inside)

  -- room where it was made for one car
  pub room_more : (old new : Linked) (count : ℕ) → ((car : ℕ) → HasRoom old car (times car (take i cars))) → count ≡ times (get_or cars i 0) (take (i + 1) cars) → HasRoom new (get_or cars i 0) count
      → ((other more : ℕ) → HasRoom old other more → HasRoom new other more) → (car : ℕ) → HasRoom new car (times car (take (i + 1) cars))
  room_more old new count before is made kept car =
      ⊎_elim
      (λ (here : (get_or cars i 0 == car) ≡ true). subst (λ c. HasRoom new c (times c (take (i + 1) cars))) (eqb-true (get_or cars i 0) car here) (subst (HasRoom new (get_or cars i 0)) is made))
      (λ (differs : (get_or cars i 0 == car) ≡ false).
      let none : ◌≡◌ {A = ℕ} (cond (get_or cars i 0 == car) 1 0) 0 = cond-false _ _ _ differs in
      let still : times car (take i cars) ≡ times car (take (i + 1) cars) = omega (arith, once_more cars i car inside, none) in
      subst (HasRoom new car) still (kept car (times car (take i cars)) (before car)))
      (cases_Bool (get_or cars i 0 == car))
