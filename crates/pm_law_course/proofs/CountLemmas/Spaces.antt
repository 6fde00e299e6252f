-- How many objects stand in cars of two spaces.
use Rattle.std.proofs.Common.{◌≡◌, ◌≤◌, ◌+◌, ℕ, ◌||◌, nat_eq, Bool, true, false, refl, sym, subst, List, ◌∷◌, arith}
use Rattle.std.specs.List.{IsDistinct, list_any, sum_by}
use Rattle.std.specs.Cmp.{nat_eq_equiv}
use Rattle.std.proofs.lemmas.Bool.{eqb-true, eq-eqb, both_ways}
use Rattle.std.proofs.lemmas.Map.Made.{length-le_from_is_member}
use Rattle.pm_types.specs.declared.address.Addr.{Addr}
use Rattle.pm_trains.specs.Trains.{is_among}
use Rattle.pm_view.specs.View.{SpaceView}
use Rattle.pm_view.specs.Counts.{standing_in, IsStandingAt}
use Rattle.pm_view.specs.Law.{HeapLaw}
use Rattle.pm_law_course.proofs.Counting.{of_cars, as_many_cars}
use Rattle.pm_law_course.proofs.CountLemmas.Once.{one_more_once}
use Rattle.pm_law_course.proofs.CountLemmas.Identities.{all_once, stands_among, listed_among}

module _ (view t : SpaceView) (law : HeapLaw view) (then : HeapLaw t) (cs ds : List ℕ) (once : IsDistinct nat_eq ds) where
  -- the identity stands in one of the cars of the first space
  abbrev pub Was : ℕ → Type 0
  Was q = (b : Addr) × (IsStandingAt view q b × (is_among b.car cs ≡ true))

  abbrev pub Comes : Type 0
  Comes = (q : ℕ) (a : Addr) → IsStandingAt t q a → is_among a.car ds ≡ true → Was q

  listed_before : (q : ℕ) → Was q → list_any (nat_eq q) (of_cars view cs) ≡ true
  listed_before q was = listed_among view law cs q was.0 was.1.0 was.1.1

  -- where whatever stands in the one cars stood in the others, no more do
  pub no_more_stand : Comes → sum_by (standing_in t) ds ≤ sum_by (standing_in view) cs
  no_more_stand comes =
      let most = length-le_from_is_member nat_eq_equiv (of_cars t ds) (of_cars view cs) (all_once t then ds once) (λ q is. let now = stands_among t then ds q is in listed_before q (comes q now.0 now.1.0 now.1.1)) in
      let one = as_many_cars t ds in
      let two = as_many_cars view cs in
      omega (arith, most, one, two)

  -- and one fewer where one of those left
  pub one_fewer_stands : Comes → (q : ℕ) (a : Addr) → IsStandingAt view q a → is_among a.car cs ≡ true → ((b : Addr) → IsStandingAt t q b → is_among b.car ds ≡ true → ⊥) → sum_by (standing_in t) ds + 1 ≤ sum_by (standing_in view) cs
  one_fewer_stands comes q a stood among left =
      let more : IsDistinct nat_eq (q ∷ of_cars t ds) = one_more_once q (of_cars t ds) (λ is. let now = stands_among t then ds q is in left now.0 now.1.0 now.1.1) (all_once t then ds once) in
      let most = length-le_from_is_member nat_eq_equiv (q ∷ of_cars t ds) (of_cars view cs) more (λ p is. by_case p (nat_eq p q) refl is) in
      let one = as_many_cars t ds in
      let two = as_many_cars view cs in
      omega (arith, most, one, two)
    where
      by_case : (p : ℕ) (b : Bool) → nat_eq p q ≡ b → (b || list_any (nat_eq p) (of_cars t ds)) ≡ true → list_any (nat_eq p) (of_cars view cs) ≡ true
      by_case p true same is = subst (λ p. list_any (nat_eq p) (of_cars view cs) ≡ true) (sym (eqb-true p q same)) (listed_before q (a, (stood, among)))
      by_case p false apart is = let now = stands_among t then ds p is in listed_before p (comes p now.0 now.1.0 now.1.1)

  -- and one more at most where one identity is new
  pub one_more_stands : (new : ℕ) → ((q : ℕ) (a : Addr) → (q ≡ new → ⊥) → IsStandingAt t q a → is_among a.car ds ≡ true → Was q) → sum_by (standing_in t) ds ≤ sum_by (standing_in view) cs + 1
  one_more_stands new comes =
      let most = length-le_from_is_member nat_eq_equiv (of_cars t ds) (new ∷ of_cars view cs) (all_once t then ds once) (λ q is. by_case q is (nat_eq q new) refl) in
      let one = as_many_cars t ds in
      let two = as_many_cars view cs in
      omega (arith, most, one, two)
    where
      by_case : (q : ℕ) → list_any (nat_eq q) (of_cars t ds) ≡ true → (b : Bool) → nat_eq q new ≡ b → (b || list_any (nat_eq q) (of_cars view cs)) ≡ true
      by_case q is true same = refl
      by_case q is false apart = let now = stands_among t then ds q is in listed_before q (comes q now.0 (λ same. both_ways (nat_eq q new) apart (eq-eqb q new same)) now.1.0 now.1.1)
