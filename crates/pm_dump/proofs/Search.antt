-- A search among objects in ascending order.
use Rattle.std.proofs.Common.{◌≡◌, inl, inr, ℕ, zero, suc, ◌+◌, ◌<◌, ◌≤◌, Bool, true, false, cond, T, List, [], ◌∷◌, length, get_or, drop, Option, Some, IsSome, IfSome, Result, Ok, Err, refl, sym, ap, subst, ◌∙◌, arith, add-one}
use Rattle.std.proofs.lemmas.Bool.{cases_lt}
use Rattle.std.proofs.lemmas.Bool.Decides.{nat_tests}
use Rattle.std.proofs.lemmas.Cmp.{ranked}
use Rattle.std.proofs.lemmas.List.{at_drop_more}
use Rattle.std.proofs.lemmas.List.Sorted.{searchable_from_sorted}
use Rattle.std.specs.List.Sorted.{IsSearchInRange, IsBinarySearchResult, IsNonDecreasingBy}
use Rattle.std.specs.declared.cmp.Ordering.TheVariants.{Less}
use Rattle.std.specs.Cmp.{nat_cmp_total}
use Rattle.std.specs.Ordering.{nat_cmp, is_lt, eq_by_cmp, ordering_index}
use Rattle.std.specs.FinMap.{find, is_sorted}
use Rattle.std.specs.FinMap.Entries.{below_all}
use Rattle.pm_dump.specs.declared.parts.Place.{Place}
use Rattle.pm_dump.specs.Read.{keyed, IsAmong, AreAmong}
use Rattle.pm_dump.proofs.Sorted.{first, second, less}

below_each : (x : ℕ) (places : List Place) → T (below_all nat_cmp x (keyed places)) → (k : ℕ) (d : Place) → k < length places → nat_cmp x (get_or places k d).id ≡ Less
below_each x [] below k d lt = absurd (omega (arith, lt))
below_each x (place ∷ places) below zero d lt = less (nat_cmp x place.id) (first (is_lt (nat_cmp x place.id)) (below_all nat_cmp x (keyed places)) below)
below_each x (place ∷ places) below (suc k) d lt = below_each x places (second (is_lt (nat_cmp x place.id)) (below_all nat_cmp x (keyed places)) below) k d (omega (arith, lt))

turned : (m n : ℕ) → nat_cmp m n ≡ Less → is_lt (nat_cmp n m) ≡ false
turned m n is = grind (arith, nat_tests, is)

neighbours : (places : List Place) → T (is_sorted nat_cmp (keyed places)) → (k : ℕ) (d : Place) → suc k < length places → is_lt (nat_cmp (get_or places (suc k) d).id (get_or places k d).id) ≡ false
neighbours [] sorted k d lt = absurd (omega (arith, lt))
neighbours (place ∷ places) sorted zero d lt =
    turned place.id (get_or places 0 d).id (below_each place.id places (first (below_all nat_cmp place.id (keyed places)) (is_sorted nat_cmp (keyed places)) sorted) 0 d (omega (arith, lt)))
neighbours (place ∷ places) sorted (suc k) d lt = neighbours places (second (below_all nat_cmp place.id (keyed places)) (is_sorted nat_cmp (keyed places)) sorted) k d (omega (arith, lt))

searchable : (places : List Place) → T (is_sorted nat_cmp (keyed places)) → (x : ℕ) → IsNonDecreasingBy (λ (place : Place). ordering_index (nat_cmp place.id x)) places
searchable places sorted x = searchable_from_sorted nat_cmp_total (λ (place : Place). place.id) places x (λ k d low lt. rw add-one (neighbours places sorted k d (omega (arith, lt))))

tie : (k : ℕ) → eq_by_cmp nat_cmp k k ≡ true
tie k = grind (arith, nat_tests)

either_some : {X : Type 0} (b : Bool) (x : X) (o : Option X) → IsSome o → IsSome (cond b (Some x) o)
either_some true x o is = refl
either_some false x o is = is

-- what stands at a place is found
found_at : (places : List Place) (k at : ℕ) (d : Place) → at < length places → (get_or places at d).id ≡ k → IsAmong places k
found_at [] k at d lt is = absurd (omega (arith, lt))
found_at (place ∷ places) k zero d lt is = subst (λ (b : Bool). IsSome (cond b (Some place) (find nat_cmp k (keyed places)))) (sym (ap (eq_by_cmp nat_cmp k) is ∙ tie k)) refl
found_at (place ∷ places) k (suc at) d lt is = either_some (eq_by_cmp nat_cmp k place.id) place (find nat_cmp k (keyed places)) (found_at places k at d (omega (arith, lt)) is)

apart : (k id : ℕ) → (id ≡ k → ⊥) → eq_by_cmp nat_cmp k id ≡ false
apart k id other = grind (arith, nat_tests, other)

-- what stands at none is not
not_found : (places : List Place) (k : ℕ) → ((j : ℕ) (d : Place) → j < length places → (get_or places j d).id ≡ k → ⊥) → IsAmong places k → ⊥
not_found [] k never is = cc is
not_found (place ∷ places) k never is =
    not_found places k (λ j d lt. never (suc j) d (omega (arith, lt)))
    (subst (λ (b : Bool). IsSome (cond b (Some place) (find nat_cmp k (keyed places)))) (apart k place.id (never 0 place (omega arith))) is)

blank : Place
blank = record { id = 0; fields = 0; bytes = 0 }

-- a search tells whether the identity is among them
pub searched : (places : List Place) → T (is_sorted nat_cmp (keyed places)) → (k : ℕ) (r : Result ℕ ℕ) → IsSearchInRange r (length places) → IsBinarySearchResult (λ (place : Place). nat_cmp place.id k) places r
    → ((at : ℕ) → r ≡ Ok at → IsAmong places k) × ((at : ℕ) → r ≡ Err at → IsAmong places k → ⊥)
searched places sorted k (Ok at) within equal = (λ n is. found_at places k at blank within (ranked _ k _ (sym (equal blank))), λ n is. absurd (cc is))
searched places sorted k (Err at) within parted = (
  λ n is. absurd (cc is),
  λ n is. not_found places k (λ j d lt same.
      let rises = searchable places sorted k in
      let smaller : j < at → (get_or places j d).id < k = λ below. ranked _ k _ (sym ((parted rises).0 j d (omega (arith, within, below)) below)) in
      let greater : at ≤ j → k < (get_or places j d).id = λ above. ranked _ k _ (sym ((parted rises).1 j d above lt)) in
      elim (cases_lt j at) [ inl below ↦ omega (arith, smaller below, same) | inr above ↦ omega (arith, greater above, same) ]),
)

-- ---- fields one by one

pub among_more : (places : List Place) (fields : List (Option ℕ)) (k : ℕ) (field : Option ℕ) → k < length fields → field ≡ get_or fields k field → AreAmong places (drop k fields) → IfSome field (IsAmong places) × AreAmong places (drop (k + 1) fields)
among_more places fields k field lt is all =
    let both = subst (AreAmong places) (at_drop_more (λ (fs : List (Option ℕ)). fs) fields k field lt) all in
    (subst (λ (f : Option ℕ). IfSome f (IsAmong places)) (sym is) both.0, both.1)
