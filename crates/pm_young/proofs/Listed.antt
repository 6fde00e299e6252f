-- Lists of identities that ascend, and what stands at a place of a list.
use Rattle.std.proofs.Common.{◌≡◌, ◌⊎◌, ⊎_elim, inl, inr, ℕ, zero, suc, ◌+◌, ◌<◌, ◌≤◌, Bool, true, false, ◌||◌, nat_eq, List, [], ◌∷◌, ◌++◌, length, take, get_or, Some, Ok, Err, refl, sym, ap, subst, ◌∙◌, arith}
use Rattle.std.specs.List.{slice_get}
use Rattle.std.specs.List.Sorted.{IsBinarySearchResult}
use Rattle.std.specs.Ordering.{nat_cmp}
use Rattle.std.proofs.lemmas.Bool.{false_from_ne_true}
use Rattle.std.proofs.lemmas.Bool.Decides.{nat_tests}
use Rattle.std.proofs.lemmas.List.{get_or-take, length-take-le}
use Rattle.std.proofs.lemmas.List.Sorted.{searched}
use Rattle.std.proofs.lemmas.Map.Keys.{below_from_sorted}
use native.Mathlib.Decide.{dec_lt}
use Rattle.pm_nursery.specs.Escaping.{IsAscending}
use Rattle.pm_nursery.specs.Sweeping.{among}
use Rattle.pm_nursery.proofs.Changed.{among-more}

pub either_one : (a b : Bool) → (a || b) ≡ true → (a ≡ true) ⊎ (b ≡ true)
either_one true b is = inl refl
either_one false b is = inr is

pub left_one : (a b : Bool) → a ≡ true → (a || b) ≡ true
left_one a b is = ap (λ c. c || b) is

pub right_one : (a b : Bool) → b ≡ true → (a || b) ≡ true
right_one true b is = refl
right_one false b is = is

pub same_id : (m n : ℕ) → nat_eq m n ≡ true → m ≡ n
same_id m n is = grind (arith, nat_tests)

pub itself : (n : ℕ) → nat_eq n n ≡ true
itself n = grind (arith, nat_tests)

-- ---- places

pub among_here : (ids : List ℕ) (i : ℕ) → i < length ids → among ids (get_or ids i 0) ≡ true
among_here [] i inside = absurd (omega arith)
among_here (first ∷ ids) zero inside = left_one (nat_eq first first) (among ids first) (itself first)
among_here (first ∷ ids) (suc i) inside = right_one (nat_eq first (get_or ids i 0)) (among ids (get_or ids i 0)) (among_here ids i (omega arith))

pub among_place : (ids : List ℕ) (id : ℕ) → among ids id ≡ true → (i : ℕ) × (i < length ids) × (get_or ids i 0 ≡ id)
among_place [] id is = absurd (cc is)
among_place (first ∷ ids) id is =
    ⊎_elim
    (λ here. (0, omega arith, same_id first id here))
    (λ there. let at = among_place ids id there in (suc at.0, omega (arith, at.1), at.2))
    (either_one (nat_eq first id) (among ids id) is)

not_below : (ids : List ℕ) (i j : ℕ) → IsAscending ids → get_or ids i 0 ≡ get_or ids j 0 → j < length ids → i < j → ⊥
not_below ids i j up same inside less = let below = below_from_sorted ids i j 0 up less inside in omega (arith, below, same)

-- no identity is at two places
pub one_place : (ids : List ℕ) (i j : ℕ) → IsAscending ids → i < length ids → j < length ids → get_or ids i 0 ≡ get_or ids j 0 → i ≡ j
one_place ids i j up a b same = by (dec_lt i j) (dec_lt j i)
  where
    by : Dec (i < j) → Dec (j < i) → i ≡ j
    by (yes less) other = absurd (not_below ids i j up same b less)
    by (no not) (yes less) = absurd (not_below ids j i up (sym same) a less)
    by (no not) (no nor) = grind (arith, not, nor)

-- no identity stands before its place
pub not_before : (ids : List ℕ) (i : ℕ) → IsAscending ids → i < length ids → among (take i ids) (get_or ids i 0) ≡ false
not_before ids i up inside =
    false_from_ne_true (among (take i ids) (get_or ids i 0)) (λ is.
    let at = among_place (take i ids) (get_or ids i 0) is in
    let below : at.0 < i = subst (λ n. at.0 < n) (length-take-le i ids (omega (arith, inside))) at.1 in
    not_below ids at.0 i up (sym (get_or-take i ids at.0 0 below) ∙ at.2) inside below)

pub among_take : (n : ℕ) (ids : List ℕ) (id : ℕ) → among (take n ids) id ≡ true → among ids id ≡ true
among_take zero ids id is = absurd (cc is)
among_take (suc n) [] id is = absurd (cc is)
among_take (suc n) (first ∷ ids) id is =
    ⊎_elim
    (λ here. left_one (nat_eq first id) (among ids id) here)
    (λ there. right_one (nat_eq first id) (among ids id) (among_take n ids id there))
    (either_one (nat_eq first id) (among (take n ids) id) is)

-- one more of a list
pub among_next : (ids : List ℕ) (i id : ℕ) → i < length ids → among (take (i + 1) ids) id ≡ true → (among (take i ids) id ≡ true) ⊎ (get_or ids i 0 ≡ id)
among_next ids i id inside is =
    ⊎_elim (λ before. inl before) (λ here. inr (same_id (get_or ids i 0) id here))
    (either_one (among (take i ids) id) (nat_eq (get_or ids i 0) id) (sym (among-more ids i id inside) ∙ is))

pub among_still : (ids : List ℕ) (i id : ℕ) → i < length ids → among (take i ids) id ≡ true → among (take (i + 1) ids) id ≡ true
among_still ids i id inside is = among-more ids i id inside ∙ left_one (among (take i ids) id) (nat_eq (get_or ids i 0) id) is

pub among_now : (ids : List ℕ) (i : ℕ) → i < length ids → among (take (i + 1) ids) (get_or ids i 0) ≡ true
among_now ids i inside = among-more ids i (get_or ids i 0) inside ∙ right_one (among (take i ids) (get_or ids i 0)) (nat_eq (get_or ids i 0) (get_or ids i 0)) (itself (get_or ids i 0))

pub among_both : (xs ys : List ℕ) (id : ℕ) → among (xs ++ ys) id ≡ true → (among xs id ≡ true) ⊎ (among ys id ≡ true)
among_both [] ys id is = inr is
among_both (first ∷ xs) ys id is =
    ⊎_elim
    (λ here. inl (left_one (nat_eq first id) (among xs id) here))
    (λ there. ⊎_elim (λ a. inl (right_one (nat_eq first id) (among xs id) a)) (λ b. inr b) (among_both xs ys id there))
    (either_one (nat_eq first id) (among (xs ++ ys) id) is)

pub among_first : (xs ys : List ℕ) (id : ℕ) → among xs id ≡ true → among (xs ++ ys) id ≡ true
among_first [] ys id is = absurd (cc is)
among_first (first ∷ xs) ys id is =
    ⊎_elim
    (λ here. left_one (nat_eq first id) (among (xs ++ ys) id) here)
    (λ there. right_one (nat_eq first id) (among (xs ++ ys) id) (among_first xs ys id there))
    (either_one (nat_eq first id) (among xs id) is)

pub among_second : (xs ys : List ℕ) (id : ℕ) → among ys id ≡ true → among (xs ++ ys) id ≡ true
among_second [] ys id is = is
among_second (first ∷ xs) ys id is = right_one (nat_eq first id) (among (xs ++ ys) id) (among_second xs ys id is)

-- ---- what is pushed

pub pushed_at : {X : Type 0} (xs : List X) (x y : X) (k : ℕ) → slice_get (xs ++ x ∷ []) k ≡ Some y → (slice_get xs k ≡ Some y) ⊎ ((k ≡ length xs) × (x ≡ y))
pushed_at [] x y zero is = inr (refl, cc)
pushed_at [] x y (suc k) is = cc
pushed_at (z ∷ xs) x y zero is = inl is
pushed_at (z ∷ xs) x y (suc k) is = ⊎_elim (λ it. inl it) (λ it. inr (omega (arith, it.0), it.1)) (pushed_at xs x y k is)

-- ---- what a search finds

no_fall : (ids : List ℕ) → IsAscending ids → (i j : ℕ) → i ≤ j → j < length ids → get_or ids i 0 ≤ get_or ids j 0
no_fall ids up i j order inside = by (dec_lt i j)
  where
    by : Dec (i < j) → get_or ids i 0 ≤ get_or ids j 0
    by (yes less) = let below = below_from_sorted ids i j 0 up less inside in omega (arith, below)
    by (no not) = let same : i ≡ j = grind (arith, not, order) in subst (λ k. get_or ids i 0 ≤ get_or ids k 0) same (omega arith)

pub search_finds : (ids : List ℕ) (id i : ℕ) → IsAscending ids → IsBinarySearchResult (λ y. nat_cmp y id) ids (Ok i) → (i < length ids) × (get_or ids i 0 ≡ id)
search_finds ids id i up is = searched ids id (Ok i) is (no_fall ids up)

pub search_misses : (ids : List ℕ) (id i : ℕ) → IsAscending ids → among ids id ≡ true → IsBinarySearchResult (λ y. nat_cmp y id) ids (Err i) → ⊥
search_misses ids id i up inside is =
    let none = searched ids id (Err i) is (no_fall ids up) in
    let at = among_place ids id inside in
    by at.0 (dec_lt at.0 i) at.1 at.2 none.1 none.2
  where
    by : (k : ℕ) → Dec (k < i) → k < length ids → get_or ids k 0 ≡ id → ((k : ℕ) → k < i → get_or ids k 0 < id) → ((k : ℕ) → i ≤ k → k < length ids → id < get_or ids k 0) → ⊥
    by k (yes before) within here below above = let less = below k before in omega (arith, less, here)
    by k (no not) within here below above = let over : i ≤ k = grind (arith, not) in let more = above k over within in omega (arith, more, here)
