-- Lists in which each number stands once.
use Rattle.std.proofs.Common.{◌≡◌, ◌≤◌, ◌+◌, ℕ, ◌==◌, ◌||◌, nat_eq, Bool, true, false, cond, refl, ap, sym, subst, ◌∙◌, List, [], ◌∷◌, ◌++◌, arith}
use Rattle.std.specs.List.{AllByRecursion, IsDistinct, list_any, count_by}
use Rattle.std.proofs.lemmas.Bool.{eqb-true, eq-eqb, true≢false, false_from_ne_true}
use Rattle.std.proofs.lemmas.List.Sums.{sum_by-cons}
use Rattle.std.proofs.lemmas.Map.Keys.{IsDistinct-cons, IsDistinct-head, IsDistinct-tail}
use Rattle.pm_trains.specs.Trains.{is_among}
use Rattle.pm_law_collect.proofs.PhasesLemmas.Small.{or_left, or_right}

-- ---- tests of lists

-- what passes in two lists passes in one of them
pub any_both : (p : ℕ → Bool) (xs ys : List ℕ) → list_any p (xs ++ ys) ≡ true → (list_any p xs || list_any p ys) ≡ true
any_both p [] ys is = is
any_both p (x ∷ xs) ys is = by_case (p x) is (any_both p xs ys)
  where
    by_case : (b : Bool) → (b || list_any p (xs ++ ys)) ≡ true → (list_any p (xs ++ ys) ≡ true → (list_any p xs || list_any p ys) ≡ true) → ((b || list_any p xs) || list_any p ys) ≡ true
    by_case true is later = refl
    by_case false is later = later is

-- a number that is among others is one of them, by the test the other way round
pub among_listed : (q : ℕ) (xs : List ℕ) → is_among q xs ≡ true → list_any (nat_eq q) xs ≡ true
among_listed q [] is = is
among_listed q (x ∷ xs) is = by_case (x == q) refl is (among_listed q xs)
  where
    by_case : (b : Bool) → (x == q) ≡ b → (b || is_among q xs) ≡ true → (is_among q xs ≡ true → list_any (nat_eq q) xs ≡ true) → (nat_eq q x || list_any (nat_eq q) xs) ≡ true
    by_case true same is later = or_left (nat_eq q x) _ (eq-eqb q x (sym (eqb-true x q same)))
    by_case false apart is later = or_right (nat_eq q x) (later is)

-- a number apart from each is none of them, and the other way round
pub all_apart : (q : ℕ) (xs : List ℕ) → list_any (nat_eq q) xs ≡ false → AllByRecursion (λ y. nat_eq q y ≡ false) xs
all_apart q [] none = tt
all_apart q (x ∷ xs) none = by_case (nat_eq q x) refl none (all_apart q xs)
  where
    by_case : (b : Bool) → nat_eq q x ≡ b → (b || list_any (nat_eq q) xs) ≡ false → (list_any (nat_eq q) xs ≡ false → AllByRecursion (λ y. nat_eq q y ≡ false) xs) → AllByRecursion (λ y. nat_eq q y ≡ false) (x ∷ xs)
    by_case true same none later = absurd (true≢false none)
    by_case false apart none later = (apart, later none)

pub not_listed : (q : ℕ) (xs : List ℕ) → AllByRecursion (λ y. nat_eq q y ≡ false) xs → list_any (nat_eq q) xs ≡ false
not_listed q [] all = refl
not_listed q (x ∷ xs) all = ap (λ b. b || list_any (nat_eq q) xs) all.0 ∙ not_listed q xs all.1

-- ---- each once

pub nil_once : IsDistinct nat_eq []
unfolding IsDistinct
nil_once = tt

-- one number more, which is none of them
pub one_more_once : (q : ℕ) (xs : List ℕ) → (list_any (nat_eq q) xs ≡ true → ⊥) → IsDistinct nat_eq xs → IsDistinct nat_eq (q ∷ xs)
one_more_once q xs none once = IsDistinct-cons nat_eq q xs (all_apart q xs (false_from_ne_true _ none)) once

-- two lists that share no number
pub both_once : (xs ys : List ℕ) → IsDistinct nat_eq xs → IsDistinct nat_eq ys → ((q : ℕ) → list_any (nat_eq q) xs ≡ true → list_any (nat_eq q) ys ≡ true → ⊥) → IsDistinct nat_eq (xs ++ ys)
both_once [] ys one two apart = two
both_once (x ∷ xs) ys one two apart =
    one_more_once x (xs ++ ys) (λ is. elsewhere (list_any (nat_eq x) xs) refl (any_both (nat_eq x) xs ys is))
    (both_once xs ys (IsDistinct-tail nat_eq x xs one) two (λ q in_x in_y. apart q (or_right (nat_eq q x) in_x) in_y))
  where
    elsewhere : (b : Bool) → list_any (nat_eq x) xs ≡ b → (b || list_any (nat_eq x) ys) ≡ true → ⊥
    elsewhere true here is = true≢false (sym here ∙ not_listed x xs (IsDistinct-head nat_eq x xs one))
    elsewhere false here is = apart x (or_left (nat_eq x x) _ (eq-eqb x x refl)) is

-- ---- by how often each stands there

abbrev pub times : ℕ → List ℕ → ℕ
times q xs = count_by (λ c. c == q) xs

times_cons : (q x : ℕ) (xs : List ℕ) → times q (x ∷ xs) ≡ cond (x == q) 1 0 + times q xs
times_cons q x xs = sum_by-cons _ x xs

listed_times : (q : ℕ) (xs : List ℕ) → list_any (nat_eq q) xs ≡ true → 1 ≤ times q xs
listed_times q [] is = absurd (true≢false (sym is))
listed_times q (x ∷ xs) is = subst (λ n. 1 ≤ n) (sym (times_cons q x xs)) (by_case (nat_eq q x) refl (x == q) refl is (listed_times q xs))
  where
    by_case : (b : Bool) → nat_eq q x ≡ b → (c : Bool) → (x == q) ≡ c → (b || list_any (nat_eq q) xs) ≡ true → (list_any (nat_eq q) xs ≡ true → 1 ≤ times q xs) → 1 ≤ cond c 1 0 + times q xs
    by_case b one true two is later = omega arith
    by_case true one false two is later = absurd (true≢false (sym (eq-eqb x q (sym (eqb-true q x one))) ∙ two))
    by_case false one false two is later = let rest = later is in omega (arith, rest)

pub once_from_times : (xs : List ℕ) → ((q : ℕ) → times q xs ≤ 1) → IsDistinct nat_eq xs
once_from_times [] few = nil_once
once_from_times (x ∷ xs) few =
    one_more_once x xs (λ is. again (x == x) (eq-eqb x x refl) (subst (λ n. n ≤ 1) (times_cons x x xs) (few x)) (listed_times x xs is))
    (once_from_times xs (λ q. fewer q (x == q) (subst (λ n. n ≤ 1) (times_cons q x xs) (few q))))
  where
    again : (b : Bool) → b ≡ true → cond b 1 0 + times x xs ≤ 1 → 1 ≤ times x xs → ⊥
    again true one most some = omega (arith, most, some)
    again false one most some = true≢false (sym one)

    fewer : (q : ℕ) (b : Bool) → cond b 1 0 + times q xs ≤ 1 → times q xs ≤ 1
    fewer q true most = omega (arith, most)
    fewer q false most = omega (arith, most)
