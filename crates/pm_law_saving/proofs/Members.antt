-- Members of lists, and numbers that are apart.
use Rattle.std.proofs.Common.{◌≡◌, ⊎_elim, ℕ, zero, suc, ◌≤◌, Bool, true, false, ◌==◌, List, [], ◌∷◌, map, Contains, refl, sym, ap, subst, ◌∙◌, arith}
use Rattle.std.specs.List.{AllByRecursion, flat_map}
use Rattle.std.proofs.lemmas.Bool.{eqb-true}
use Rattle.std.proofs.lemmas.Bool.Decides.{nat_tests}
use Rattle.std.proofs.lemmas.List.Elements.{Contains-append_cases, Contains-append_left, Contains-append_right}
use Rattle.pm_model.proofs.Members.{at_first, first_or_rest, in_none, in_rest}
use Rattle.pm_copies.specs.Apart.{AreApart, times}
use Rattle.pm_law_copies.proofs.GraphsLemmas.Sets.{once}

-- what holds of each holds of a member
pub of_member : {A : Type 0} (P : A → Type 0) (xs : List A) (x : A) → AllByRecursion P xs → Contains xs x → P x
of_member P [] x all within = absurd (in_none x within)
of_member P (y ∷ xs) x all within =
    ⊎_elim (λ same. subst P same all.0) (λ there. of_member P xs x all.1 there) (first_or_rest y x xs within)

-- and what holds of each member holds of each
pub by_members : {A : Type 0} (P : A → Type 0) (xs : List A) → ((x : A) → Contains xs x → P x) → AllByRecursion P xs
by_members P [] each = tt
by_members P (x ∷ xs) each = (each x (at_first x xs), by_members P xs (λ y there. each y (in_rest x y xs there)))

-- a member of a list that is mapped
pub in_map : {A B : Type 0} (f : A → B) (xs : List A) (x : A) → Contains xs x → Contains (map f xs) (f x)
in_map f [] x within = absurd (in_none x within)
in_map f (y ∷ xs) x within =
    ⊎_elim (λ (same : y ≡ x). subst (λ z. Contains (f y ∷ map f xs) (f z)) same (at_first (f y) (map f xs)))
    (λ there. in_rest (f y) (f x) (map f xs) (in_map f xs x there)) (first_or_rest y x xs within)

pub from_map : {A B : Type 0} (f : A → B) (xs : List A) (y : B) → Contains (map f xs) y → (x : A) × Contains xs x × (f x ≡ y)
from_map f [] y within = absurd (in_none y within)
from_map f (x ∷ xs) y within =
    ⊎_elim (λ (same : f x ≡ y). (x, at_first x xs, same))
    (λ there. let rest = from_map f xs y there in (rest.0, in_rest x rest.0 xs rest.1, rest.2)) (first_or_rest (f x) y (map f xs) within)

pub all_map : {A B : Type 0} (P : B → Type 0) (f : A → B) (xs : List A) → AllByRecursion P (map f xs) → AllByRecursion (λ x. P (f x)) xs
all_map P f [] all = tt
all_map P f (x ∷ xs) all = (all.0, all_map P f xs all.1)

-- ---- numbers that are apart

self : (x : ℕ) → (x == x) ≡ true
self x = grind (arith, nat_tests)

-- a number stands in a list as often as it is a member
pub stands_in : (x : ℕ) (xs : List ℕ) → Contains xs x → 1 ≤ times x xs
stands_in x [] within = absurd (in_none x within)
stands_in x (y ∷ xs) within =
    ⊎_elim
    (λ (same : y ≡ x). let here : once (y == x) ≡ 1 = ap (λ (z : ℕ). once (z == x)) same ∙ ap once (self x) in omega (arith, here))
    (λ there. let rest = stands_in x xs there in omega (arith, rest)) (first_or_rest y x xs within)

pub is_member : (x : ℕ) (xs : List ℕ) → 1 ≤ times x xs → Contains xs x
is_member x [] some = absurd (omega (arith, some))
is_member x (y ∷ xs) some = by (y == x) refl (is_member x xs)
  where
    by : (b : Bool) → (y == x) ≡ b → (1 ≤ times x xs → Contains xs x) → Contains (y ∷ xs) x
    by true is rest = subst (Contains (y ∷ xs)) (eqb-true y x is) (at_first y xs)
    by false is rest = let none : once (y == x) ≡ 0 = ap once is in in_rest y x xs (rest (omega (arith, none, some)))

pub not_member : (x : ℕ) (xs : List ℕ) → (Contains xs x → ⊥) → times x xs ≡ 0
not_member x xs none = by (times x xs) refl
  where
    by : (n : ℕ) → times x xs ≡ n → times x xs ≡ 0
    by zero is = is
    by (suc n) is = absurd (none (is_member x xs (omega (arith, is))))

-- numbers that are apart stay apart with one more that is none of them
pub apart_more : (x : ℕ) (xs : List ℕ) → (Contains xs x → ⊥) → AreApart xs → AreApart (x ∷ xs)
apart_more x xs none apart number = by (x == number) refl
  where
    by : (b : Bool) → (x == number) ≡ b → times number (x ∷ xs) ≤ 1
    by true is =
        let same : times number xs ≡ 0 = ap (λ (n : ℕ). times n xs) (sym (eqb-true x number is)) ∙ not_member x xs none in
        let here : once (x == number) ≡ 1 = ap once is in
        omega (arith, same, here)
    by false is =
        let rest = apart number in
        let here : once (x == number) ≡ 0 = ap once is in
        omega (arith, rest, here)

-- ---- lists that are made of lists

pub in_flat : {A B : Type 0} (f : A → List B) (xs : List A) (x : A) (y : B) → Contains xs x → Contains (f x) y → Contains (flat_map f xs) y
in_flat f [] x y within here = absurd (in_none x within)
in_flat f (z ∷ xs) x y within here =
    ⊎_elim (λ (same : z ≡ x). Contains-append_left (f z) (flat_map f xs) y (subst (λ z. Contains (f z) y) (sym same) here))
    (λ there. Contains-append_right (f z) (flat_map f xs) y (in_flat f xs x y there here)) (first_or_rest z x xs within)

pub from_flat : {A B : Type 0} (f : A → List B) (xs : List A) (y : B) → Contains (flat_map f xs) y → (x : A) × Contains xs x × Contains (f x) y
from_flat f [] y within = absurd (in_none y within)
from_flat f (x ∷ xs) y within =
    ⊎_elim (λ here. (x, at_first x xs, here))
    (λ there. let rest = from_flat f xs y there in (rest.0, in_rest x rest.0 xs rest.1, rest.2)) (Contains-append_cases (f x) (flat_map f xs) y within)

-- the only member of a list of one
pub only_member : {A : Type 0} (x y : A) → Contains (x ∷ []) y → x ≡ y
only_member x y within = ⊎_elim (λ (same : x ≡ y). same) (λ none. absurd (in_none y none)) (first_or_rest x y [] within)
