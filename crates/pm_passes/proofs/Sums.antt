-- Sums over lists that are read by their places.
use Rattle.std.proofs.Common.{◌≡◌, ◌≢◌, ℕ, zero, suc, ◌<◌, ◌≤◌, ◌+◌, List, [], ◌∷◌, ◌++◌, length, set, refl, sym, ap, arith}
use Rattle.pm_passes.specs.Numbering.{total}
use mathlib.Core.Option.{some, some-ne-none, some-injective}
use lib.ListN.{get_elem?}

module _ {A : Type 0} where
  pub at_less : (l : List A) (i : ℕ) (a : A) → get_elem? l i ≡ some a → i < length l
  at_less [] i a e = absurd (some-ne-none a (sym e))
  at_less (x ∷ xs) zero a e = omega arith
  at_less (x ∷ xs) (suc i) a e = let h = at_less xs i a e in omega (arith, h)

  module _ (f : A → ℕ) where
    pub sum_set : (l : List A) (i : ℕ) (a b : A) → get_elem? l i ≡ some a → total f (set l i b) + f a ≡ total f l + f b
    sum_set [] i a b e = absurd (some-ne-none a (sym e))
    sum_set (x ∷ xs) zero a b e = let h : f x ≡ f a = ap f (some-injective x a e) in omega (arith, h)
    sum_set (x ∷ xs) (suc i) a b e = let h = sum_set xs i a b e in omega (arith, h)

    pub sum_more : (l : List A) (a : A) → total f (l ++ a ∷ []) ≡ total f l + f a
    sum_more [] a = omega arith
    sum_more (x ∷ xs) a = let h = sum_more xs a in omega (arith, h)

    -- one is no more than all
    pub one_of : (l : List A) (i : ℕ) (a : A) → get_elem? l i ≡ some a → f a ≤ total f l
    one_of [] i a e = absurd (some-ne-none a (sym e))
    one_of (x ∷ xs) zero a e = let h : f x ≡ f a = ap f (some-injective x a e) in omega (arith, h)
    one_of (x ∷ xs) (suc i) a e = let h = one_of xs i a e in omega (arith, h)

    -- and two are no more
    pub two_of : (l : List A) (i j : ℕ) (a b : A) → get_elem? l i ≡ some a → get_elem? l j ≡ some b → j ≢ i → f a + f b ≤ total f l
    two_of [] i j a b e d n = absurd (some-ne-none a (sym e))
    two_of (x ∷ xs) zero zero a b e d n = absurd (n refl)
    two_of (x ∷ xs) zero (suc j) a b e d n = let h : f x ≡ f a = ap f (some-injective x a e) in let k = one_of xs j b d in omega (arith, h, k)
    two_of (x ∷ xs) (suc i) zero a b e d n = let h : f x ≡ f b = ap f (some-injective x b d) in let k = one_of xs i a e in omega (arith, h, k)
    two_of (x ∷ xs) (suc i) (suc j) a b e d n = let h = two_of xs i j a b e d (λ q. n (ap suc q)) in omega (arith, h)

    -- where all are 0, so is the sum
    zeros : (l : List A) → ((j : ℕ) (b : A) → get_elem? l j ≡ some b → f b ≡ 0) → total f l ≡ 0
    zeros [] none_of = refl
    zeros (x ∷ xs) none_of = let h = none_of 0 x refl in let k = zeros xs (λ j b at. none_of (suc j) b at) in omega (arith, h, k)

    -- where all others are 0, the sum is the one
    pub alone : (l : List A) (i : ℕ) (a : A) → get_elem? l i ≡ some a → ((j : ℕ) (b : A) → get_elem? l j ≡ some b → j ≢ i → f b ≡ 0) → total f l ≡ f a
    alone [] i a e others = absurd (some-ne-none a (sym e))
    alone (x ∷ xs) zero a e others =
        let h : f x ≡ f a = ap f (some-injective x a e) in
        let k = zeros xs (λ j b at. others (suc j) b at (λ q. omega (arith, q))) in
        omega (arith, h, k)
    alone (x ∷ xs) (suc i) a e others =
        let h = others 0 x refl (λ q. omega (arith, q)) in
        let k = alone xs i a e (λ j b at ne. others (suc j) b at (λ q. ne (omega (arith, q)))) in
        omega (arith, h, k)
