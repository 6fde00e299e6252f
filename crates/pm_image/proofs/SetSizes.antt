-- How many numbers a set has whose numbers lie between bounds.
use Rattle.std.proofs.Common.{◌≡◌, ⊎_elim, ℕ, zero, suc, ◌+◌, ◌-◌, ◌<◌, ◌≤◌, Bool, true, false, not, cond, ◌&&◌, ◌||◌, ◌==◌, refl, sym, ap, subst, ◌∙◌, arith}
use Rattle.std.specs.Ordering.{nat_cmp, eq_by_cmp}
use Rattle.std.specs.Cmp.{nat_cmp_total, unsigned_tied}
use Rattle.std.specs.FinSet.{FinSet, contains, insert, remove, len, empty, contains-empty, contains-insert, contains-remove, len-empty, len-insert, len-remove, same_set, nat_cmp-IsAntisymmetric}
use Rattle.std.proofs.lemmas.Bool.Decides.{nat_tests}
use Rattle.std.proofs.lemmas.Bool.{cases_lt, eqb-true}

-- each number of the set is over 0 and at most n
abbrev pub AreWithin : ℕ → FinSet nat_cmp → Type 0
AreWithin n s = (q : ℕ) → contains s q ≡ true → (0 < q) × (q ≤ n)

none_in : (s : FinSet nat_cmp) (q : ℕ) (b : Bool) → contains s q ≡ b → (contains s q ≡ true → ⊥) → contains s q ≡ false
none_in s q true is never = absurd (never is)
none_in s q false is never = is

one_less : (b : Bool) (n m : ℕ) → cond b (n - 1) n ≤ m → n ≤ m + 1
one_less true n m le = omega arith
one_less false n m le = omega arith

not_this : (other within : Bool) → (not other && within) ≡ true → (other ≡ false) × (within ≡ true)
not_this true within is = cc
not_this false within is = (refl, is)

-- it has at most n numbers
pub few_members : (n : ℕ) (s : FinSet nat_cmp) → AreWithin n s → len s ≤ n
few_members zero s within =
    let none : s ≡ empty = same_set nat_cmp_total nat_cmp-IsAntisymmetric s empty
    (λ q. none_in s q (contains s q) refl (λ is. let both = within q is in absurd (omega (arith, both.0, both.1))) ∙ sym (contains-empty nat_cmp q)) in
    let size : len s ≡ 0 = ap len none ∙ len-empty nat_cmp in
    omega arith
few_members (suc n) s within =
    let fewer = few_members n (remove s (suc n)) (λ q is.
    let parts = not_this (eq_by_cmp nat_cmp q (suc n)) (contains s q) (sym (contains-remove nat_cmp_total s (suc n) q) ∙ is) in
    let both = within q parts.1 in
    let other = differs q (suc n) parts.0 in
    (both.0, below q n both.1 other)) in
    let le = one_less (contains s (suc n)) (len s) n (subst (λ k. k ≤ n) (len-remove nat_cmp_total s (suc n)) fewer) in
    omega arith
  where
    below : (a b : ℕ) → a ≤ suc b → (a ≡ suc b → ⊥) → a ≤ b
    below a b le other = ⊎_elim (λ (lt : a < suc b). omega arith) (λ (ge : suc b ≤ a). absurd (other (omega arith))) (cases_lt a (suc b))

    differs : (a b : ℕ) → eq_by_cmp nat_cmp a b ≡ false → a ≡ b → ⊥
    differs a b is same = let other : (a == b) ≡ false = sym (unsigned_tied a b) ∙ is in absurd (grind (arith, nat_tests, same, other))

-- with a number more that lies between the bounds they still do
pub within_insert : (n : ℕ) (s : FinSet nat_cmp) (p : ℕ) → AreWithin n s → 0 < p → p ≤ n → AreWithin n (insert s p)
within_insert n s p within some few q is = by (q == p) refl (ap (λ (b : Bool). b || contains s q) (sym (unsigned_tied q p)) ∙ sym (contains-insert nat_cmp_total s p q) ∙ is)
  where
    by : (b : Bool) → (q == p) ≡ b → (b || contains s q) ≡ true → (0 < q) × (q ≤ n)
    by true here either = let same : q ≡ p = eqb-true q p here in (omega arith, omega arith)
    by false other either = within q either

-- a number that was none of them is one more
pub len_more : (s : FinSet nat_cmp) (p : ℕ) → contains s p ≡ false → len (insert s p) ≡ len s + 1
len_more s p other = len-insert nat_cmp_total s p ∙ ap (λ (b : Bool). cond b (len s) (len s + 1)) other

-- the set of one number
pub one_member : (p : ℕ) → len (insert (empty {R = nat_cmp}) p) ≡ 1
one_member p = len_more empty p (contains-empty nat_cmp p) ∙ ap (λ (k : ℕ). k + 1) (len-empty nat_cmp)

pub one_within : (n p : ℕ) → 0 < p → p ≤ n → AreWithin n (insert empty p)
one_within n p some few = within_insert n empty p (λ q is. let no = contains-empty nat_cmp q in absurd (cc (no, is))) some few
