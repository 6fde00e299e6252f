-- Steps of reading and the tests in them.
use Rattle.std.proofs.Common.{◌≡◌, ℕ, zero, suc, ◌<◌, Bool, true, false, cond, eqb, ltb, ◌||◌, refl, ap, ◌⊎◌, inl, inr, arith}
use Rattle.std.proofs.lemmas.Bool.{ltb-false}
use Rattle.std.proofs.Math.Dec.{eqb-suc-zero}

-- which way a test went
pub chosen : {X : Type 0} (b : Bool) (x y z : X) → cond b x y ≡ z → ((b ≡ true) × (x ≡ z)) ⊎ ((b ≡ false) × (y ≡ z))
chosen true x y z e = inl (refl, e)
chosen false x y z e = inr (refl, e)

-- a test that holds takes the first
pub holds : {X : Type 0} (b : Bool) (x y : X) → b ≡ true → cond b x y ≡ x
holds b x y e = ap (λ (c : Bool). cond c x y) e

-- a test that does not hold takes the second
pub passes : {X : Type 0} (b : Bool) (x y : X) → b ≡ false → cond b x y ≡ y
passes b x y e = ap (λ (c : Bool). cond c x y) e

-- neither of two tests held
pub neither : (a b : Bool) → (a || b) ≡ false → (a ≡ false) × (b ≡ false)
neither true b e = absurd cc
neither false b e = (refl, e)

pub not_positive : (n : ℕ) → ltb 0 n ≡ false → n ≡ 0
not_positive n e = let le = ltb-false 0 n e in omega arith

pub not_zero : (n : ℕ) → eqb n 0 ≡ false → 0 < n
not_zero zero e = absurd cc
not_zero (suc n) e = omega arith

pub other_than_zero : (n : ℕ) → 0 < n → eqb n 0 ≡ false
other_than_zero zero h = absurd (omega arith)
other_than_zero (suc n) h = eqb-suc-zero n
