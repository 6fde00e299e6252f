-- A pass has one view.
use Rattle.std.proofs.Common.{◌≡◌, ℕ, List, [], ◌∷◌, length, arith, refl}

one_alone : {A : Type 0} (x : A) (rest : List A) → length (x ∷ rest) ≡ 1 → (only : A) × (x ∷ rest ≡ only ∷ [])
one_alone x [] one = (x, refl)
one_alone x (y ∷ rest) one = absurd (omega (arith, one))

-- a list of one value is that value's
pub only_one : {A : Type 0} (all : List A) → length all ≡ 1 → (only : A) × (all ≡ only ∷ [])
only_one [] one = absurd (omega (arith, one))
only_one (x ∷ rest) one = one_alone x rest one
