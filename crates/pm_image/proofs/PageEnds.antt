-- The first bytes of a page, and the zeros at its end.
use Rattle.std.proofs.Common.{◌≡◌, ℕ, zero, suc, ◌+◌, ◌-◌, Bool, true, false, not, cond, eqb, List, [], ◌∷◌, length, take, drop, replicate, position, Option, Some, None, Ok, refl, sym, ap, ◌∙◌, length-drop}
use Rattle.std.specs.List.{position_from}
use Rattle.std.specs.Str.{bytes_eq}
use Rattle.std.proofs.Math.Dec.{eqb-suc-zero}
use Rattle.std.proofs.lemmas.Iterator.Adapters.{position_from-zero}
use Rattle.std.proofs.lemmas.Slice.Eq.{bytes_eq-Decides}
use Rattle.pm_image.specs.Steps.{tested, magic_at, other_byte, only_zeros, rest_at}

-- a test that had to hold did
pub tested_ok : (b : Bool) (at : ℕ) (u : Unit {0}) → tested b at ≡ Ok u → b ≡ true
tested_ok true at u e = refl
tested_ok false at u e = absurd cc

pub magic_takes : (magic page : List ℕ) (u : Unit {0}) → magic_at magic page ≡ Ok u → take 4 page ≡ magic
unfolding magic_at
magic_takes magic page u read = (bytes_eq-Decides (take 4 page) magic).0 (tested_ok (bytes_eq (take 4 page) magic) 0 u read)

pub magic_again : (magic page : List ℕ) → take 4 page ≡ magic → magic_at magic page ≡ Ok tt
unfolding magic_at
magic_again magic page e = ap (λ (b : Bool). tested b 0) ((bytes_eq-Decides (take 4 page) magic).1 e)

-- a search that goes on past a byte has found that it is 0, and finds none after it
goes_on : (x i : ℕ) (rest : Option ℕ) → cond (not (eqb x 0)) (Some i) rest ≡ None → (x ≡ 0) × (rest ≡ None)
goes_on zero i rest none = (refl, none)
goes_on (suc x) i rest none =
    let found : ◌≡◌ {A = Option ℕ} (Some i) None = sym (ap (λ (b : Bool). cond (not b) (Some i) rest) (eqb-suc-zero x)) ∙ none in
    absurd cc

zeros : (i : ℕ) (xs : List ℕ) → position_from (λ b. not (eqb b 0)) i xs ≡ None → xs ≡ replicate (length xs) 0
zeros i [] none = refl
zeros i (x ∷ xs) none =
    let here = goes_on x i (position_from (λ b. not (eqb b 0)) (i + 1) xs) none in
    ap (λ (y : ℕ). y ∷ xs) here.0 ∙ ap (λ (ys : List ℕ). 0 ∷ ys) (zeros (i + 1) xs here.1)

none_in_zeros : (i n : ℕ) → position_from (λ b. not (eqb b 0)) i (replicate n 0) ≡ None
none_in_zeros i zero = refl
none_in_zeros i (suc n) = none_in_zeros (i + 1) n

nothing_found : (place : ℕ) (found : Option ℕ) (u : Unit {0}) → only_zeros place found ≡ Ok u → found ≡ None
nothing_found place None u e = refl
nothing_found place (Some ahead) u e = absurd cc

-- where no other byte was found, zeros follow to the page's end
pub rest_takes : (page : List ℕ) (place : ℕ) (u : Unit {0}) → rest_at page place ≡ Ok u → drop place page ≡ replicate (length page - place) 0
unfolding rest_at
rest_takes page place u read =
    let none = nothing_found place (other_byte page place) u read in
    zeros 0 (drop place page) (sym (position_from-zero (λ b. not (eqb b 0)) (drop place page)) ∙ none) ∙ ap (λ (n : ℕ). replicate n 0) (length-drop place page)

-- where zeros follow to the page's end, no other byte is found
pub rest_again : (page : List ℕ) (place n : ℕ) → drop place page ≡ replicate n 0 → rest_at page place ≡ Ok tt
unfolding rest_at
rest_again page place n e =
    let none : other_byte page place ≡ None = ap (λ (t : List ℕ). position (λ b. not (eqb b 0)) t) e ∙ position_from-zero (λ b. not (eqb b 0)) (replicate n 0) ∙ none_in_zeros 0 n in
    ap (λ (o : Option ℕ). only_zeros place o) none
