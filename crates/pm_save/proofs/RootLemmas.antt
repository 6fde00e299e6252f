-- The roots of a copy that begins.
use Rattle.std.proofs.Common.{◌≡◌, ℕ, ◌<◌, ◌+◌, arith, refl, sym, ap, ◌∙◌, List, [], ◌∷◌, ◌++◌, length, map, take, get_or, zero, suc, Some}
use Rattle.std.specs.List.{slice_get}
use Rattle.std.proofs.lemmas.List.{map-append, take_more}
use Rattle.pm_types.specs.declared.address.Addr.{Addr}
use Rattle.pm_copies.specs.Opened.{unnumbered}

within : {A : Type 0} (xs : List A) (i : ℕ) (x : A) → slice_get xs i ≡ Some x → i < length xs
within [] i x is = absurd cc
within (y ∷ ys) zero x is = omega arith
within (y ∷ ys) (suc i) x is = let under = within ys i x is in omega (arith, under)

there : {A : Type 0} (xs : List A) (i : ℕ) (x : A) → slice_get xs i ≡ Some x → get_or xs i x ≡ x
there [] i x is = refl
there (y ∷ ys) zero x is = cc
there (y ∷ ys) (suc i) x is = there ys i x is

-- one root more
pub roots_more : (es : List (List ℕ × (ℕ × Addr))) (i : ℕ) (e : List ℕ × (ℕ × Addr)) (root : List ℕ × Addr) → slice_get es i ≡ Some e → root ≡ unnumbered e
    → map unnumbered (take i es) ++ root ∷ [] ≡ map unnumbered (take (i + 1) es)
roots_more es i e root is same =
    ap (λ (r : List ℕ × Addr). map unnumbered (take i es) ++ r ∷ []) same
    ∙ sym (map-append unnumbered (take i es) (e ∷ []))
    ∙ ap (map unnumbered) (ap (λ (x : List ℕ × (ℕ × Addr)). take i es ++ x ∷ []) (sym (there es i e is)) ∙ sym (take_more es i e (within es i e is)))
