-- What stands behind the blanks of a row, after an entry was taken away.
use Rattle.std.proofs.Common.{◌≡◌, ℕ, zero, suc, ◌+◌, ◌<◌, refl, ap, sym, ◌∙◌, arith, List, [], ◌∷◌, ◌++◌, length, take, drop, set}
use Rattle.std.specs.List.{remove}
use Rattle.std.proofs.Math.Seq.{drop-append-add}
use Rattle.std.proofs.lemmas.List.{drop-set-lt}
use Rattle.std.proofs.lemmas.Grind.{common_steps}

module _ {X : Type 0} where
  behind : (xs : List X) (b i n : ℕ) → n ≡ b + i → n < length xs → drop b (remove xs n) ≡ remove (drop b xs) i
  behind xs zero i n is lt = let same : n ≡ i = omega arith in ap (remove xs) same
  behind [] (suc b) i n is lt = absurd (omega arith)
  behind (x ∷ xs) (suc b) i zero is lt = absurd (omega arith)
  behind (x ∷ xs) (suc b) i (suc n) is lt = behind xs b i n (omega arith) (omega arith)

  -- an element behind the blanks is taken away
  pub drop_remove : (xs : List X) (b i : ℕ) → b + i < length xs → drop b (remove xs (b + i)) ≡ remove (drop b xs) i
  drop_remove xs b i lt = behind xs b i (b + i) refl lt

  written : (front ys zs rest : List X) (n : ℕ) → n ≡ length front + length ys → take n ((front ++ (ys ++ zs)) ++ rest) ≡ front ++ ys
  written front ys zs rest n is = grind (arith, common_steps)

  past : (front rest : List X) (y : X) (b : ℕ) → length front ≡ b → drop (b + 1) (front ++ y ∷ rest) ≡ rest
  past front rest y b is = ap (λ n. drop (n + 1) (front ++ y ∷ rest)) (sym is) ∙ drop-append-add front (y ∷ rest) 1

  -- the part behind the blanks was written, and its first became a blank
  pub drop_written : (front ys zs rest : List X) (y : X) (others : List X) (n b : ℕ) (blank : X) → length front ≡ b → n ≡ b + length ys → ys ≡ y ∷ others
      → drop (b + 1) (set (take n ((front ++ (ys ++ zs)) ++ rest)) b blank) ≡ others
  drop_written front ys zs rest y others n b blank long all is =
      drop-set-lt (b + 1) (take n ((front ++ (ys ++ zs)) ++ rest)) b blank (omega arith)
      ∙ ap (drop (b + 1)) (written front ys zs rest n (omega arith) ∙ ap (λ (ys : List X). front ++ ys) is)
      ∙ past front others y b long
