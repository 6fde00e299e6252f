-- What a word names is among what words of its length name.
use Rattle.std.proofs.Common.{◌≡◌, ℕ, suc, Bool, true, false, ◌&&◌, ◌==◌, cond, List, [], ◌∷◌, length, Option, Some, refl, ap, ◌∙◌, arith, nat_eq}
use Rattle.std.proofs.lemmas.Bool.Decides.{nat_tests}
use Rattle.std.specs.List.{find, filter}
use Rattle.std.specs.Cmp.Lexicographic.{pointwise}
use Rattle.pm_script.specs.declared.verb.Dialect.{Dialect}
use Rattle.pm_script.specs.declared.verb.First.{First}
use Rattle.pm_script.specs.Words.{word_of, verbs, belongs}
use Rattle.pm_script.specs.Values.{verb_at, verbs_of}
use Rattle.pm_script.proofs.Both.{first_true, second_true}

next : (m n : ℕ) → nat_eq m n ≡ true → nat_eq (suc m) (suc n) ≡ true
next m n is = grind (arith, nat_tests)

-- equal words are of one length
same_length : (xs ys : List ℕ) → pointwise ◌==◌ xs ys ≡ true → nat_eq (length ys) (length xs) ≡ true
same_length [] [] is = refl
same_length [] (y ∷ ys) is = cc
same_length (x ∷ xs) [] is = cc
same_length (x ∷ xs) (y ∷ ys) is = next (length ys) (length xs) (same_length xs ys (second_true _ _ is))

kept : {X : Type 0} (p : X → Bool) (x : X) (b : Bool) (ys : List X) → find p (cond b (x ∷ ys) ys) ≡ cond b (cond (p x) (Some x) (find p ys)) (find p ys)
kept p x true ys = refl
kept p x false ys = refl

passes_both : {X : Type 0} (a b : Bool) (one rest : Option X) → (a ≡ true → b ≡ true) → cond b (cond a one rest) rest ≡ cond a one rest
passes_both true true one rest so = refl
passes_both true false one rest so = absurd (let bad : false ≡ true = so refl in cc bad)
passes_both false true one rest so = refl
passes_both false false one rest so = refl

-- what is found is found among those that pass a test that it passes
found_among : {X : Type 0} (p q : X → Bool) → ((x : X) → p x ≡ true → q x ≡ true) → (xs : List X) → find p (filter q xs) ≡ find p xs
found_among p q so [] = refl
found_among p q so (x ∷ xs) =
    kept p x (q x) (filter q xs) ∙ passes_both (p x) (q x) (Some x) (find p (filter q xs)) (so x) ∙ ap (cond (p x) (Some x)) (found_among p q so xs)

pub named_so : (dialect : Dialect) (first : First) (word : List ℕ) → find (λ verb. pointwise ◌==◌ word (word_of verb) && belongs dialect first verb) (verbs_of (length word)) ≡ verb_at dialect first word
unfolding verb_at
named_so dialect first word =
    found_among (λ verb. pointwise ◌==◌ word (word_of verb) && belongs dialect first verb) (λ verb. nat_eq (length (word_of verb)) (length word))
    (λ verb is. same_length word (word_of verb) (first_true _ _ is)) verbs
