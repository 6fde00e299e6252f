-- Words choose one train and no other.
use Rattle.std.proofs.Common.{◌≡◌, inl, inr, ℕ, List, [], ◌∷◌, length, refl, ap, sym, ◌∙◌, arith, codes}
use Rattle.pm_words.specs.declared.chosen.Chosen.{Chosen}
use Rattle.pm_words.specs.declared.chosen.Chosen.TheVariants.{First, Last, Middle}
use Rattle.pm_words.specs.Words.{IsPlace, HasPlace, Places}

letters_of : Chosen → ℕ
letters_of First = 5
letters_of Last = 4
letters_of Middle = 6

counted : (word : List ℕ) (chosen : Chosen) → IsPlace word chosen → length word ≡ letters_of chosen
unfolding letters_of
counted word First is = ap length is
counted word Last is = ap length is
counted word Middle is = ap length is

one_place : (word : List ℕ) (one other : Chosen) → IsPlace word one → IsPlace word other → one ≡ other
unfolding letters_of
one_place word First First a b = refl
one_place word Last Last a b = refl
one_place word Middle Middle a b = refl
one_place word one other a b = let same : letters_of one ≡ letters_of other = sym (counted word one a) ∙ counted word other b in absurd (omega (arith, same))

same_place : (v w : List ℕ) (one other : Chosen) → v ≡ w → IsPlace v one → IsPlace w other → one ≡ other
same_place v w one other same a b = one_place v one other a (rw same b)

one_given : (words : List (List ℕ)) (one other : Chosen) → HasPlace words one → HasPlace words other → one ≡ other
one_given words one other a b =
    let same : codes "run" ∷ a.file ∷ a.mode ∷ a.place ∷ [] ≡ codes "run" ∷ b.file ∷ b.mode ∷ b.place ∷ [] = sym a.are ∙ b.are in
    let place : a.place ≡ b.place = cc same in
    same_place a.place b.place one other place a.is_place b.is_place

pub one_choice : (words : List (List ℕ)) (one other : Chosen) → Places words one → Places words other → one ≡ other
one_choice words one other (inl a) (inl b) = one_given words one other a b
one_choice words one other (inl a) (inr b) = absurd (b.1 one a)
one_choice words one other (inr a) (inl b) = absurd (a.1 other b)
one_choice words one other (inr a) (inr b) = a.0 ∙ sym b.0
