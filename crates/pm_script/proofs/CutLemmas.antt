-- A text cut at its first mark.
use Rattle.std.proofs.Common.{◌≡◌, ℕ, ◌+◌, ◌-◌, ◌<◌, Bool, true, false, List, [], ◌∷◌, length, take, drop, nat_eq, Some, None, refl, sym, ap, subst, ◌∙◌, arith, length-drop, get_or}
use Rattle.std.proofs.lemmas.List.{take_all, length-take, get_or-take}
use Rattle.std.proofs.lemmas.List.Elements.{All-from_get_or}
use Rattle.std.proofs.lemmas.List.Splits.{slice_split_none, slice_split_first}
use Rattle.std.proofs.lemmas.List.Quantifiers.{position-Some}
use Rattle.std.proofs.lemmas.List.Sums.{position_or_len_is}
use Rattle.std.specs.List.{slice_split, position, position_or_len}
use Rattle.memchr.specs.Find.{IsFirstByte, is_byte}

never : (test : Bool) → (test ≡ true → ⊥) → test ≡ false
never true fails = absurd (fails refl)
never false fails = refl

pub inside : (mark : ℕ) (xs : List ℕ) (i : ℕ) → IsFirstByte (is_byte mark) xs (Some i) → i < length xs
inside mark xs i found = found.0.high

place : (mark : ℕ) (xs : List ℕ) (i : ℕ) → IsFirstByte (is_byte mark) xs (Some i) → position_or_len (λ b. nat_eq b mark) xs ≡ i
place mark xs i found =
    let inside = found.0.high in
    position_or_len_is (λ b. nat_eq b mark) xs i 0 (omega (arith, inside)) (λ k lt. never _ (found.0.before k (omega arith) lt)) (λ _. found.1)

-- where the first mark stands, the text is cut
cut_first : (mark : ℕ) (xs : List ℕ) (i : ℕ) → i < length xs → position_or_len (λ b. nat_eq b mark) xs ≡ i
    → slice_split (λ b. nat_eq b mark) xs ≡ take i xs ∷ slice_split (λ b. nat_eq b mark) (take (length xs - (i + 1)) (drop (i + 1) xs))
cut_first mark xs i inside at =
    let rest : take (length xs - (i + 1)) (drop (i + 1) xs) ≡ drop (i + 1) xs = take_all (length xs - (i + 1)) (drop (i + 1) xs) (omega (arith, length-drop (i + 1) xs)) in
    slice_split_first (λ b. nat_eq b mark) xs 0 (subst (λ n. n < length xs) (sym at) inside)
    ∙ ap (λ n. take n xs ∷ slice_split (λ b. nat_eq b mark) (drop (n + 1) xs)) at ∙ ap (λ rest. take i xs ∷ slice_split (λ b. nat_eq b mark) rest) (sym rest)

-- at a mark the text is cut
pub cut_at : (mark : ℕ) (xs : List ℕ) (i : ℕ) → IsFirstByte (is_byte mark) xs (Some i)
    → slice_split (λ b. nat_eq b mark) xs ≡ take i xs ∷ slice_split (λ b. nat_eq b mark) (take (length xs - (i + 1)) (drop (i + 1) xs))
cut_at mark xs i found = cut_first mark xs i found.0.high (place mark xs i found)

-- where there is none, it is whole
pub cut_none : (mark : ℕ) (xs : List ℕ) → IsFirstByte (is_byte mark) xs None → slice_split (λ b. nat_eq b mark) xs ≡ xs ∷ []
cut_none mark xs nowhere = slice_split_none (λ b. nat_eq b mark) xs (All-from_get_or (λ x. nat_eq x mark ≡ false) xs 0 (λ i lt. never _ (nowhere i (omega arith) lt)))

-- the same of a mark that was found by its place among the first few
pub within_few : (mark : ℕ) (xs : List ℕ) (few i : ℕ) → position (λ b. nat_eq b mark) (take few xs) ≡ Some i → i < length xs
within_few mark xs few i found =
    let at = position-Some (λ b. nat_eq b mark) (take few xs) i 0 found in
    let short = length-take few xs in
    omega (arith, at.0, short)

pub cut_near : (mark : ℕ) (xs : List ℕ) (few i : ℕ) → position (λ b. nat_eq b mark) (take few xs) ≡ Some i
    → slice_split (λ b. nat_eq b mark) xs ≡ take i xs ∷ slice_split (λ b. nat_eq b mark) (take (length xs - (i + 1)) (drop (i + 1) xs))
cut_near mark xs few i found =
    let at = position-Some (λ b. nat_eq b mark) (take few xs) i 0 found in
    let short = length-take few xs in
    let near : i < few = omega (arith, at.0, short) in
    let inside : i < length xs = omega (arith, at.0, short) in
    let same : (k : ℕ) → k < few → nat_eq (get_or xs k 0) mark ≡ nat_eq (get_or (take few xs) k 0) mark = λ k lt. ap (λ b. nat_eq b mark) (sym (get_or-take few xs k 0 lt)) in
    cut_first mark xs i inside (position_or_len_is (λ b. nat_eq b mark) xs i 0 (omega (arith, inside)) (λ k lt. same k (omega (arith, lt, near)) ∙ at.2 k lt) (λ _. same i near ∙ at.1))
