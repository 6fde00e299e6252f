-- A stretch of two lists, one behind the other.
use Rattle.std.proofs.Common.{◌≡◌, ℕ, zero, suc, ◌-◌, ◌<◌, ◌≤◌, min, Some, None, List, [], ◌∷◌, ◌++◌, length, map, get_or, take, drop, refl, sym, ap, ◌∙◌, arith, Result, Ok, Err}
use Rattle.std.specs.Prelude.{OnErr}
use Rattle.std.specs.List.{slice_get, slice_range}
use Rattle.std.proofs.lemmas.List.{take-map, drop-map, length-drop, take_min, drop_min, drop_all, nil_from_length}

module _ {A : Type 0} where
  take_of_two : (n : ℕ) (xs ys : List A) → take n (xs ++ ys) ≡ take n xs ++ take (n - length xs) ys
  take_of_two zero xs ys = let none : zero - length xs ≡ 0 = omega arith in ap (λ (k : ℕ). take k ys) (sym none)
  take_of_two (suc n) [] ys = let all : suc n - 0 ≡ suc n = omega arith in ap (λ (k : ℕ). take k ys) (sym all)
  take_of_two (suc n) (x ∷ xs) ys =
      let less : suc n - suc (length xs) ≡ n - length xs = omega arith in
      ap (λ (rest : List A). x ∷ rest) (take_of_two n xs ys) ∙ ap (λ (k : ℕ). x ∷ (take n xs ++ take k ys)) (sym less)

  drop_of_two : (n : ℕ) (xs ys : List A) → drop n (xs ++ ys) ≡ drop n xs ++ drop (n - length xs) ys
  drop_of_two zero xs ys = let none : zero - length xs ≡ 0 = omega arith in ap (λ (k : ℕ). xs ++ drop k ys) (sym none)
  drop_of_two (suc n) [] ys = let all : suc n - 0 ≡ suc n = omega arith in ap (λ (k : ℕ). drop k ys) (sym all)
  drop_of_two (suc n) (x ∷ xs) ys =
      let less : suc n - suc (length xs) ≡ n - length xs = omega arith in
      drop_of_two n xs ys ∙ ap (λ (k : ℕ). drop n xs ++ drop k ys) (sym less)

  -- a stretch does not reach past the end
  within_end : (from to : ℕ) (xs : List A) → from ≤ to → slice_range xs (min from (length xs)) (min to (length xs)) ≡ take (to - from) (drop from xs)
  within_end from to xs le =
      let len = length-drop from xs in
      let least : min to (length xs) - min from (length xs) ≡ min (to - from) (length (drop from xs)) = omega (arith, len, le) in
      ap (λ (rest : List A). take (min to (length xs) - min from (length xs)) rest) (drop_min from xs)
      ∙ ap (λ (k : ℕ). take k (drop from xs)) least
      ∙ take_min (to - from) (drop from xs)

  -- a stretch of two lists
  pub slice_of_two : (from to : ℕ) (xs ys : List A) → from ≤ to
      → slice_range (xs ++ ys) from to ≡ slice_range xs (min from (length xs)) (min to (length xs)) ++ slice_range ys (from - length xs) (to - length xs)
  slice_of_two from to xs ys le =
      let len = length-drop from xs in
      let rest : to - from - length (drop from xs) ≡ (to - length xs) - (from - length xs) = omega (arith, len, le) in
      ap (take (to - from)) (drop_of_two from xs ys)
      ∙ take_of_two (to - from) (drop from xs) (drop (from - length xs) ys)
      ∙ ap (λ (front : List A). front ++ take (to - from - length (drop from xs)) (drop (from - length xs) ys)) (sym (within_end from to xs le))
      ∙ ap (λ (k : ℕ). slice_range xs (min from (length xs)) (min to (length xs)) ++ take k (drop (from - length xs) ys)) rest

module _ {A B : Type 0} where
  pub slice_map : (f : A → B) (from to : ℕ) (xs : List A) → slice_range (map f xs) from to ≡ map f (slice_range xs from to)
  slice_map f from to xs = ap (take (to - from)) (drop-map f from xs) ∙ take-map f (to - from) (drop from xs)

-- ---- one element of a list

module _ {A : Type 0} where
  -- what comes before it, itself, and what comes after it
  pub split_at : (xs : List A) (i : ℕ) (x : A) → slice_get xs i ≡ Some x → xs ≡ take i xs ++ x ∷ drop (suc i) xs
  split_at [] i x is = absurd cc
  split_at (y ∷ ys) zero x is = let same : y ≡ x = cc in ap (λ (y : A). y ∷ ys) same
  split_at (y ∷ ys) (suc i) x is = ap (λ (rest : List A). y ∷ rest) (split_at ys i x is)

  pub past_end : (xs : List A) (i : ℕ) → slice_get xs i ≡ None → length xs ≤ i
  past_end [] i is = omega arith
  past_end (y ∷ ys) zero is = absurd cc
  past_end (y ∷ ys) (suc i) is = let rest = past_end ys i is in omega (arith, rest)

  pub before_end : (xs : List A) (i : ℕ) (x : A) → slice_get xs i ≡ Some x → i < length xs
  before_end [] i x is = absurd cc
  before_end (y ∷ ys) zero x is = omega arith
  before_end (y ∷ ys) (suc i) x is = let rest = before_end ys i x is in omega (arith, rest)

  pub got : (xs : List A) (i : ℕ) (x : A) → i < length xs → x ≡ get_or xs i x → slice_get xs i ≡ Some x
  got [] i x low is = absurd (omega (arith, low))
  got (y ∷ ys) zero x low is = ap (λ (y : A). Some y) (sym is)
  got (y ∷ ys) (suc i) x low is = got ys i x (omega (arith, low)) is

  pub there : (xs : List A) (i : ℕ) → i < length xs → (x : A) × (slice_get xs i ≡ Some x)
  there [] i low = absurd (omega (arith, low))
  there (y ∷ ys) zero low = (y, refl)
  there (y ∷ ys) (suc i) low = there ys i (omega (arith, low))

  pub got_none : (xs : List A) (i : ℕ) → length xs ≤ i → slice_get xs i ≡ None
  got_none [] i past = refl
  got_none (y ∷ ys) zero past = absurd (omega (arith, past))
  got_none (y ∷ ys) (suc i) past = got_none ys i (omega (arith, past))

  -- the last one
  pub last_split : (xs : List A) (x : A) → slice_get xs (length xs - 1) ≡ Some x → xs ≡ take (length xs - 1) xs ++ x ∷ []
  last_split xs x is =
      let there = before_end xs (length xs - 1) x is in
      split_at xs (length xs - 1) x is ∙ ap (λ (rest : List A). take (length xs - 1) xs ++ x ∷ rest) (drop_all (suc (length xs - 1)) xs (omega (arith, there)))

  pub last_none : (xs : List A) → slice_get xs (length xs - 1) ≡ None → xs ≡ []
  last_none xs is = let none = past_end xs (length xs - 1) is in nil_from_length xs (omega (arith, none))

-- what holds holds of a fault
pub on_err : {T E : Type 0} (A : Type 0) (result : Result T E) → A → OnErr result A
on_err A (Ok x) is = tt
on_err A (Err fault) is = is
