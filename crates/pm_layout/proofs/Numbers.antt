-- Numbers of two, four and eight bytes, the highest first.
use Rattle.std.proofs.Common.{◌≡◌, ℕ, ◌+◌, ◌<◌, ◌≤◌, List, length, get_or, take, drop, sym, ◌∙◌, arith, inl, inr}
use Rattle.std.specs.Int.{w16, w32, w64, from_be_bytes}
use Rattle.std.proofs.lemmas.Bool.{cases_lt}
use Rattle.std.proofs.lemmas.List.{length-take, get_or-drop, get_or-take, get_or_past}
use Rattle.std.proofs.lemmas.Nat.{be_bytes_2, be_bytes_4, be_bytes_8}
use Rattle.byteorder.specs.Endian.{big_bytes, big_number}
use Rattle.byteorder.specs.Numbers.{big_from-take}

-- each number of the list is one of a byte
abbrev pub IsBytes : List ℕ → Type 0
IsBytes bytes = (i : ℕ) → get_or bytes i 0 < 256

pub IsBytes-drop : (n : ℕ) (bytes : List ℕ) → IsBytes bytes → IsBytes (drop n bytes)
IsBytes-drop n bytes h i = rw get_or-drop (h (n + i))

pub IsBytes-take : (n : ℕ) (bytes : List ℕ) → IsBytes bytes → IsBytes (take n bytes)
IsBytes-take n bytes h i =
    elim (cases_lt i n) [
      | inl lt ↦ rw (get_or-take n bytes i 0 lt) (h i)
      | inr le ↦ rw (get_or_past (take n bytes) i 0 (omega (arith, length-take n bytes))) (omega arith)
    ]

-- the bytes of a number that was read are the bytes that it was read from
pub record IsWidth (n : ℕ) : Type 0 where
  pub back : (xs : List ℕ) → n ≤ length xs → IsBytes xs → big_bytes n (big_number n xs) ≡ take n xs

same_2 : (xs : List ℕ) → big_number 2 xs ≡ from_be_bytes w16 xs
same_2 xs = omega arith

same_4 : (xs : List ℕ) → big_number 4 xs ≡ from_be_bytes w32 xs
same_4 xs = omega arith

same_8 : (xs : List ℕ) → big_number 8 xs ≡ from_be_bytes w64 xs
same_8 xs = omega arith

pub wide_2 : IsWidth 2
wide_2 = record { back = λ xs long fits. be_bytes_2 (take 2 xs) (big_number 2 xs) (omega (arith, length-take 2 xs)) (IsBytes-take 2 xs fits) (sym (big_from-take 0 2 2 xs (omega arith)) ∙ same_2 (take 2 xs)) }

pub wide_4 : IsWidth 4
wide_4 = record { back = λ xs long fits. be_bytes_4 (take 4 xs) (big_number 4 xs) (omega (arith, length-take 4 xs)) (IsBytes-take 4 xs fits) (sym (big_from-take 0 4 4 xs (omega arith)) ∙ same_4 (take 4 xs)) }

pub wide_8 : IsWidth 8
wide_8 = record { back = λ xs long fits. be_bytes_8 (take 8 xs) (big_number 8 xs) (omega (arith, length-take 8 xs)) (IsBytes-take 8 xs fits) (sym (big_from-take 0 8 8 xs (omega arith)) ∙ same_8 (take 8 xs)) }
