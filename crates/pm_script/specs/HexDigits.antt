-- Bytes as pairs of hexadecimal digits.
use Rattle.std.specs.Prelude.{◌≡◌, ◌⊎◌, ℕ, ◌+◌, ◌*◌, ◌≤◌, nat_lt, if◌then◌else◌, List, [], ◌∷◌, Option, Some, None}

-- the digit of a value from 0 to 15: 0 to 9, and then a to f or A to F
abbrev pub IsDigitOf : ℕ → ℕ → Type 0
IsDigitOf value digit = ((value ≤ 9) × (digit ≡ value + 48)) ⊎ ((10 ≤ value) × (value ≤ 15) × ((digit ≡ value + 87) ⊎ (digit ≡ value + 55)))

-- a byte is 16 times the value of its first digit, and the value of its second
pub record IsPairOf (byte first second : ℕ) : Type 0 where
  pub sixteens : ℕ
  pub ones : ℕ
  pub high : IsDigitOf sixteens first
  pub low : IsDigitOf ones second
  pub sum : byte ≡ sixteens * 16 + ones

-- the word has two digits for each of these bytes
abbrev pub ArePairsOf : List ℕ → List ℕ → Type 0
ArePairsOf [] [] = Unit {0}
ArePairsOf (byte ∷ bytes) (high ∷ low ∷ word) = IsPairOf byte high low × ArePairsOf bytes word
ArePairsOf bytes word = ⊥

-- the value of a digit that is worth so much; over 15 it is none
abbrev pub digit_worth : ℕ → Option ℕ
digit_worth worth = if nat_lt worth 16 then Some worth else None
