-- What each byte is worth as a digit.
use Rattle.std.proofs.Common.{◌≡◌, ℕ, zero, suc, ◌+◌, ◌<◌, Bool, true, false, ◌&&◌, nat_eq, List, [], ◌∷◌, length, slice_index_or, Option, Some, None, refl, ap, subst, arith}
use Rattle.std.proofs.lemmas.Bool.Decides.{nat_tests}
use Rattle.hex.specs.Hex.{hex_digit_value}
use Rattle.pm_script.specs.HexDigits.{digit_worth}
use Rattle.pm_script.specs.declared.hexadecimal.TheConstants.{WORTH}

abbrev are_same : Option ℕ → Option ℕ → Bool
are_same None None = true
are_same (Some a) (Some b) = nat_eq a b
are_same a b = false

same : (a b : Option ℕ) → are_same a b ≡ true → a ≡ b
same None None is = refl
same (Some a) (Some b) is = ap Some (grind (arith, nat_tests, is))
same None (Some b) is = absurd (let bad : false ≡ true = is in cc bad)
same (Some a) None is = absurd (let bad : false ≡ true = is in cc bad)

-- each byte from this one on is worth what stands at its place
abbrev is_table : ℕ → List ℕ → Bool
is_table byte [] = true
is_table byte (worth ∷ worths) = are_same (hex_digit_value byte) (digit_worth worth) && is_table (byte + 1) worths

both : (a b : Bool) → (a && b) ≡ true → (a ≡ true) × (b ≡ true)
both true true is = (refl, refl)
both true false is = absurd (let bad : false ≡ true = is in cc bad)
both false b is = absurd (let bad : false ≡ true = is in cc bad)

at : (worths : List ℕ) (byte i : ℕ) → is_table byte worths ≡ true → i < length worths → hex_digit_value (byte + i) ≡ digit_worth (slice_index_or worths i 0)
at [] byte i is within = absurd (omega (arith, within))
at (worth ∷ worths) byte zero is within =
    let here : byte ≡ byte + 0 = omega arith in
    let parts = both (are_same (hex_digit_value byte) (digit_worth worth)) (is_table (byte + 1) worths) is in
    subst (λ (b : ℕ). hex_digit_value b ≡ digit_worth worth) here (same (hex_digit_value byte) (digit_worth worth) parts.0)
at (worth ∷ worths) byte (suc i) is within =
    let here : byte + 1 + i ≡ byte + suc i = omega arith in
    let parts = both (are_same (hex_digit_value byte) (digit_worth worth)) (is_table (byte + 1) worths) is in
    subst (λ (b : ℕ). hex_digit_value b ≡ digit_worth (slice_index_or worths i 0)) here (at worths (byte + 1) i parts.1 (omega (arith, within)))

-- what the table has of a byte
pub worth_of : (byte : ℕ) → byte < 256 → hex_digit_value byte ≡ digit_worth (slice_index_or WORTH byte 0)
worth_of byte fits =
    let here : 0 + byte ≡ byte = omega arith in
    subst (λ (b : ℕ). hex_digit_value b ≡ digit_worth (slice_index_or WORTH byte 0)) here (at WORTH 0 byte refl fits)
