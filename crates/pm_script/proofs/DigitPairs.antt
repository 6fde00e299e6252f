-- Pairs of digits by what each is worth.
use Rattle.std.proofs.Common.{◌≡◌, ◌≢◌, inl, inr, ◌⊎◌, ℕ, ◌+◌, ◌*◌, ◌%◌, ◌≤◌, ◌<◌, List, [], ◌∷◌, length, take, drop, slice_index, Some, None, Result, Ok, Err, MatchResult, refl, ap, ◌∙◌, arith}
use Rattle.std.proofs.lemmas.Bool.Decides.{nat_tests}
use Rattle.hex.specs.Hex.{decode_of, decode_pairs, hex_digit_value, pair_value}
use Rattle.hex.specs.declared.error.FromHexError.{FromHexError}
use Rattle.hex.specs.declared.error.FromHexError.TheVariants.{InvalidHexCharacter, OddLength}
use Rattle.hex.proofs.Pairs.{decode_err, prepend}
use Rattle.pm_script.specs.HexDigits.{digit_worth}
use Rattle.pm_script.specs.Values.{some_bytes}
use Rattle.pm_script.proofs.HexDigits.{pair_made}

none_worth : (worth : ℕ) → 15 < worth → digit_worth worth ≡ None
none_worth worth much = grind (arith, nat_tests, much)

some_worth : (worth : ℕ) → worth ≤ 15 → digit_worth worth ≡ Some worth
some_worth worth little = grind (arith, nat_tests, little)

-- two digits that are worth so much
pub pair_worth : (high low i h l : ℕ) → hex_digit_value high ≡ digit_worth h → hex_digit_value low ≡ digit_worth l → h ≤ 15 → l ≤ 15 → pair_value high low i ≡ Ok (h * 16 + l)
pair_worth high low i h l first second few less = pair_made high low i h l (first ∙ some_worth h few) (second ∙ some_worth l less)

bad_high : (high low i : ℕ) → hex_digit_value high ≡ None → pair_value high low i ≡ Err (InvalidHexCharacter high i)
bad_high high low i none = rw none refl

bad_low : (high low i h : ℕ) → hex_digit_value high ≡ Some h → hex_digit_value low ≡ None → pair_value high low i ≡ Err (InvalidHexCharacter low (i + 1))
bad_low high low i h some none = rw (some, none) refl

-- a byte of the two is no digit
bad_pair : (high low i h l : ℕ) → hex_digit_value high ≡ digit_worth h → hex_digit_value low ≡ digit_worth l → (15 < h) ⊎ ((h ≤ 15) × (15 < l)) → (e : FromHexError) × (pair_value high low i ≡ Err e)
bad_pair high low i h l first second (inl much) = (InvalidHexCharacter high i, bad_high high low i (first ∙ none_worth h much))
bad_pair high low i h l first second (inr few) = (InvalidHexCharacter low (i + 1), bad_low high low i h (first ∙ some_worth h few.0) (second ∙ none_worth l few.1))

-- what was decoded before it is of no use then
pub refused : (word out : List ℕ) (i h l : ℕ) → 2 * i + 1 < length word
    → hex_digit_value (slice_index word (2 * i)) ≡ digit_worth h → hex_digit_value (slice_index word (2 * i + 1)) ≡ digit_worth l
    → (15 < h) ⊎ ((h ≤ 15) × (15 < l))
    → decode_pairs 0 word ≡ prepend (take i out) (decode_pairs (2 * i) (drop (2 * i) word))
    → (e : FromHexError) × (decode_pairs 0 word ≡ Err e)
refused word out i h l within first second bad goes =
    let found = bad_pair (slice_index word (2 * i)) (slice_index word (2 * i + 1)) (2 * i) h l first second bad in
    (found.0, decode_err word out i found.0 within found.1 goes)

pub match_err : (P : List ℕ → Type 0) (Q : FromHexError → Type 0) (read : Result (List ℕ) FromHexError) (e : FromHexError) → read ≡ Err e → Q e → MatchResult read P Q
match_err P Q read e is q = rw is q

pub match_ok : (P : List ℕ → Type 0) (Q : FromHexError → Type 0) (read : Result (List ℕ) FromHexError) (bytes : List ℕ) → read ≡ Ok bytes → P bytes → MatchResult read P Q
match_ok P Q read bytes is p = rw is p

-- nothing, or a byte without another, spells no byte
nothing_spells : (word : List ℕ) → length word ≡ 0 → some_bytes (decode_of word) ≡ None
unfolding decode_pairs
nothing_spells [] is = refl
nothing_spells (byte ∷ word) is = absurd (omega (arith, is))

odd_fails : (word : List ℕ) → length word % 2 ≡ 1 → decode_of word ≡ Err OddLength
odd_fails word odd = grind (arith, nat_tests, odd)

pub no_pairs : (word : List ℕ) → (length word ≡ 0) ⊎ (length word % 2 ≢ 0) → some_bytes (decode_of word) ≡ None
no_pairs word (inl none) = nothing_spells word none
no_pairs word (inr odd) = ap some_bytes (odd_fails word (omega (arith, odd)))
