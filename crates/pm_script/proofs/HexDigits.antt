-- What is decoded is what pairs of digits spell.
use Rattle.std.proofs.Common.{◌≡◌, inl, inr, ℕ, ◌+◌, ◌*◌, ◌-◌, ◌≤◌, Bool, true, false, cond, ◌&&◌, List, [], ◌∷◌, length, Option, Some, None, Result, Ok, Err, refl, sym, ap, subst, ◌∙◌, arith, nat_le}
use Rattle.std.proofs.lemmas.Bool.Decides.{nat_tests}
use Rattle.hex.specs.Hex.{◌>>=◌, decode_of, decode_pairs, pair_value, value_at, digit_or_error, hex_digit_value, encode_lower, IsBytes}
use Rattle.hex.specs.declared.error.FromHexError.{FromHexError}
use Rattle.hex.proofs.Pairs.{cons_byte, decode_pairs-ok_pair}
use Rattle.hex.proofs.HexLemmas.{decode_of-even, decode_of-ok, decode_of-encode_lower}
use Rattle.pm_model.specs.Text.{pairs}
use Rattle.pm_script.specs.HexDigits.{IsDigitOf, ArePairsOf}
use Rattle.pm_script.specs.Words.{IsHexWord}

-- the value of a digit is the one that it has
valued : (value digit : ℕ) → IsDigitOf value digit → hex_digit_value digit ≡ Some value
valued value digit (inl small) = let le = small.0 in let is = small.1 in grind (arith, nat_tests, le, is)
valued value digit (inr (from, to, inl lower)) = grind (arith, nat_tests, from, to, lower)
valued value digit (inr (from, to, inr upper)) = grind (arith, nat_tests, from, to, upper)

digit_by : (c v : ℕ) (a b d : Bool) → (nat_le 65 c && nat_le c 70) ≡ a → (nat_le 97 c && nat_le c 102) ≡ b → (nat_le 48 c && nat_le c 57) ≡ d
    → cond a (Some (c - 55)) (cond b (Some (c - 87)) (cond d (Some (c - 48)) None)) ≡ Some v → IsDigitOf v c
digit_by c v true b d ha hb hd is =
    let same : c - 55 ≡ v = cc is in
    let low : 65 ≤ c = grind (arith, nat_tests, ha) in
    let high : c ≤ 70 = grind (arith, nat_tests, ha) in
    inr (omega arith, omega arith, inr (omega arith))
digit_by c v false true d ha hb hd is =
    let same : c - 87 ≡ v = cc is in
    let low : 97 ≤ c = grind (arith, nat_tests, hb) in
    let high : c ≤ 102 = grind (arith, nat_tests, hb) in
    inr (omega arith, omega arith, inl (omega arith))
digit_by c v false false true ha hb hd is =
    let same : c - 48 ≡ v = cc is in
    let low : 48 ≤ c = grind (arith, nat_tests, hd) in
    let high : c ≤ 57 = grind (arith, nat_tests, hd) in
    inl (omega arith, omega arith)
digit_by c v false false false ha hb hd is = absurd (let bad : None ≡ Some v = is in cc bad)

digit_of : (c v : ℕ) → hex_digit_value c ≡ Some v → IsDigitOf v c
digit_of c v is = digit_by c v _ _ _ refl refl refl is

-- a step that did not fail
bound_ok : {A B : Type 0} (m : Result A FromHexError) (f : A → Result B FromHexError) (y : B) → (m >>= f) ≡ Ok y → (x : A) × (m ≡ Ok x) × (f x ≡ Ok y)
bound_ok (Ok x) f y is = (x, refl, is)
bound_ok (Err e) f y is = absurd cc

digit_read : (c i v : ℕ) (read : Option ℕ) → hex_digit_value c ≡ read → digit_or_error c i read ≡ Ok v → IsDigitOf v c
digit_read c i v (Some u) is ok = let same : u ≡ v = cc ok in digit_of c v (is ∙ ap Some same)
digit_read c i v None is ok = absurd cc

-- what was decoded is spelled by pairs of digits
decoded_pairs : (i : ℕ) (word bytes : List ℕ) → decode_pairs i word ≡ Ok bytes → ArePairsOf bytes word
unfolding decode_pairs
decoded_pairs i [] bytes is = let none : [] ≡ bytes = cc is in subst (λ (bs : List ℕ). ArePairsOf bs []) none tt
decoded_pairs i (digit ∷ []) bytes is = absurd cc
decoded_pairs i (high ∷ low ∷ word) bytes is =
    let whole = bound_ok (pair_value high low i) _ bytes is in
    let first = bound_ok (value_at high i) _ whole.0 whole.1 in
    let second = bound_ok (value_at low (i + 1)) _ whole.0 first.2 in
    let rest = bound_ok (decode_pairs (i + 2) word) _ bytes whole.2 in
    let all : whole.0 ∷ rest.0 ≡ bytes = cc (rest.2) in
    let sum : first.0 * 16 + second.0 ≡ whole.0 = cc (second.2) in
    subst (λ (bs : List ℕ). ArePairsOf bs (high ∷ low ∷ word)) all (
      record {
        sixteens = first.0;
        ones = second.0;
        high = digit_read high i first.0 (hex_digit_value high) refl first.1;
        low = digit_read low (i + 1) second.0 (hex_digit_value low) refl second.1;
        sum = sym sum;
      },
      decoded_pairs (i + 2) word rest.0 rest.1,
    )

pub pair_made : (high low i h l : ℕ) → hex_digit_value high ≡ Some h → hex_digit_value low ≡ Some l → pair_value high low i ≡ Ok (h * 16 + l)
pair_made high low i h l ha hb = rw (ha, hb) refl

-- what pairs of digits spell is decoded
pairs_decode : (i : ℕ) (word bytes : List ℕ) → ArePairsOf bytes word → decode_pairs i word ≡ Ok bytes
unfolding decode_pairs
pairs_decode i [] [] are = refl
pairs_decode i (high ∷ low ∷ word) (byte ∷ bytes) are =
    let p = are.0 in
    decode_pairs-ok_pair i high low (p.sixteens * 16 + p.ones) word (pair_made high low i p.sixteens p.ones (valued p.sixteens high p.high) (valued p.ones low p.low))
    ∙ ap (cons_byte (p.sixteens * 16 + p.ones)) (pairs_decode (i + 2) word bytes are.1) ∙ ap (λ (b : ℕ). Ok (b ∷ bytes)) (sym p.sum)
pairs_decode i [] (byte ∷ bytes) are = absurd are
pairs_decode i (digit ∷ []) [] are = absurd are
pairs_decode i (digit ∷ []) (byte ∷ bytes) are = absurd are
pairs_decode i (high ∷ low ∷ word) [] are = absurd are

pairs_even : (word bytes : List ℕ) → ArePairsOf bytes word → length word ≡ 2 * length bytes
pairs_even [] [] are = refl
pairs_even (high ∷ low ∷ word) (byte ∷ bytes) are = let rest = pairs_even word bytes are.1 in omega arith
pairs_even [] (byte ∷ bytes) are = absurd are
pairs_even (digit ∷ []) [] are = absurd are
pairs_even (digit ∷ []) (byte ∷ bytes) are = absurd are
pairs_even (high ∷ low ∷ word) [] are = absurd are

-- what the decoder gives is what the digits spell
pub spelled_by_digits : (word bytes : List ℕ) → decode_of word ≡ Ok bytes → ArePairsOf bytes word
spelled_by_digits word bytes is = decoded_pairs 0 word bytes (sym (decode_of-even word (decode_of-ok word bytes is).0) ∙ is)

-- and the other way round
pub decoded_by_digits : (word bytes : List ℕ) → ArePairsOf bytes word → decode_of word ≡ Ok bytes
decoded_by_digits word bytes are = let twice = pairs_even word bytes are in decode_of-even word (omega arith) ∙ pairs_decode 0 word bytes are

-- what is printed of bytes is a word that spells them
pub printed_again : (bytes : List ℕ) → IsBytes bytes → IsHexWord (pairs bytes) bytes
printed_again [] are = refl
printed_again (byte ∷ bytes) are = spelled_by_digits (encode_lower (byte ∷ bytes)) (byte ∷ bytes) (decode_of-encode_lower (byte ∷ bytes) are)
