-- Numerals: digits with no leading zero.
use Rattle.std.proofs.Common.{◌≡◌, ℕ, zero, suc, ◌<◌, ◌≤◌, ◌^◌, Bool, true, false, ◌&&◌, ◌||◌, not, List, length, nat_lt, Some, None, refl, take, get_or, ◌+◌, ◌*◌, sym, ap, subst, ◌∙◌, arith, rules, if◌then◌else◌, slice_index, decimal, ◌==◌, lit<}
use borrow.Author.Tests.{ltb-true}
use Rattle.std.proofs.lemmas.Bool.{eqb-true, lt-ltb}
use Rattle.std.proofs.lemmas.Bool.Decides.{nat_tests}
use Rattle.std.proofs.lemmas.Str.{IsUtf8-from_ascii, digit_value_digit}
use Rattle.std.proofs.lemmas.Int.Digits.{digits_value_more}
use Rattle.std.proofs.lemmas.List.Folds.{list_all_more}
use Rattle.std.proofs.lemmas.Str.Parse.{IsDigitsTest, IsNumeralModel, numerals_by_value, digits_value_short}
use Rattle.std.proofs.lemmas.Fmt.{IsAscii-from_digits, digits_value-decimal, decimal-digits_value, digits_decimal, decimal_nonempty, first_decimal, decimal_digit, length-decimal-le}
use Rattle.std.specs.List.{list_all}
use Rattle.std.specs.Char.{digit_value}
use Rattle.std.specs.Str.{IsUtf8}
use Rattle.std.specs.Str.Parse.{digits_value}
use Rattle.pm_script.specs.Values.{is_digit, is_numeral, number_of}
use Rattle.pm_script.proofs.Both.{both_true}

-- a word of digits alone
AreDigits : List ℕ → Type 0
AreDigits word = list_all is_digit word ≡ true

digits_test : IsDigitsTest AreDigits
unfolding AreDigits
digits_test = search rules

own : IsNumeralModel AreDigits (digits_value 10)
own = numerals_by_value AreDigits digits_test

first_test : (a b c : Bool) → (a && b && c) ≡ true → a ≡ true
first_test true b c is = refl
first_test false b c is = is

pub numeral_utf8 : (word : List ℕ) → is_numeral word ≡ true → IsUtf8 word
unfolding AreDigits
numeral_utf8 word is = IsUtf8-from_ascii word (IsAscii-from_digits word (own.to word (first_test _ _ _ is)))

second_test : (a b c : Bool) → (a && b && c) ≡ true → b ≡ true
second_test true true c is = refl
second_test true false c is = is
second_test false b c is = cc

third_test : (a b c : Bool) → (a && b && c) ≡ true → c ≡ true
third_test true true c is = is
third_test true false c is = cc
third_test false b c is = cc

chosen : (a b : Bool) (v : ℕ) → a ≡ true → (if a && b then Some v else None) ≡ (if b then Some v else None)
chosen true b v is = refl
chosen false b v is = cc

below : (v : ℕ) → v < 2 ^ 32 → (if nat_lt v (2 ^ 32) then Some v else None) ≡ Some v
below v lt = grind (arith, nat_tests)

-- ten digits write less than 10 ^ 10
pub digits_below : (word : List ℕ) → list_all is_digit word ≡ true → length word ≤ 10 → digits_value 10 word < 10 ^ 10
unfolding AreDigits
digits_below word all short = digits_value_short own word 10 all short

is_in : (byte worth : ℕ) → worth ≤ 9 → byte ≡ 48 + worth → is_digit byte ≡ true
is_in byte worth low is = grind (arith, nat_tests)

-- one digit more
pub digits_go_on : (word : List ℕ) (i byte worth : ℕ) → i < length word → byte ≡ get_or word i 0 → worth ≤ 9 → byte ≡ 48 + worth → list_all is_digit (take i word) ≡ true → list_all is_digit (take (i + 1) word) ≡ true
digits_go_on word i byte worth lt at low is all =
    list_all_more is_digit word i 0 lt
    ∙ both_true (list_all is_digit (take i word)) (is_digit (get_or word i 0)) all (subst (λ b. is_digit b ≡ true) at (is_in byte worth low is))

pub value_goes_on : (word : List ℕ) (i byte worth value : ℕ) → i < length word → byte ≡ get_or word i 0 → worth ≤ 9 → byte ≡ 48 + worth → value ≡ digits_value 10 (take i word) → value * 10 + worth ≡ digits_value 10 (take (i + 1) word)
value_goes_on word i byte worth value lt at low is sum =
    let digit : digit_value byte + 48 ≡ byte = digit_value_digit byte (omega (arith, is), omega (arith, is, low)) in
    let next : digits_value 10 (take (i + 1) word) ≡ digits_value 10 (take i word) * 10 + digit_value byte = digits_value_more 10 word i lt ∙ ap (λ b. digits_value 10 (take i word) * 10 + digit_value b) (sym at) in
    omega (arith, is, digit, next, sum)

no_zero_first : (a b c d : Bool) → (a && b && (not c || d)) ≡ true → c ≡ true → d ≡ true
no_zero_first true true c true is first = refl
no_zero_first true true true false is first = is
no_zero_first true true false false is first = first
no_zero_first true false c d is first = cc
no_zero_first false b c d is first = cc

eqb_of : (m n : ℕ) → m ≡ n → (m == n) ≡ true
eqb_of m n is = grind (arith, nat_tests)

-- a numeral is what its value is written as
pub numeral_spelled : (word : List ℕ) → is_numeral word ≡ true → digits_value 10 word < 2 ^ 32 → decimal (digits_value 10 word) ≡ word
unfolding AreDigits
numeral_spelled word is small =
    decimal-digits_value own word (first_test _ _ _ is) (ltb-true _ _ (second_test _ _ _ is))
    (λ first. eqb-true _ _ (no_zero_first (list_all is_digit word) (nat_lt 0 (length word)) (slice_index word 0 == 48) (length word == 1) is (eqb_of (slice_index word 0) 48 first)))
    (omega arith)

-- three tests pass, the third only where it has to
three : (a b c d : Bool) → a ≡ true → b ≡ true → (c ≡ true → d ≡ true) → (a && b && (not c || d)) ≡ true
three a b true d one two more = λ i. one i && two i && more refl i
three a b false d one two more = λ i. one i && two i && true

one_digit : (n : ℕ) → n < 2 ^ 64 → slice_index (decimal n) 0 ≡ 48 → length (decimal n) ≡ 1
one_digit zero small first = ap length (decimal_digit 0 (lit< tt))
one_digit (suc n) small first = absurd (omega (arith, first_decimal (suc n) (omega arith) small, first))

-- a number below 2 ^ 32 is read of what it is written as
pub number_of_decimal : (n : ℕ) → n < 2 ^ 32 → number_of (decimal n) ≡ Some n
unfolding AreDigits
number_of_decimal n small =
    let wide : n < 2 ^ 64 = omega arith in
    let word = decimal n in
    let numeral : is_numeral word ≡ true =
    three (list_all is_digit word) (nat_lt 0 (length word)) (slice_index word 0 == 48) (length word == 1) (digits_decimal own n wide) (lt-ltb _ _ (decimal_nonempty n wide))
    (λ first. eqb_of _ _ (one_digit n wide (eqb-true _ _ first))) in
    let value : digits_value 10 word ≡ n = digits_value-decimal own n wide in
    chosen (is_numeral word) (nat_lt (digits_value 10 word) (2 ^ 32)) (digits_value 10 word) numeral
    ∙ below (digits_value 10 word) (subst (λ m. m < 2 ^ 32) (sym value) small) ∙ ap Some value

-- a number is written in digits
pub decimal_digits : (n : ℕ) → n < 2 ^ 32 → list_all is_digit (decimal n) ≡ true
unfolding AreDigits
decimal_digits n small = digits_decimal own n (omega arith)

none_unless : (a b : Bool) (v : ℕ) → (a ≡ true → b ≡ true → ⊥) → None ≡ (if a && b then Some v else None)
none_unless true true v not = absurd (not refl refl)
none_unless true false v not = refl
none_unless false b v not = refl

-- a number has ten digits at most
pub too_long : (word : List ℕ) → 10 < length word → None ≡ number_of word
too_long word long =
    none_unless (is_numeral word) (nat_lt (digits_value 10 word) (2 ^ 32)) (digits_value 10 word)
    (λ is small.
    let value = ltb-true _ _ small in
    let short = subst (λ (ds : List ℕ). length ds ≤ 10) (numeral_spelled word is value) (length-decimal-le 10 (digits_value 10 word) (lit< tt) (omega (arith, value)) (omega (arith, value))) in
    omega (arith, short, long))
