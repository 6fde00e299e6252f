-- What std reads of a numeral, with the greatest number of 64 bits in place of what is more.
use Rattle.std.proofs.Common.{◌≡◌, ℕ, ◌<◌, ◌≤◌, ◌^◌, true, ◌&&◌, List, length, nat_lt, Ok, Err, ◌∙◌, arith, rules}
use Rattle.std.proofs.lemmas.Bool.{ltb-true}
use Rattle.std.proofs.lemmas.Str.Parse.{IsDigitsTest, IsNumeralModel, numerals_by_value, parse_digits}
use Rattle.std.specs.List.{list_all}
use Rattle.std.specs.Str.Parse.{digits_value, ParsesUnsigned}
use Rattle.pm_types.specs.Counts.{capped}
use Rattle.pm_script.specs.Values.{is_digit, is_numeral}
use Rattle.pm_script.proofs.Both.{first_true, second_true}

AreDigits : List ℕ → Type 0
AreDigits word = list_all is_digit word ≡ true

digits_test : IsDigitsTest AreDigits
unfolding AreDigits
digits_test = search rules

own : IsNumeralModel AreDigits (digits_value 10)
own = numerals_by_value AreDigits digits_test

within : (n : ℕ) → n < 2 ^ 64 → n ≡ capped n
within n lt = omega (arith, lt)

beyond : (n : ℕ) → (n < 2 ^ 64 → ⊥) → 18446744073709551615 ≡ capped n
beyond n above = let ge : 2 ^ 64 ≤ n = omega (arith, above) in omega (arith, ge)

digits_of : (word : List ℕ) → is_numeral word ≡ true → AreDigits word
unfolding AreDigits
digits_of word is = first_true (list_all is_digit word) (nat_lt 0 (length word)) (first_true (list_all is_digit word && nat_lt 0 (length word)) _ is)

some_of : (word : List ℕ) → is_numeral word ≡ true → nat_lt 0 (length word) ≡ true
some_of word is = second_true (list_all is_digit word) (nat_lt 0 (length word)) (first_true (list_all is_digit word && nat_lt 0 (length word)) _ is)

pub parsed : (E : Type 0) (word : List ℕ) (x : ℕ) → is_numeral word ≡ true → ParsesUnsigned {E = E} 64 10 word (Ok x) → x ≡ capped (digits_value 10 word)
parsed E word x is parses =
    let read = parse_digits own {E = E} 64 word (Ok x) parses (digits_of word is) in
    read.1 ∙ within (digits_value 10 word) read.0.1

pub unparsed : (E : Type 0) (word : List ℕ) (e : E) → is_numeral word ≡ true → ParsesUnsigned {E = E} 64 10 word (Err e) → 18446744073709551615 ≡ capped (digits_value 10 word)
unparsed E word e is parses =
    let unread = parse_digits own {E = E} 64 word (Err e) parses (digits_of word is) in
    beyond (digits_value 10 word) (λ lt. unread (ltb-true 0 (length word) (some_of word is), lt))
