-- Words that spell something have no space and no newline, and no line that says something begins with #.
use Rattle.std.proofs.Common.{◌≡◌, ℕ, ◌+◌, ◌<◌, ◌^◌, Bool, true, false, List, [], ◌∷◌, ◌++◌, refl, ap, sym, subst, ◌∙◌, arith, nat_lt, nat_eq, decimal, IsTrue}
use Rattle.std.proofs.lemmas.Bool.Decides.{nat_tests}
use Rattle.std.proofs.lemmas.Fmt.{decimal_digit}
use Rattle.std.proofs.lemmas.List.Elements.{All-from_recursion}
use Rattle.std.proofs.lemmas.List.Splits.{slice_split_none, slice_split_at}
use Rattle.std.specs.List.{AllByRecursion, list_all, join_with_byte, slice_split}
use Rattle.pm_types.specs.Names.{is_name_byte, IsName}
use Rattle.pm_script.specs.declared.verb.Verb.{Verb}
use Rattle.pm_script.specs.declared.verb.Verb.TheVariants as verb
use Rattle.pm_script.specs.declared.verb.First.{First}
use Rattle.pm_script.specs.declared.verb.First.TheVariants as first
use Rattle.pm_script.specs.Lines.{is_silent}
use Rattle.pm_script.specs.Words.{word_of, first_word, IsFirst, Value, Register, Number, Hex, Name, IsSpelled, AreSpelled}
use Rattle.pm_script.specs.Values.{is_digit}
use Rattle.pm_script.proofs.Both.{first_true, second_true, both_true}
use Rattle.pm_script.proofs.Hexes.{hex_plain}
use Rattle.pm_script.proofs.Numerals.{decimal_digits}

-- each byte is above the space
abbrev pub IsPlain : List ℕ → Type 0
IsPlain word = list_all (λ b. nat_lt 32 b) word ≡ true

implied : (p q : ℕ → Bool) → ((b : ℕ) → p b ≡ true → q b ≡ true) → (xs : List ℕ) → list_all p xs ≡ true → list_all q xs ≡ true
implied p q so [] each = refl
implied p q so (x ∷ xs) each = both_true (q x) (list_all q xs) (so x (first_true (p x) (list_all p xs) each)) (implied p q so xs (second_true (p x) (list_all p xs) each))

digit_plain : (b : ℕ) → is_digit b ≡ true → nat_lt 32 b ≡ true
digit_plain b is = grind (arith, nat_tests)

name_byte_plain : (b : ℕ) → is_name_byte b ≡ true → nat_lt 32 b ≡ true
name_byte_plain b is = grind (arith, nat_tests)

decimal_plain : (n : ℕ) → n < 2 ^ 32 → IsPlain (decimal n)
decimal_plain n small = implied is_digit (λ b. nat_lt 32 b) digit_plain (decimal n) (decimal_digits n small)

name_tests : (name : List ℕ) → AllByRecursion (λ b. IsTrue (is_name_byte b)) name → list_all is_name_byte name ≡ true
name_tests [] each = refl
name_tests (b ∷ name) each = both_true (is_name_byte b) (list_all is_name_byte name) each.0 (name_tests name each.1)

name_plain : (name : List ℕ) → IsName name → IsPlain name
name_plain name named = implied is_name_byte (λ b. nat_lt 32 b) name_byte_plain name (name_tests name named.each)

value_plain : (value : Value) (word : List ℕ) → IsSpelled value word → IsPlain word
value_plain (Register register) word has = subst IsPlain (sym has.1) (decimal_plain register (omega (arith, has.0)))
value_plain (Number number) word has = subst IsPlain (sym has.1) (decimal_plain number has.0)
value_plain (Hex bytes) word has = hex_plain word bytes has
value_plain (Name name) word has = subst IsPlain (sym has.1) (name_plain name has.0)

pub values_plain : (values : List Value) (words : List (List ℕ)) → AreSpelled values words → AllByRecursion IsPlain words
values_plain [] [] are = tt
values_plain [] (word ∷ words) are = absurd are
values_plain (value ∷ values) [] are = absurd are
values_plain (value ∷ values) (word ∷ words) are = (value_plain value word are.0, values_plain values words are.1)

pub verb_plain : (v : Verb) → IsPlain (word_of v)
verb_plain verb.New = refl
verb_plain v = refl

pub first_plain : (f : First) → IsFirst f → IsPlain (first_word f)
first_plain (first.Client c) small = decimal_plain c (omega (arith, small))
first_plain first.Bang is = refl

-- no byte of the word is c
abbrev pub Lacks : ℕ → List ℕ → Type 0
Lacks c word = AllByRecursion (λ b. nat_eq b c ≡ false) word

not_same : (b c : ℕ) → c < 33 → nat_lt 32 b ≡ true → nat_eq b c ≡ false
not_same b c small above = grind (arith, nat_tests)

plain_lacks : (c : ℕ) → c < 33 → (word : List ℕ) → IsPlain word → Lacks c word
plain_lacks c small [] plain = tt
plain_lacks c small (b ∷ word) plain = (not_same b c small (first_true (nat_lt 32 b) _ plain), plain_lacks c small word (second_true (nat_lt 32 b) _ plain))

pub all_lack : (c : ℕ) → c < 33 → (words : List (List ℕ)) → AllByRecursion IsPlain words → AllByRecursion (Lacks c) words
all_lack c small [] plain = tt
all_lack c small (word ∷ words) plain = (plain_lacks c small word plain.0, all_lack c small words plain.1)

same_byte : (c : ℕ) → nat_eq c c ≡ true
same_byte c = grind (arith, nat_tests)

-- parts that lack the separator are those of what they are joined to
pub split_joined : (c : ℕ) (part : List ℕ) (parts : List (List ℕ)) → AllByRecursion (Lacks c) (part ∷ parts) → slice_split (λ b. nat_eq b c) (join_with_byte c (part ∷ parts)) ≡ part ∷ parts
split_joined c part [] lack = slice_split_none (λ b. nat_eq b c) part (All-from_recursion _ part lack.0)
split_joined c part (next ∷ parts) lack =
    slice_split_at (λ b. nat_eq b c) part c (join_with_byte c (next ∷ parts)) (All-from_recursion _ part lack.0) (same_byte c)
    ∙ ap (λ rest. part ∷ rest) (split_joined c next parts lack.1)

append_lacks : (c : ℕ) (xs ys : List ℕ) → Lacks c xs → Lacks c ys → Lacks c (xs ++ ys)
append_lacks c [] ys a b = b
append_lacks c (x ∷ xs) ys a b = (a.0, append_lacks c xs ys a.1 b)

-- what words are joined to lacks what they and the separator lack
pub joined_lacks : (c s : ℕ) → nat_eq s c ≡ false → (parts : List (List ℕ)) → AllByRecursion (Lacks c) parts → Lacks c (join_with_byte s parts)
joined_lacks c s other [] lack = tt
joined_lacks c s other (part ∷ []) lack = lack.0
joined_lacks c s other (part ∷ next ∷ parts) lack = append_lacks c part (s ∷ join_with_byte s (next ∷ parts)) lack.0 (other, joined_lacks c s other (next ∷ parts) lack.1)

digit_spoken : (c : ℕ) → c < 8 → nat_eq (48 + c) 35 ≡ false
digit_spoken c small = grind (arith, nat_tests)

-- a line that begins so says something
pub begun_spoken : (f : First) (word : List ℕ) (words : List (List ℕ)) → IsFirst f → is_silent (join_with_byte 32 (first_word f ∷ word ∷ words)) ≡ false
begun_spoken (first.Client c) word words small =
    ap (λ (w : List ℕ). is_silent (join_with_byte 32 (w ∷ word ∷ words))) (decimal_digit c (omega (arith, small))) ∙ digit_spoken c small
begun_spoken first.Bang word words is = refl
