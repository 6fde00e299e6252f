-- The text of a dump spells it.
use Rattle.std.proofs.Common.{◌≡◌, ℕ, zero, suc, ◌<◌, ◌≤◌, ◌^◌, ◌==◌, ◌&&◌, ◌||◌, Bool, true, false, not, List, [], ◌∷◌, ◌++◌, length, map, Option, Some, None, IfSome, slice_index, codes, decimal, nat_eq, nat_lt, IsTrue, refl, sym, ap, subst, ◌∙◌, arith, rules, lit<, append_assoc}
use Rattle.std.proofs.lemmas.Bool.{eqb-true, lt-ltb}
use Rattle.std.proofs.lemmas.Bool.Decides.{nat_tests}
use Rattle.std.proofs.lemmas.Fmt.{digits_value-decimal, digits_decimal, decimal_nonempty, first_decimal, decimal_digit}
use Rattle.std.proofs.lemmas.List.Elements.{All-from_recursion}
use Rattle.std.proofs.lemmas.List.Splits.{slice_split_at}
use Rattle.std.proofs.lemmas.Str.Parse.{IsDigitsTest, IsNumeralModel, numerals_by_value}
use Rattle.std.specs.List.{AllByRecursion, list_all, flat_map, join_with_byte}
use Rattle.std.specs.Str.Parse.{digits_value}
use Rattle.hex.specs.Hex.{IsBytes}
use Rattle.pm_types.specs.Names.{is_name_byte, IsName}
use Rattle.pm_model.specs.Heap.{Object}
use Rattle.pm_model.specs.Text.{pairs}
use Rattle.pm_script.specs.Lines.{words_of, ended}
use Rattle.pm_script.specs.Values.{is_digit}
use Rattle.pm_script.proofs.Both.{first_true, second_true, both_true}
use Rattle.pm_script.proofs.HexDigits.{printed_again}
use Rattle.pm_script.proofs.Hexes.{hex_plain}
use Rattle.pm_script.proofs.PlainWords.{IsPlain, Lacks, all_lack, split_joined, joined_lacks}
use Rattle.pm_dump.specs.Dump.{Dump, DumpLine, HeadLine, ObjectLine, RootLine, EndLine, object_lines, root_lines, dump_lines, field_word, line_words, line_text, dump_text_of}
use Rattle.pm_dump.specs.Spelled.{IsNumeralOf, IsFieldWord, AreFieldWords, AreLineWords, IsSpelledLine, pieces_of, AreLinePieces, Spells}
use Rattle.pm_dump.specs.Sound.{IsIdBelow, IsSoundObject, IsSoundDump, HaveBytes}

-- ---- numbers

-- a word of digits alone
AreDigits : List ℕ → Type 0
AreDigits word = list_all is_digit word ≡ true

digits_test : IsDigitsTest AreDigits
unfolding AreDigits
digits_test = search rules

own : IsNumeralModel AreDigits (digits_value 10)
own = numerals_by_value AreDigits digits_test

three : (a b c d : Bool) → a ≡ true → b ≡ true → (c ≡ true → d ≡ true) → (a && b && (not c || d)) ≡ true
three a b true d one two more = λ i. one i && two i && more refl i
three a b false d one two more = λ i. one i && two i && true

one_digit : (n : ℕ) → n < 2 ^ 64 → slice_index (decimal n) 0 ≡ 48 → length (decimal n) ≡ 1
one_digit zero small is = ap length (decimal_digit 0 (lit< tt))
one_digit (suc n) small is = absurd (omega (arith, first_decimal (suc n) (omega arith) small, is))

eqb_of : (m n : ℕ) → m ≡ n → (m == n) ≡ true
eqb_of m n is = grind (arith, nat_tests)

-- what a number is written as spells it
pub written_number : (n : ℕ) → n ≤ 4294967296 → IsNumeralOf n (decimal n)
unfolding AreDigits
written_number n small =
    let wide : n < 2 ^ 64 = omega (arith, small) in
    let word = decimal n in
    record {
      digits = three (list_all is_digit word) (nat_lt 0 (length word)) (slice_index word 0 == 48) (length word == 1) (digits_decimal own n wide) (lt-ltb 0 (length word) (decimal_nonempty n wide))
          (λ is. eqb_of (length word) 1 (one_digit n wide (eqb-true (slice_index word 0) 48 is)));
      value = digits_value-decimal own n wide;
    }

-- ---- words of spelled lines have no space and no newline

implied : (p q : ℕ → Bool) → ((b : ℕ) → p b ≡ true → q b ≡ true) → (xs : List ℕ) → list_all p xs ≡ true → list_all q xs ≡ true
implied p q so [] each = refl
implied p q so (x ∷ xs) each = both_true (q x) (list_all q xs) (so x (first_true (p x) (list_all p xs) each)) (implied p q so xs (second_true (p x) (list_all p xs) each))

digit_plain : (b : ℕ) → is_digit b ≡ true → nat_lt 32 b ≡ true
digit_plain b is = grind (arith, nat_tests)

name_byte_plain : (b : ℕ) → is_name_byte b ≡ true → nat_lt 32 b ≡ true
name_byte_plain b is = grind (arith, nat_tests)

numeral_plain : (n : ℕ) (word : List ℕ) → IsNumeralOf n word → IsPlain word
numeral_plain n word is =
    implied is_digit (λ b. nat_lt 32 b) digit_plain word
    (first_true (list_all is_digit word) (nat_lt 0 (length word)) (first_true (list_all is_digit word && nat_lt 0 (length word)) (not (slice_index word 0 == 48) || length word == 1) is.digits))

name_tests : (name : List ℕ) → AllByRecursion (λ b. IsTrue (is_name_byte b)) name → list_all is_name_byte name ≡ true
name_tests [] each = refl
name_tests (b ∷ name) each = both_true (is_name_byte b) (list_all is_name_byte name) each.0 (name_tests name each.1)

name_plain : (name : List ℕ) → IsName name → IsPlain name
name_plain name named = implied is_name_byte (λ b. nat_lt 32 b) name_byte_plain name (name_tests name named.each)

field_plain : (field : Option ℕ) (word : List ℕ) → IsFieldWord field word → IsPlain word
field_plain None word is = numeral_plain 0 word is
field_plain (Some id) word is = numeral_plain id word is.1

fields_plain : (fields : List (Option ℕ)) (words : List (List ℕ)) → AreFieldWords fields words → AllByRecursion IsPlain words
fields_plain [] [] are = tt
fields_plain [] (word ∷ words) are = absurd are
fields_plain (field ∷ fields) [] are = absurd are
fields_plain (field ∷ fields) (word ∷ words) are = (field_plain field word are.0, fields_plain fields words are.1)

words_plain : (line : DumpLine) (words : List (List ℕ)) → AreLineWords line words → AllByRecursion IsPlain words
words_plain (HeadLine next) words are = subst (AllByRecursion IsPlain) (sym are.whole) (refl, (refl, (refl, (numeral_plain next are.number are.spelled, tt))))
words_plain (ObjectLine id object) words are =
    subst (AllByRecursion IsPlain) (sym are.whole) (
      refl,
      (numeral_plain id are.number are.spelled, (numeral_plain (length object.fields) are.count are.counted, (hex_plain are.hex object.bytes are.bytes, fields_plain object.fields are.fields are.each))),
    )
words_plain (RootLine name id) words are = subst (AllByRecursion IsPlain) (sym are.whole) (refl, (name_plain name are.named, (numeral_plain id are.number are.spelled, tt)))
words_plain EndLine words are = subst (AllByRecursion IsPlain) (sym are) (refl, tt)

-- ---- lines

-- what is written for a line, without its newline
abbrev pub body_of : DumpLine → List ℕ
body_of line = join_with_byte 32 (line_words line)

joined_words : (word : List ℕ) (words : List (List ℕ)) → AllByRecursion IsPlain (word ∷ words) → words_of (join_with_byte 32 (word ∷ words)) ≡ word ∷ words
joined_words word words plain = split_joined 32 word words (all_lack 32 (omega arith) (word ∷ words) plain)

body_words : (line : DumpLine) → AreLineWords line (line_words line) → words_of (body_of line) ≡ line_words line
body_words (HeadLine next) are = joined_words (codes "pmos") (codes "dump" ∷ codes "1" ∷ decimal next ∷ []) (words_plain (HeadLine next) (line_words (HeadLine next)) are)
body_words (ObjectLine id object) are =
    joined_words (codes "object") (decimal id ∷ decimal (length object.fields) ∷ pairs object.bytes ∷ map field_word object.fields) (words_plain (ObjectLine id object) (line_words (ObjectLine id object)) are)
body_words (RootLine name id) are = joined_words (codes "root") (name ∷ decimal id ∷ []) (words_plain (RootLine name id) (line_words (RootLine name id)) are)
body_words EndLine are = joined_words (codes "end") [] (words_plain EndLine (line_words EndLine) are)

body_spelled : (line : DumpLine) → AreLineWords line (line_words line) → IsSpelledLine line (body_of line)
body_spelled line are = subst (AreLineWords line) (sym (body_words line are)) are

body_lacks : (line : DumpLine) → AreLineWords line (line_words line) → Lacks 10 (body_of line)
body_lacks line are = joined_lacks 10 32 refl (line_words line) (all_lack 10 (omega arith) (line_words line) (words_plain line (line_words line) are))

cut_line : (body rest : List ℕ) → Lacks 10 body → pieces_of (ended body ++ rest) ≡ body ∷ pieces_of rest
cut_line body rest lacks = ap pieces_of (append_assoc body (10 ∷ []) rest) ∙ slice_split_at (λ b. nat_eq b 10) body 10 rest (All-from_recursion (λ b. nat_eq b 10 ≡ false) body lacks) refl

-- the text of lines that can be spelled spells them
pub text_spelled : (lines : List DumpLine) → AllByRecursion (λ (line : DumpLine). AreLineWords line (line_words line)) lines → AreLinePieces lines (pieces_of (flat_map line_text lines))
text_spelled [] are = refl
text_spelled (line ∷ lines) are =
    subst (AreLinePieces (line ∷ lines)) (sym (cut_line (body_of line) (flat_map line_text lines) (body_lacks line are.0))) (body_spelled line are.0, text_spelled lines are.1)

-- ---- a dump

fields_written : (next : ℕ) (fields : List (Option ℕ)) → next ≤ 4294967296 → AllByRecursion (λ (field : Option ℕ). IfSome field (IsIdBelow next)) fields → AreFieldWords fields (map field_word fields)
fields_written next [] small held = tt
fields_written next (None ∷ fields) small held = (record { digits = refl; value = refl }, fields_written next fields small held.1)
fields_written next (Some to ∷ fields) small held = ((held.0.0, written_number to (let lt = held.0.1 in omega (arith, lt, small))), fields_written next fields small held.1)

object_written : (next id : ℕ) (object : Object) → next ≤ 4294967296 → IsSoundObject next id object → IsBytes object.bytes → AreLineWords (ObjectLine id object) (line_words (ObjectLine id object))
object_written next id object small is bytes = record {
  number = decimal id;
  count = decimal (length object.fields);
  hex = pairs object.bytes;
  fields = map field_word object.fields;
  whole = refl;
  some = is.is_id.0;
  spelled = written_number id (let lt = is.is_id.1 in omega (arith, lt, small));
  counted = written_number (length object.fields) (let few = is.few in omega (arith, few));
  bytes = printed_again object.bytes bytes;
  each = fields_written next object.fields small is.held;
}

root_written : (next : ℕ) (name : List ℕ) (id : ℕ) → next ≤ 4294967296 → IsName name → IsIdBelow next id → AreLineWords (RootLine name id) (line_words (RootLine name id))
root_written next name id small named is = record { number = decimal id; whole = refl; named = named; some = is.0; spelled = written_number id (let lt = is.1 in omega (arith, lt, small)) }

roots_written : (next : ℕ) (roots : List (List ℕ × ℕ)) → next ≤ 4294967296 → AllByRecursion (λ (e : List ℕ × ℕ). IsName e.0 × IsIdBelow next e.1) roots
    → AllByRecursion (λ (line : DumpLine). AreLineWords line (line_words line)) (root_lines roots ++ EndLine ∷ [])
roots_written next [] small are = (refl, tt)
roots_written next (e ∷ roots) small are = (root_written next e.0 e.1 small are.0.0 are.0.1, roots_written next roots small are.1)

objects_written : (next : ℕ) (objects : List (ℕ × Object)) (rest : List DumpLine) → next ≤ 4294967296 → AllByRecursion (λ (e : ℕ × Object). IsSoundObject next e.0 e.1) objects
    → AllByRecursion (λ (e : ℕ × Object). IsBytes e.1.bytes) objects → AllByRecursion (λ (line : DumpLine). AreLineWords line (line_words line)) rest
    → AllByRecursion (λ (line : DumpLine). AreLineWords line (line_words line)) (object_lines objects ++ rest)
objects_written next [] rest small sound bytes more = more
objects_written next (e ∷ objects) rest small sound bytes more = (object_written next e.0 e.1 small sound.0 bytes.0, objects_written next objects rest small sound.1 bytes.1 more)

-- the text of a dump spells it
pub dump_spelled : (dump : Dump) → IsSoundDump dump → HaveBytes dump → Spells (dump_text_of dump) dump
dump_spelled dump is bytes =
    text_spelled (dump_lines dump) (
      record { number = decimal dump.next; whole = refl; some = is.first; spelled = written_number dump.next is.last },
      objects_written dump.next dump.objects (root_lines dump.roots ++ EndLine ∷ []) is.last is.objects bytes (roots_written dump.next dump.roots is.last is.named),
    )
