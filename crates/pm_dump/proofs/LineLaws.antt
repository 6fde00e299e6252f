-- What is read of words is what they spell.
use Rattle.std.proofs.Common.{◌≡◌, ◌⊎◌, inl, inr, ℕ, ◌<◌, ◌≤◌, ◌==◌, ◌&&◌, Bool, true, false, List, [], ◌∷◌, length, Option, Some, None, codes, nat_lt, nat_le, IsTrue, refl, ap, sym, subst, ◌∙◌, arith, if◌then◌else◌}
use Rattle.std.proofs.lemmas.Bool.{ltb-true, leb-true, lt-ltb, eqb-true}
use Rattle.std.proofs.lemmas.Bool.Decides.{nat_tests}
use Rattle.std.specs.Option.{option_map}
use Rattle.std.specs.List.{AllByRecursion, list_all}
use Rattle.std.specs.Cmp.Lexicographic.{pointwise, bytes_decides}
use Rattle.std.specs.Str.Parse.{digits_value}
use Rattle.pm_types.specs.Options.{◌>>=◌}
use Rattle.pm_model.specs.Heap.{Object}
use Rattle.pm_types.specs.Names.{is_name_byte, IsName}
use Rattle.pm_script.specs.Values.{is_numeral, hex_of, name_of, is_name}
use Rattle.pm_script.proofs.Both.{first_true, second_true}
use Rattle.pm_script.proofs.Steps.{both, guarded, passed, mapped}
use Rattle.pm_script.proofs.Hexes.{hex_spelled, hex_read}
use Rattle.pm_script.proofs.NameTests.{name_passes}
use Rattle.pm_dump.specs.Dump.{DumpLine, HeadLine, ObjectLine, RootLine, EndLine}
use Rattle.pm_dump.specs.Spelled.{IsNumeralOf, IsFieldWord, AreFieldWords, AreHeadWords, AreObjectWords, AreRootWords, AreLineWords}
use Rattle.pm_dump.specs.Reading.{numeral_at, some_number, id_at, field_at, fields_at, counted_object, object_at, root_at, end_at, head_at, line_at}

-- ---- numbers

numeral_found : (word : List ℕ) (n : ℕ) → numeral_at word ≡ Some n → IsNumeralOf n word
numeral_found word n is = let it = guarded (is_numeral word) (digits_value 10 word) n is in record { digits = it.0; value = it.1 }

numeral_again : (word : List ℕ) (n : ℕ) → IsNumeralOf n word → numeral_at word ≡ Some n
numeral_again word n is = passed (is_numeral word) (digits_value 10 word) is.digits ∙ ap (λ (n : ℕ). Some n) is.value

pub some_again : (n : ℕ) → 1 ≤ n → some_number n ≡ Some n
some_again n some = passed (nat_lt 0 n) n (lt-ltb 0 n (omega (arith, some)))

pub id_found : (word : List ℕ) (n : ℕ) → id_at word ≡ Some n → (1 ≤ n) × IsNumeralOf n word
id_found word n is =
    let it = both (numeral_at word) some_number n is in
    let test = guarded (nat_lt 0 it.0) it.0 n it.2 in
    let above : 0 < it.0 = ltb-true 0 it.0 test.0 in
    let some : 1 ≤ it.0 = omega (arith, above) in
    (subst (λ n. 1 ≤ n) test.1 some, subst (λ n. IsNumeralOf n word) test.1 (numeral_found word it.0 it.1))

pub id_again : (word : List ℕ) (n : ℕ) → 1 ≤ n → IsNumeralOf n word → id_at word ≡ Some n
id_again word n some is = ap (λ (o : Option ℕ). o >>= some_number) (numeral_again word n is) ∙ some_again n some

-- ---- fields

zero_if : (n : ℕ) → nat_lt 0 n ≡ false → n ≡ 0
zero_if n is = grind (arith, nat_tests, is)

field_by : (word : List ℕ) (n : ℕ) (f : Option ℕ) (test : Bool) → nat_lt 0 n ≡ test → (if test then Some n else None) ≡ f → IsNumeralOf n word → IsFieldWord f word
field_by word n f true is so numeral =
    let above : 0 < n = ltb-true 0 n is in
    let some : 1 ≤ n = omega (arith, above) in
    subst (λ (f : Option ℕ). IsFieldWord f word) so (some, numeral)
field_by word n f false is so numeral = subst (λ (f : Option ℕ). IsFieldWord f word) so (subst (λ n. IsNumeralOf n word) (zero_if n is) numeral)

field_found : (word : List ℕ) (f : Option ℕ) → field_at word ≡ Some f → IsFieldWord f word
field_found word f is =
    let it = mapped some_number (numeral_at word) f is in
    field_by word it.0 f (nat_lt 0 it.0) refl it.2 (numeral_found word it.0 it.1)

field_again : (word : List ℕ) (f : Option ℕ) → IsFieldWord f word → field_at word ≡ Some f
field_again word None is = ap (option_map some_number) (numeral_again word 0 is)
field_again word (Some n) is = ap (option_map some_number) (numeral_again word n is.1) ∙ ap (λ (f : Option ℕ). Some f) (some_again n is.0)

fields_found : (words : List (List ℕ)) (fs : List (Option ℕ)) → fields_at words ≡ Some fs → AreFieldWords fs words
fields_found [] fs is = let none : [] ≡ fs = cc is in subst (λ (fs : List (Option ℕ)). AreFieldWords fs []) none tt
fields_found (word ∷ words) fs is =
    let one = both (field_at word) (λ f. fields_at words >>= λ fs. Some (f ∷ fs)) fs is in
    let more = both (fields_at words) (λ fs. Some (one.0 ∷ fs)) fs one.2 in
    let all : one.0 ∷ more.0 ≡ fs = cc (more.2) in
    subst (λ (fs : List (Option ℕ)). AreFieldWords fs (word ∷ words)) all (field_found word one.0 one.1, fields_found words more.0 more.1)

fields_again : (words : List (List ℕ)) (fs : List (Option ℕ)) → AreFieldWords fs words → fields_at words ≡ Some fs
fields_again [] [] are = refl
fields_again [] (f ∷ fs) are = absurd are
fields_again (word ∷ words) [] are = absurd are
fields_again (word ∷ words) (f ∷ fs) are =
    ap (λ (o : Option (Option ℕ)). o >>= λ f. fields_at words >>= λ fs. Some (f ∷ fs)) (field_again word f are.0)
    ∙ ap (λ (o : Option (List (Option ℕ))). o >>= λ fs. Some (f ∷ fs)) (fields_again words fs are.1)

-- ---- names

each_of : (p : ℕ → Bool) (xs : List ℕ) → list_all p xs ≡ true → AllByRecursion (λ x. IsTrue (p x)) xs
each_of p [] is = tt
each_of p (x ∷ xs) is = (first_true (p x) (list_all p xs) is, each_of p xs (second_true (p x) (list_all p xs) is))

named : (word : List ℕ) → is_name word ≡ true → IsName word
named word is =
    let outer = first_true (nat_lt 0 (length word) && nat_le (length word) 64) (list_all is_name_byte word) is in
    record {
      some = ltb-true 0 (length word) (first_true (nat_lt 0 (length word)) (nat_le (length word) 64) outer);
      short = leb-true (length word) 64 (second_true (nat_lt 0 (length word)) (nat_le (length word) 64) outer);
      each = each_of is_name_byte word (second_true (nat_lt 0 (length word) && nat_le (length word) 64) (list_all is_name_byte word) is);
    }

name_found : (word name : List ℕ) → name_of word ≡ Some name → IsName name × (word ≡ name)
name_found word name is = let it = guarded (is_name word) word name is in (subst IsName it.1 (named word it.0), it.1)

pub name_again : (word : List ℕ) → IsName word → name_of word ≡ Some word
name_again word named = passed (is_name word) word (name_passes word named)

-- ---- lines

same_word : (word text : List ℕ) → pointwise ◌==◌ word text ≡ true → word ≡ text
same_word word text is = (bytes_decides word text).0 is

eqb_of : (m n : ℕ) → m ≡ n → (m == n) ≡ true
eqb_of m n is = grind (arith, nat_tests)

object_found : (words : List (List ℕ)) (line : DumpLine) → object_at words ≡ Some line → AreLineWords line (codes "object" ∷ words)
unfolding object_at
object_found [] line is = absurd (let bad : None ≡ Some line = is in cc bad)
object_found (number ∷ []) line is = absurd (let bad : None ≡ Some line = is in cc bad)
object_found (number ∷ count ∷ []) line is = absurd (let bad : None ≡ Some line = is in cc bad)
object_found (number ∷ count ∷ hex ∷ words) line is =
    let one = both (id_at number) (λ id. numeral_at count >>= λ count. hex_of hex >>= λ bytes. fields_at words >>= counted_object id count bytes) line is in
    let two = both (numeral_at count) (λ count. hex_of hex >>= λ bytes. fields_at words >>= counted_object one.0 count bytes) line one.2 in
    let three = both (hex_of hex) (λ bytes. fields_at words >>= counted_object one.0 two.0 bytes) line two.2 in
    let four = both (fields_at words) (counted_object one.0 two.0 three.0) line three.2 in
    let object : Object = record { fields = four.0; bytes = three.0 } in
    let five = guarded (length four.0 == two.0) (ObjectLine one.0 object) line four.2 in
    let id = id_found number one.0 one.1 in
    subst (λ (line : DumpLine). AreLineWords line (codes "object" ∷ number ∷ count ∷ hex ∷ words)) five.1 (
    record {
      number = number;
      count = count;
      hex = hex;
      fields = words;
      whole = refl;
      some = id.0;
      spelled = id.1;
      counted = subst (λ n. IsNumeralOf n count) (sym (eqb-true (length four.0) two.0 five.0)) (numeral_found count two.0 two.1);
      bytes = hex_spelled hex three.0 three.1;
      each = fields_found words four.0 four.1;
    }
    )

object_again : (id : ℕ) (object : Object) (words : List (List ℕ)) → AreObjectWords id object words → line_at words ≡ Some (ObjectLine id object)
unfolding line_at object_at
object_again id object words are =
    ap line_at are.whole
    ∙ ap (λ (o : Option ℕ). o >>= λ id. numeral_at are.count >>= λ count. hex_of are.hex >>= λ bytes. fields_at are.fields >>= counted_object id count bytes) (id_again are.number id are.some are.spelled)
    ∙ ap (λ (o : Option ℕ). o >>= λ count. hex_of are.hex >>= λ bytes. fields_at are.fields >>= counted_object id count bytes) (numeral_again are.count (length object.fields) are.counted)
    ∙ ap (λ (o : Option (List ℕ)). o >>= λ bytes. fields_at are.fields >>= counted_object id (length object.fields) bytes) (hex_read are.hex object.bytes are.bytes)
    ∙ ap (λ (o : Option (List (Option ℕ))). o >>= counted_object id (length object.fields) object.bytes) (fields_again are.fields object.fields are.each)
    ∙ ap (λ (b : Bool). if b then Some (ObjectLine id object) else None) (eqb_of (length object.fields) (length object.fields) refl)

root_found : (words : List (List ℕ)) (line : DumpLine) → root_at words ≡ Some line → AreLineWords line (codes "root" ∷ words)
unfolding root_at
root_found [] line is = absurd (let bad : None ≡ Some line = is in cc bad)
root_found (word ∷ []) line is = absurd (let bad : None ≡ Some line = is in cc bad)
root_found (word ∷ number ∷ next ∷ words) line is = absurd (let bad : None ≡ Some line = is in cc bad)
root_found (word ∷ number ∷ []) line is =
    let one = both (name_of word) (λ name. id_at number >>= λ id. Some (RootLine name id)) line is in
    let two = both (id_at number) (λ id. Some (RootLine one.0 id)) line one.2 in
    let same : RootLine one.0 two.0 ≡ line = cc (two.2) in
    let name = name_found word one.0 one.1 in
    let id = id_found number two.0 two.1 in
    subst (λ (line : DumpLine). AreLineWords line (codes "root" ∷ word ∷ number ∷ [])) same
    (record { number = number; whole = ap (λ w. codes "root" ∷ w ∷ number ∷ []) name.1; named = name.0; some = id.0; spelled = id.1 })

root_again : (name : List ℕ) (id : ℕ) (words : List (List ℕ)) → AreRootWords name id words → line_at words ≡ Some (RootLine name id)
unfolding line_at root_at
root_again name id words are =
    ap line_at are.whole
    ∙ ap (λ (o : Option (List ℕ)). o >>= λ name. id_at are.number >>= λ id. Some (RootLine name id)) (name_again name are.named)
    ∙ ap (λ (o : Option ℕ). o >>= λ id. Some (RootLine name id)) (id_again are.number id are.some are.spelled)

end_found : (words : List (List ℕ)) (line : DumpLine) → end_at words ≡ Some line → AreLineWords line (codes "end" ∷ words)
unfolding end_at
end_found [] line is = let same : EndLine ≡ line = cc is in subst (λ (line : DumpLine). AreLineWords line (codes "end" ∷ [])) same refl
end_found (word ∷ words) line is = absurd (let bad : None ≡ Some line = is in cc bad)

end_again : (words : List (List ℕ)) → words ≡ codes "end" ∷ [] → line_at words ≡ Some EndLine
unfolding line_at end_at
end_again words is = ap line_at is

head_found : (words : List (List ℕ)) (line : DumpLine) → head_at words ≡ Some line → AreLineWords line (codes "pmos" ∷ words)
unfolding head_at
head_found [] line is = absurd (let bad : None ≡ Some line = is in cc bad)
head_found (word ∷ []) line is = absurd (let bad : None ≡ Some line = is in cc bad)
head_found (word ∷ version ∷ []) line is = absurd (let bad : None ≡ Some line = is in cc bad)
head_found (word ∷ version ∷ number ∷ next ∷ words) line is = absurd (let bad : None ≡ Some line = is in cc bad)
head_found (word ∷ version ∷ number ∷ []) line is =
    tested (pointwise ◌==◌ word (codes "dump")) (pointwise ◌==◌ version (codes "1")) refl refl is
  where
    tested : (a b : Bool) → pointwise ◌==◌ word (codes "dump") ≡ a → pointwise ◌==◌ version (codes "1") ≡ b → (if a && b then option_map HeadLine (id_at number) else None) ≡ Some line
        → AreLineWords line (codes "pmos" ∷ word ∷ version ∷ number ∷ [])
    tested true true dump one is =
        let it = mapped HeadLine (id_at number) line is in
        let id = id_found number it.0 it.1 in
        subst (λ (line : DumpLine). AreLineWords line (codes "pmos" ∷ word ∷ version ∷ number ∷ [])) it.2 (
        record {
          number = number;
          whole = (λ i. codes "pmos" ∷ same_word word (codes "dump") dump i ∷ same_word version (codes "1") one i ∷ number ∷ []);
          some = id.0;
          spelled = id.1;
        }
        )
    tested true false dump one is = absurd (let bad : None ≡ Some line = is in cc bad)
    tested false b dump one is = absurd (let bad : None ≡ Some line = is in cc bad)

head_again : (next : ℕ) (words : List (List ℕ)) → AreHeadWords next words → line_at words ≡ Some (HeadLine next)
unfolding line_at head_at
head_again next words are = ap line_at are.whole ∙ ap (option_map HeadLine) (id_again are.number next are.some are.spelled)

line_by : (word : List ℕ) (words : List (List ℕ)) (line : DumpLine) (a b c d : Bool) → pointwise ◌==◌ word (codes "object") ≡ a → pointwise ◌==◌ word (codes "root") ≡ b → pointwise ◌==◌ word (codes "end") ≡ c
    → pointwise ◌==◌ word (codes "pmos") ≡ d
    → (if a then object_at words else if b then root_at words else if c then end_at words else if d then head_at words else None) ≡ Some line → AreLineWords line (word ∷ words)
line_by word words line true b c d pa pb pc pd is = subst (λ (w : List ℕ). AreLineWords line (w ∷ words)) (sym (same_word word (codes "object") pa)) (object_found words line is)
line_by word words line false true c d pa pb pc pd is = subst (λ (w : List ℕ). AreLineWords line (w ∷ words)) (sym (same_word word (codes "root") pb)) (root_found words line is)
line_by word words line false false true d pa pb pc pd is = subst (λ (w : List ℕ). AreLineWords line (w ∷ words)) (sym (same_word word (codes "end") pc)) (end_found words line is)
line_by word words line false false false true pa pb pc pd is = subst (λ (w : List ℕ). AreLineWords line (w ∷ words)) (sym (same_word word (codes "pmos") pd)) (head_found words line is)
line_by word words line false false false false pa pb pc pd is = absurd (let bad : None ≡ Some line = is in cc bad)

-- the line that is read of words is spelled by them
pub line_found : (words : List (List ℕ)) (line : DumpLine) → line_at words ≡ Some line → AreLineWords line words
unfolding line_at
line_found [] line is = absurd (let bad : None ≡ Some line = is in cc bad)
line_found (word ∷ words) line is = line_by word words line _ _ _ _ refl refl refl refl is

-- the line that words spell is read of them
pub line_again : (line : DumpLine) (words : List (List ℕ)) → AreLineWords line words → line_at words ≡ Some line
line_again (HeadLine next) words are = head_again next words are
line_again (ObjectLine id object) words are = object_again id object words are
line_again (RootLine name id) words are = root_again name id words are
line_again EndLine words are = end_again words are

some_same : {A : Type 0} (x y : A) → ◌≡◌ {A = Option A} (Some x) (Some y) → x ≡ y
some_same x y is = cc is

-- words spell one line at most
pub one_line : (words : List (List ℕ)) (a b : DumpLine) → AreLineWords a words → AreLineWords b words → a ≡ b
one_line words a b is_a is_b = some_same a b (sym (line_again a words is_a) ∙ line_again b words is_b)

found_or_not : (words : List (List ℕ)) (read : Option DumpLine) → line_at words ≡ read → ((line : DumpLine) × AreLineWords line words) ⊎ ((line : DumpLine) → AreLineWords line words → ⊥)
found_or_not words None is = inr (λ line are. let bad : ◌≡◌ {A = Option DumpLine} None (Some line) = sym is ∙ line_again line words are in cc bad)
found_or_not words (Some line) is = inl (line, line_found words line is)

-- words spell a line or none
pub spelled_or_not : (words : List (List ℕ)) → ((line : DumpLine) × AreLineWords line words) ⊎ ((line : DumpLine) → AreLineWords line words → ⊥)
spelled_or_not words = found_or_not words (line_at words) refl
