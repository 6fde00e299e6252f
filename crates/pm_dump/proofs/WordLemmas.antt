-- What is read of words, by how many there are and what each one is.
use Rattle.std.proofs.Common.{◌≡◌, ℕ, suc, ◌+◌, ◌<◌, ◌≤◌, ◌^◌, ◌==◌, ◌&&◌, Bool, true, false, List, [], ◌∷◌, length, count_by, Option, Some, None, Bor, nat_eq, codes, refl, sym, ap, subst, ◌∙◌, arith, if◌then◌else◌}
use Rattle.std.proofs.lemmas.Bool.{eqb-true}
use Rattle.std.proofs.lemmas.Bool.Decides.{nat_tests}
use Rattle.std.proofs.lemmas.List.Splits.{length-slice_split}
use Rattle.std.specs.List.{list_all, slice_split}
use Rattle.std.specs.Option.{MatchOption, option_map}
use Rattle.std.specs.Cmp.Lexicographic.{pointwise}
use Rattle.std.specs.Str.Parse.{digits_value}
use Rattle.pm_types.specs.Counts.{capped}
use Rattle.pm_types.specs.Options.{◌>>=◌}
use Rattle.pm_script.specs.Values.{is_numeral, hex_of, name_of}
use Rattle.pm_script.proofs.Both.{first_true, second_true}
use Rattle.pm_script.proofs.Steps.{both, guarded}
use Rattle.pm_dump.specs.Dump.{DumpLine, HeadLine, ObjectLine, RootLine}
use Rattle.pm_dump.specs.Reading.{numeral_at, some_number, id_at, fields_at, counted_object, object_at, root_at, head_at}
use Rattle.pm_dump.proofs.LineLaws.{id_found}
use Rattle.pm_dump.specs.Read.{words_in, IsHead, IsRoot, IsObject, HasFields, LacksFields, LacksName, LacksForm}
use Rattle.pm_dump.specs.declared.fault.DumpCause.TheVariants as why
use Rattle.pm_dump.specs.declared.fault.DumpCause.{DumpCause}
use Rattle.pm_types.specs.declared.caused.Fault.{Fault}
use Rattle.pm_types.specs.declared.caused.Fault.TheVariants as line_fault

-- a text has some words
pub some_words : (text : Bor (List ℕ)) → (length (slice_split (λ b. nat_eq b 32) text.now) == 0) ≡ false
some_words text = grind (arith, nat_tests, length-slice_split (λ b. nat_eq b 32) text.now)

pub word_count : (text : Bor (List ℕ)) → length (slice_split (λ b. nat_eq b 32) text.now) ≡ count_by (λ b. nat_eq b 32) text.now + 1
word_count text = length-slice_split (λ b. nat_eq b 32) text.now

no_words : (words : List (List ℕ)) → (length words == 0) ≡ true → words ≡ []
no_words [] is = refl
no_words (word ∷ words) is = absurd (let bad : suc (length words) ≡ 0 = eqb-true (suc (length words)) 0 is in omega (arith, bad))

-- ---- heads

pub few_head : (words : List (List ℕ)) → length words < 3 → head_at words ≡ None
unfolding head_at
few_head [] few = refl
few_head (a ∷ []) few = refl
few_head (a ∷ b ∷ []) few = refl
few_head (a ∷ b ∷ d ∷ words) few = absurd (omega (arith, few))

many_words : (a b d : List ℕ) (rest : List (List ℕ)) → (length rest == 0) ≡ false → head_at (a ∷ b ∷ d ∷ rest) ≡ None
unfolding head_at
many_words a b d [] is = absurd (let bad : true ≡ false = is in cc bad)
many_words a b d (word ∷ rest) is = refl

pub more_head : (words : List (List ℕ)) (a b d : List ℕ) (rest : List (List ℕ)) → words ≡ a ∷ b ∷ d ∷ rest → (length rest == 0) ≡ false → head_at words ≡ None
more_head words a b d rest whole is = ap head_at whole ∙ many_words a b d rest is

head_by : (a b d : List ℕ) (p q : Bool) → pointwise ◌==◌ a (codes "dump") ≡ p → pointwise ◌==◌ b (codes "1") ≡ q → head_at (a ∷ b ∷ d ∷ []) ≡ (if p && q then option_map HeadLine (id_at d) else None)
unfolding head_at
head_by a b d p q is so = λ i. if is i && so i then option_map HeadLine (id_at d) else None

pub other_head : (words : List (List ℕ)) (a b d : List ℕ) (rest : List (List ℕ)) → words ≡ a ∷ b ∷ d ∷ rest → (length rest == 0) ≡ true → pointwise ◌==◌ a (codes "dump") ≡ false → head_at words ≡ None
other_head words a b d rest whole none is = ap head_at (whole ∙ ap (λ rest. a ∷ b ∷ d ∷ rest) (no_words rest none)) ∙ head_by a b d false (pointwise ◌==◌ b (codes "1")) is refl

false_second : (b : Bool) (o : Option DumpLine) → (if b && false then o else None) ≡ None
false_second true o = refl
false_second false o = refl

pub old_head : (words : List (List ℕ)) (a b d : List ℕ) (rest : List (List ℕ)) → words ≡ a ∷ b ∷ d ∷ rest → (length rest == 0) ≡ true → pointwise ◌==◌ b (codes "1") ≡ false → head_at words ≡ None
old_head words a b d rest whole none is =
    ap head_at (whole ∙ ap (λ rest. a ∷ b ∷ d ∷ rest) (no_words rest none)) ∙ head_by a b d (pointwise ◌==◌ a (codes "dump")) false refl is
    ∙ false_second (pointwise ◌==◌ a (codes "dump")) (option_map HeadLine (id_at d))

head_told : (words : List (List ℕ)) (result : Option ℕ) (read : Option ℕ) → ((n : ℕ) → read ≡ Some n → 1 ≤ n) → head_at words ≡ option_map HeadLine read → result ≡ option_map capped read → MatchOption result (head_at words ≡ None) (λ number. IsHead words number)
head_told words result None some whole is = subst (λ (r : Option ℕ). MatchOption r (head_at words ≡ None) (λ number. IsHead words number)) (sym is) whole
head_told words result (Some next) some whole is = subst (λ (r : Option ℕ). MatchOption r (head_at words ≡ None) (λ number. IsHead words number)) (sym is) (record { next = next; read = whole; some = some next refl; is = refl })

pub head_read : (words : List (List ℕ)) (a b d : List ℕ) (rest : List (List ℕ)) (result : Option ℕ) → words ≡ a ∷ b ∷ d ∷ rest → (length rest == 0) ≡ true → pointwise ◌==◌ a (codes "dump") ≡ true → pointwise ◌==◌ b (codes "1") ≡ true
    → result ≡ option_map capped (id_at d) → MatchOption result (head_at words ≡ None) (λ number. IsHead words number)
head_read words a b d rest result whole none one two is =
    head_told words result (id_at d) (λ n is. (id_found d n is).0) (ap head_at (whole ∙ ap (λ rest. a ∷ b ∷ d ∷ rest) (no_words rest none)) ∙ head_by a b d true true one two) is

-- ---- identities

-- ---- names with their identities

pub few_root : (words : List (List ℕ)) → length words < 2 → root_at words ≡ None
unfolding root_at
few_root [] few = refl
few_root (a ∷ []) few = refl
few_root (a ∷ b ∷ words) few = absurd (omega (arith, few))

many_root : (a b : List ℕ) (rest : List (List ℕ)) → (length rest == 0) ≡ false → root_at (a ∷ b ∷ rest) ≡ None
unfolding root_at
many_root a b [] is = absurd (let bad : true ≡ false = is in cc bad)
many_root a b (word ∷ rest) is = refl

pub more_root : (words : List (List ℕ)) (a b : List ℕ) (rest : List (List ℕ)) → words ≡ a ∷ b ∷ rest → (length rest == 0) ≡ false → root_at words ≡ None
more_root words a b rest whole is = ap root_at whole ∙ many_root a b rest is

root_lacks_id : (name : Option (List ℕ)) → (name >>= λ name. None >>= λ (id : ℕ). Some (RootLine name id)) ≡ None
root_lacks_id None = refl
root_lacks_id (Some name) = refl

none_mapped : (read : Option ℕ) → None ≡ option_map capped read → read ≡ None
none_mapped None is = refl
none_mapped (Some n) is = absurd (let bad : None ≡ Some (capped n) = is in cc bad)

pub root_no_id : (a b : List ℕ) → None ≡ option_map capped (id_at b) → root_at (a ∷ b ∷ []) ≡ None
unfolding root_at
root_no_id a b is = ap (λ (o : Option ℕ). name_of a >>= λ name. o >>= λ id. Some (RootLine name id)) (none_mapped (id_at b) is) ∙ root_lacks_id (name_of a)

pub root_no_name : (a b : List ℕ) → name_of a ≡ None → root_at (a ∷ b ∷ []) ≡ None
unfolding root_at
root_no_name a b is = ap (λ (o : Option (List ℕ)). o >>= λ name. id_at b >>= λ id. Some (RootLine name id)) is

mapped_some : (read : Option ℕ) (number : ℕ) → Some number ≡ option_map capped read → (n : ℕ) × (read ≡ Some n) × (number ≡ capped n)
mapped_some None number is = absurd (let bad : Some number ≡ None = is in cc bad)
mapped_some (Some n) number is = (n, refl, cc is)

pub root_read : (a b name : List ℕ) (number : ℕ) → name_of a ≡ Some name → Some number ≡ option_map capped (id_at b) → IsRoot (a ∷ b ∷ []) name number
unfolding root_at
root_read a b name number named is =
    let it = mapped_some (id_at b) number is in
    record {
      id = it.0;
      some = (id_found b it.0 it.1).0;
      read = ap (λ (o : Option (List ℕ)). o >>= λ name. id_at b >>= λ id. Some (RootLine name id)) named ∙ ap (λ (o : Option ℕ). o >>= λ id. Some (RootLine name id)) it.1;
      is = it.2;
    }

-- ---- fields

numeral_none : (word : List ℕ) (words : List (List ℕ)) (b : Bool) → is_numeral word ≡ b → (b && list_all is_numeral words) ≡ false → (list_all is_numeral words ≡ false → fields_at words ≡ None) → fields_at (word ∷ words) ≡ None
numeral_none word words false is so more =
    ap (λ (b : Bool). option_map some_number (if b then Some (digits_value 10 word) else None) >>= λ f. fields_at words >>= λ fs. Some (f ∷ fs)) is
numeral_none word words true is so more =
    ap (λ (b : Bool). option_map some_number (if b then Some (digits_value 10 word) else None) >>= λ f. fields_at words >>= λ fs. Some (f ∷ fs)) is
    ∙ ap (λ (o : Option (List (Option ℕ))). o >>= λ fs. Some (some_number (digits_value 10 word) ∷ fs)) (more so)

no_fields : (words : List (List ℕ)) → list_all is_numeral words ≡ false → fields_at words ≡ None
no_fields [] is = absurd (let bad : true ≡ false = is in cc bad)
no_fields (word ∷ words) is = numeral_none word words (is_numeral word) refl is (no_fields words)

-- as many fields are read as there are words, if each is a numeral
pub fields_read : (words : List (List ℕ)) → list_all is_numeral words ≡ true → (fields : List (Option ℕ)) × (fields_at words ≡ Some fields) × (length fields ≡ length words)
fields_read [] is = ([], refl, refl)
fields_read (word ∷ words) is =
    let it = fields_read words (second_true (is_numeral word) (list_all is_numeral words) is) in
    let one = first_true (is_numeral word) (list_all is_numeral words) is in (
      some_number (digits_value 10 word) ∷ it.0,
      ap (λ (b : Bool). option_map some_number (if b then Some (digits_value 10 word) else None) >>= λ f. fields_at words >>= λ fs. Some (f ∷ fs)) one
          ∙ ap (λ (o : Option (List (Option ℕ))). o >>= λ fs. Some (some_number (digits_value 10 word) ∷ fs)) it.1,
      ap suc it.2,
    )

pub fields_lack : (count : List ℕ) (words : List (List ℕ)) → list_all is_numeral words ≡ false → LacksFields count words
fields_lack count words is fields read said = let bad : ◌≡◌ {A = Option (List (Option ℕ))} None (Some fields) = sym (no_fields words is) ∙ read in cc bad

pub count_lacks : (count : List ℕ) (words : List (List ℕ)) → None ≡ option_map capped (numeral_at count) → LacksFields count words
count_lacks count words is fields read said = let bad : ◌≡◌ {A = Option ℕ} None (Some (length fields)) = sym (none_mapped (numeral_at count) is) ∙ said in cc bad

same_some : {A : Type 0} (x y : A) → ◌≡◌ {A = Option A} (Some x) (Some y) → x ≡ y
same_some x y is = cc is

pub other_count : (count : List ℕ) (words : List (List ℕ)) (said : ℕ) → list_all is_numeral words ≡ true → Some said ≡ option_map capped (numeral_at count) → length words ≤ 2 ^ 32 → (said ≡ length words → ⊥) → LacksFields count words
other_count count words said all is few other fields read so =
    let it = fields_read words all in
    let same : fields ≡ it.0 = same_some fields it.0 (sym read ∙ it.1) in
    let number = mapped_some (numeral_at count) said is in
    let n : number.0 ≡ length fields = same_some number.0 (length fields) (sym number.1 ∙ so) in
    let long : length fields ≡ length words = ap length same ∙ it.2 in
    other (number.2 ∙ (let small : capped number.0 ≡ length words = omega (arith, n, long, few) in small))

pub same_count : (count : List ℕ) (words : List (List ℕ)) (said : ℕ) → list_all is_numeral words ≡ true → Some said ≡ option_map capped (numeral_at count) → length words ≤ 2 ^ 32 → said ≡ length words → HasFields count words said
same_count count words said all is few same =
    let it = fields_read words all in
    let number = mapped_some (numeral_at count) said is in
    let n : number.0 ≡ said = (let bound = number.2 in omega (arith, bound, few, same)) in
    record { fields = it.0; each = it.1; read = number.1 ∙ ap (λ (n : ℕ). Some n) n; is = same ∙ sym it.2 }

-- the words that are left, by what is left
pub count_is : (words : Option (Bor (List ℕ))) (text : Bor (List ℕ)) (n : ℕ) → words ≡ Some text → n ≡ count_by (λ b. nat_eq b 32) text.now → n + 1 ≡ length (words_in words)
count_is words text n is count = ap (λ n. n + 1) count ∙ sym (word_count text) ∙ ap (λ (o : Option (Bor (List ℕ))). length (words_in o)) (sym is)

pub spent_not : (words : Option (Bor (List ℕ))) (text : Bor (List ℕ)) → words ≡ Some text → false ≡ (length (words_in words) == 0)
spent_not words text is = sym (ap (λ (o : Option (Bor (List ℕ))). length (words_in o) == 0) is ∙ some_words text)

pub root_name_lacks : (f : Fault DumpCause) (a b : List ℕ) → LacksName (name_of a) f → LacksForm (root_at (a ∷ b ∷ [])) f
root_name_lacks (line_fault.Bad why.Form) a b it = root_no_name a b it
root_name_lacks (line_fault.Bad why.Order) a b it = it
root_name_lacks (line_fault.Bad why.Limit) a b it = it
root_name_lacks (line_fault.Bad why.Dangling) a b it = it
root_name_lacks (line_fault.Memory _) a b it = tt

-- ---- objects

pub few_object : (words : List (List ℕ)) → length words < 3 → object_at words ≡ None
unfolding object_at
few_object [] few = refl
few_object (a ∷ []) few = refl
few_object (a ∷ b ∷ []) few = refl
few_object (a ∷ b ∷ d ∷ words) few = absurd (omega (arith, few))

none_by : (read : Option DumpLine) → ((line : DumpLine) → read ≡ Some line → ⊥) → read ≡ None
none_by None never = refl
none_by (Some line) never = absurd (never line refl)

-- what was read of the words of an object
record ObjectRead (a b d : List ℕ) (rest : List (List ℕ)) : Type 0 where
  id : ℕ
  count : ℕ
  bytes : List ℕ
  fields : List (Option ℕ)
  is_id : id_at a ≡ Some id
  is_count : numeral_at b ≡ Some count
  is_bytes : hex_of d ≡ Some bytes
  is_fields : fields_at rest ≡ Some fields
  same : length fields ≡ count

object_took : (a b d : List ℕ) (rest : List (List ℕ)) (line : DumpLine) → object_at (a ∷ b ∷ d ∷ rest) ≡ Some line → ObjectRead a b d rest
unfolding object_at
object_took a b d rest line is =
    let one = both (id_at a) (λ id. numeral_at b >>= λ count. hex_of d >>= λ bytes. fields_at rest >>= counted_object id count bytes) line is in
    let two = both (numeral_at b) (λ count. hex_of d >>= λ bytes. fields_at rest >>= counted_object one.0 count bytes) line one.2 in
    let three = both (hex_of d) (λ bytes. fields_at rest >>= counted_object one.0 two.0 bytes) line two.2 in
    let four = both (fields_at rest) (counted_object one.0 two.0 three.0) line three.2 in
    let five = guarded (length four.0 == two.0) (ObjectLine one.0 (record { fields = four.0; bytes = three.0 })) line four.2 in
    record { id = one.0; count = two.0; bytes = three.0; fields = four.0; is_id = one.1; is_count = two.1; is_bytes = three.1; is_fields = four.1; same = eqb-true (length four.0) two.0 five.0 }

some_not : {A : Type 0} (x : A) (o : Option A) → o ≡ None → o ≡ Some x → ⊥
some_not x None none some = cc some
some_not x (Some y) none some = cc none

pub object_no_id : (a b d : List ℕ) (rest : List (List ℕ)) → None ≡ option_map capped (id_at a) → object_at (a ∷ b ∷ d ∷ rest) ≡ None
object_no_id a b d rest none =
    none_by (object_at (a ∷ b ∷ d ∷ rest)) (λ line is. let it = object_took a b d rest line is in some_not it.id (id_at a) (none_mapped (id_at a) none) it.is_id)

pub object_no_fields : (a b d : List ℕ) (rest : List (List ℕ)) → LacksFields b rest → object_at (a ∷ b ∷ d ∷ rest) ≡ None
object_no_fields a b d rest lacks =
    none_by (object_at (a ∷ b ∷ d ∷ rest))
    (λ line is. let it = object_took a b d rest line is in lacks it.fields it.is_fields (it.is_count ∙ ap (λ (n : ℕ). Some n) (sym it.same)))

object_no_bytes : (a b d : List ℕ) (rest : List (List ℕ)) → hex_of d ≡ None → object_at (a ∷ b ∷ d ∷ rest) ≡ None
object_no_bytes a b d rest none = none_by (object_at (a ∷ b ∷ d ∷ rest)) (λ line is. let it = object_took a b d rest line is in some_not it.bytes (hex_of d) none it.is_bytes)

pub object_bytes_lack : (f : Fault DumpCause) (a b d : List ℕ) (rest : List (List ℕ)) → LacksName (hex_of d) f → LacksForm (object_at (a ∷ b ∷ d ∷ rest)) f
object_bytes_lack (line_fault.Bad why.Form) a b d rest it = object_no_bytes a b d rest it
object_bytes_lack (line_fault.Bad why.Order) a b d rest it = it
object_bytes_lack (line_fault.Bad why.Limit) a b d rest it = it
object_bytes_lack (line_fault.Bad why.Dangling) a b d rest it = it
object_bytes_lack (line_fault.Memory _) a b d rest it = tt

same_test : (n : ℕ) → (n == n) ≡ true
same_test n = grind (arith, nat_tests)

pub object_read : (a b d : List ℕ) (rest : List (List ℕ)) (number count : ℕ) (bytes : List ℕ) → Some number ≡ option_map capped (id_at a) → HasFields b rest count → hex_of d ≡ Some bytes → IsObject (a ∷ b ∷ d ∷ rest) number bytes count rest
unfolding object_at
object_read a b d rest number count bytes is has spelled =
    let it = mapped_some (id_at a) number is in
    let said : numeral_at b ≡ Some (length has.fields) = has.read ∙ ap (λ (n : ℕ). Some n) has.is in
    record {
      id = it.0;
      fields = has.fields;
      read = ap (λ (o : Option ℕ). o >>= λ id. numeral_at b >>= λ count. hex_of d >>= λ bytes. fields_at rest >>= counted_object id count bytes) it.1
          ∙ ap (λ (o : Option ℕ). o >>= λ count. hex_of d >>= λ bytes. fields_at rest >>= counted_object it.0 count bytes) said
          ∙ ap (λ (o : Option (List ℕ)). o >>= λ bytes. fields_at rest >>= counted_object it.0 (length has.fields) bytes) spelled
          ∙ ap (λ (o : Option (List (Option ℕ))). o >>= counted_object it.0 (length has.fields) bytes) has.each
          ∙ ap (λ (t : Bool). if t then Some (ObjectLine it.0 (record { fields = has.fields; bytes = bytes })) else None) (same_test (length has.fields));
      is = it.2;
      counted = has.is;
      each = has.each;
    }
