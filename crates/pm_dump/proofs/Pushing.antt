-- Fields that are put behind others one by one, as words spell them.
use Rattle.std.proofs.Common.{◌≡◌, ℕ, ◌<◌, ◌≤◌, Bool, true, false, List, [], ◌∷◌, ◌++◌, Option, Some, None, IsSome, IfSome, nat_lt, refl, sym, ap, subst, ◌∙◌, arith, append_assoc, append-nil, if◌then◌else◌}
use Rattle.std.proofs.lemmas.Bool.Decides.{nat_tests}
use Rattle.std.specs.List.{AllByRecursion}
use Rattle.std.specs.Option.{option_map}
use Rattle.pm_types.specs.Counts.{capped}
use Rattle.pm_types.specs.Options.{◌>>=◌}
use Rattle.pm_script.proofs.Steps.{both, mapped}
use Rattle.pm_dump.specs.Reading.{numeral_at, some_number, field_at, fields_at}

-- each of these is null or below the limit
abbrev pub AreBelow : ℕ → List (Option ℕ) → Type 0
AreBelow next fields = AllByRecursion (λ (field : Option ℕ). IfSome field (λ to. to < next)) fields

-- what was put so far, of what all words spell, where these are left
pub record Pushed (first now : List (Option ℕ)) (next : ℕ) (all left : List (List ℕ)) : Type 0 where
  pub front : List (Option ℕ)
  pub is : now ≡ first ++ front
  pub held : AreBelow next front
  pub back : List (Option ℕ)
  pub more : fields_at left ≡ Some back
  pub whole : fields_at all ≡ Some (front ++ back)

found_of : {A : Type 0} (o : Option A) → IsSome o → (x : A) × (o ≡ Some x)
found_of None is = cc is
found_of (Some x) is = (x, refl)

pub pushed_none : (first : List (Option ℕ)) (next : ℕ) (all : List (List ℕ)) → IsSome (fields_at all) → Pushed first first next all all
pushed_none first next all some = let it = found_of (fields_at all) some in record { front = []; is = sym (append-nil first); held = tt; back = it.0; more = it.1; whole = it.1 }

-- what the first word and the rest spell
record First (word : List ℕ) (rest : List (List ℕ)) (fields : List (Option ℕ)) : Type 0 where
  number : ℕ
  others : List (Option ℕ)
  is_number : numeral_at word ≡ Some number
  is_others : fields_at rest ≡ Some others
  is : some_number number ∷ others ≡ fields

first_of : (word : List ℕ) (rest : List (List ℕ)) (fields : List (Option ℕ)) → fields_at (word ∷ rest) ≡ Some fields → First word rest fields
first_of word rest fields is =
    let one = both (field_at word) (λ f. fields_at rest >>= λ fs. Some (f ∷ fs)) fields is in
    let two = both (fields_at rest) (λ fs. Some (one.0 ∷ fs)) fields one.2 in
    let number = mapped some_number (numeral_at word) one.0 one.1 in
    let same : one.0 ∷ two.0 ≡ fields = cc (two.2) in
    record { number = number.0; others = two.0; is_number = number.1; is_others = two.1; is = ap (λ (f : Option ℕ). f ∷ two.0) number.2 ∙ same }

cap_of : (read : Option ℕ) (number n : ℕ) → Some number ≡ option_map capped read → read ≡ Some n → number ≡ capped n
cap_of read number n is found = let same : ◌≡◌ {A = Option ℕ} (Some number) (Some (capped n)) = is ∙ ap (option_map capped) found in cc same

small : (number n next : ℕ) → number ≡ capped n → number < next → next ≤ 4294967296 → number ≡ n
small number n next is lt last = omega (arith, is, lt, last)

field_by : (n next : ℕ) (b : Bool) → n < next → IfSome (if b then Some n else None) (λ to. to < next)
field_by n next true lt = lt
field_by n next false lt = tt

field_below : (n next : ℕ) → n < next → IfSome (some_number n) (λ to. to < next)
field_below n next lt = field_by n next (nat_lt 0 n) lt

below_more : (next : ℕ) (front : List (Option ℕ)) (field : Option ℕ) → AreBelow next front → IfSome field (λ to. to < next) → AreBelow next (front ++ field ∷ [])
below_more next [] field held is = (is, tt)
below_more next (f ∷ front) field held is = (held.0, below_more next front field held.1 is)

-- one field more
pub pushed_more : (first now new : List (Option ℕ)) (next number : ℕ) (all left rest : List (List ℕ)) (word : List ℕ) (field : Option ℕ) → Pushed first now next all left → left ≡ word ∷ rest → Some number ≡ option_map capped (numeral_at word) → number < next
    → next ≤ 4294967296 → field ≡ some_number number → new ≡ now ++ field ∷ [] → Pushed first new next all rest
pushed_more first now new next number all left rest word field so whole is lt last made pushed =
    let it = first_of word rest so.back (sym (ap fields_at whole) ∙ so.more) in
    let same = small number it.number next (cap_of (numeral_at word) number it.number is it.is_number) lt last in
    let f : field ≡ some_number it.number = made ∙ ap some_number same in
    record {
      front = so.front ++ field ∷ [];
      is = pushed ∙ ap (λ (xs : List (Option ℕ)). xs ++ field ∷ []) so.is ∙ append_assoc first so.front (field ∷ []);
      held = below_more next so.front field so.held (subst (λ (f : Option ℕ). IfSome f (λ to. to < next)) (sym made) (field_below number next lt));
      back = it.others;
      more = it.is_others;
      whole = so.whole ∙ ap (λ (back : List (Option ℕ)). Some (so.front ++ back)) (sym it.is ∙ ap (λ (f : Option ℕ). f ∷ it.others) (sym f))
          ∙ ap (λ (fs : List (Option ℕ)). Some fs) (sym (append_assoc so.front (field ∷ []) it.others));
    }

over_by : (next n : ℕ) (b : Bool) → nat_lt 0 n ≡ b → 0 < next → next ≤ n → IfSome (if b then Some n else None) (λ to. to < next) → ⊥
over_by next n true is some le lt = omega (arith, le, lt)
over_by next n false is some le lt = let none : n ≤ 0 = grind (arith, nat_tests, is) in omega (arith, le, some, none)

not_below : (next n : ℕ) (front others : List (Option ℕ)) → 0 < next → next ≤ n → AreBelow next (front ++ some_number n ∷ others) → ⊥
not_below next n [] others some le held = over_by next n (nat_lt 0 n) refl some le held.0
not_below next n (f ∷ front) others some le held = not_below next n front others some le held.1

same_some : {A : Type 0} (x y : A) → ◌≡◌ {A = Option A} (Some x) (Some y) → x ≡ y
same_some x y is = cc is

cap_over : (number n next : ℕ) → number ≡ capped n → next ≤ number → next ≤ 4294967296 → next ≤ n
cap_over number n next is le last = omega (arith, is, le, last)

-- one over its limit
pub pushed_over : (first now : List (Option ℕ)) (next number : ℕ) (all left rest : List (List ℕ)) (word : List ℕ) → Pushed first now next all left → left ≡ word ∷ rest → Some number ≡ option_map capped (numeral_at word) → next ≤ number
    → 0 < next → next ≤ 4294967296 → (fields : List (Option ℕ)) → fields_at all ≡ Some fields → AreBelow next fields → ⊥
pushed_over first now next number all left rest word so whole is le some last fields read held =
    let it = first_of word rest so.back (sym (ap fields_at whole) ∙ so.more) in
    let over = cap_over number it.number next (cap_of (numeral_at word) number it.number is it.is_number) le last in
    let same : fields ≡ so.front ++ some_number it.number ∷ it.others = same_some fields (so.front ++ some_number it.number ∷ it.others) (sym read ∙ so.whole ∙ ap (λ (back : List (Option ℕ)). Some (so.front ++ back)) (sym it.is)) in
    not_below next it.number so.front it.others some over (subst (AreBelow next) same held)
