-- A line is read as what its words spell, and as nothing else, in each grammar of lines.
use Rattle.std.proofs.Common.{◌≡◌, ℕ, ◌≤◌, ◌==◌, Bool, true, false, List, [], ◌∷◌, length, Result, Ok, Err, refl, ap, sym, subst, ◌∙◌, arith, nat_lt, lit<, if◌then◌else◌}
use Rattle.std.proofs.lemmas.Bool.{eqb-true}
use Rattle.std.proofs.lemmas.Bool.Decides.{nat_tests}
use Rattle.std.proofs.lemmas.List.Splits.{join_with_byte-slice_split}
use Rattle.std.specs.Option.{ok_or}
use Rattle.std.specs.List.{AllByRecursion, join_with_byte}
use Rattle.pm_types.specs.Results.{◌>>=◌}
use Rattle.pm_types.proofs.Results.{bind_ok}
use Rattle.pm_script.specs.declared.fault.Cause.{Cause}
use Rattle.pm_script.specs.declared.fault.Cause.TheVariants as cause
use Rattle.pm_script.specs.declared.verb.Dialect.{Dialect}
use Rattle.pm_script.specs.declared.verb.Verb.{Verb}
use Rattle.pm_script.specs.declared.verb.First.{First}
use Rattle.pm_script.specs.Lines.{is_silent, words_of}
use Rattle.pm_script.specs.Words.{word_of, kinds, belongs, first_word, IsFirst, Value, AreSpelled}
use Rattle.pm_script.specs.Values.{first_at, verb_at}
use Rattle.pm_script.specs.Taking.{Asked}
use Rattle.pm_script.specs.Reading.{counted_at, said_at, first_said_at, body_at}
use Rattle.pm_script.proofs.ResultSteps.{some_ok}
use Rattle.pm_script.proofs.FirstLaws.{first_found, first_again, verb_found, verb_again}
use Rattle.pm_script.proofs.SaidLaws.{as_many}
use Rattle.pm_script.proofs.TakingLaws.{IsGrammar, IsTold, told_found}
use Rattle.pm_script.proofs.PlainWords.{IsPlain, Lacks, values_plain, verb_plain, first_plain, all_lack, split_joined, joined_lacks, begun_spoken}

-- the words spell this: a first word, a verb that belongs after it, and values
pub record IsSaid (d : Dialect) (words : List (List ℕ)) (f : First) (v : Verb) (values : List Value) : Type 0 where
  pub rest : List (List ℕ)
  pub first : IsFirst f
  pub may : belongs d f v ≡ true
  pub spelled : AreSpelled values rest
  pub whole : words ≡ first_word f ∷ word_of v ∷ rest

-- and so does the body, which is not too long
pub record Spells (d : Dialect) (body : List ℕ) (f : First) (v : Verb) (values : List Value) : Type 0 where
  pub words : List (List ℕ)
  pub first : IsFirst f
  pub may : belongs d f v ≡ true
  pub spelled : AreSpelled values words
  pub joined : body ≡ join_with_byte 32 (first_word f ∷ word_of v ∷ words)
  pub short : length body ≤ 16384

-- the words after the first spell what the line says
record IsAsked {L : Type 0} (d : Dialect) (first_of : L → First) (said : L → Verb × List Value) (f : First) (words : List (List ℕ)) (line : L) : Type 0 where
  rest : List (List ℕ)
  first : first_of line ≡ f
  may : belongs d (first_of line) (said line).0 ≡ true
  spelled : AreSpelled (said line).1 rest
  whole : words ≡ word_of (said line).0 ∷ rest

counted_by : {L : Type 0} (test : Bool) (read : Result L Cause) (line : L) → (if test then read else Err cause.Count) ≡ Ok line → (test ≡ true) × (read ≡ Ok line)
counted_by true read line is = (refl, is)
counted_by false read line is = absurd cc

counted_found : {L : Type 0} {d : Dialect} {asked : Asked L} {first_of : L → First} {said : L → Verb × List Value} → IsGrammar d asked first_of said → (f : First) (v : Verb) (words : List (List ℕ)) (line : L)
    → belongs d f v ≡ true → counted_at asked f v words ≡ Ok line → IsTold first_of said f v words line
unfolding counted_at
counted_found {asked = asked} g f v words line may is =
    let here = counted_by (length words == length (kinds v)) (asked f v words) line is in
    told_found g f v words line may (eqb-true _ _ here.0) here.1

asked_by : {L : Type 0} (d : Dialect) (first_of : L → First) (said : L → Verb × List Value) (f : First) (v : Verb) (word : List ℕ) (words : List (List ℕ)) (line : L) → belongs d f v ≡ true → word ≡ word_of v → IsTold first_of said f v words line
    → IsAsked d first_of said f (word ∷ words) line
asked_by d first_of said f v word words line may names told = record {
  rest = words;
  first = told.says.first;
  may = (λ i. belongs d (told.says.first i) (told.says.said_so i).0) ∙ may;
  spelled = subst (λ (vs : List Value). AreSpelled vs words) (sym (ap (λ (p : Verb × List Value). p.1) told.says.said_so)) told.spelled;
  whole = ap (λ w. w ∷ words) (names ∙ sym (ap (λ (p : Verb × List Value). word_of p.0) told.says.said_so));
}

asked_found : {L : Type 0} {d : Dialect} {asked : Asked L} {first_of : L → First} {said : L → Verb × List Value} → IsGrammar d asked first_of said → (f : First) (words : List (List ℕ)) (line : L) → said_at d asked f words ≡ Ok line → IsAsked d first_of said f words line
unfolding said_at
asked_found g f [] line is = absurd cc
asked_found {d = d} {asked = asked} {first_of = first_of} {said = said} g f (word ∷ words) line is =
    let named = bind_ok (ok_or (verb_at d f word) cause.Word) (λ v. counted_at asked f v words) line is in
    let verb = verb_found d f word named.0 (some_ok _ _ _ named.1) in
    asked_by d first_of said f named.0 word words line verb.1 verb.0 (counted_found g f named.0 words line verb.1 named.2)

said_by : {L : Type 0} (d : Dialect) (first_of : L → First) (said : L → Verb × List Value) (f : First) (word : List ℕ) (words : List (List ℕ)) (line : L) → IsFirst f × (word ≡ first_word f) → IsAsked d first_of said f words line
    → IsSaid d (word ∷ words) (first_of line) (said line).0 (said line).1
said_by d first_of said f word words line begins asked =
    record {
      rest = asked.rest;
      first = subst IsFirst (sym asked.first) begins.0;
      may = asked.may;
      spelled = asked.spelled;
      whole = (λ i. (begins.1 ∙ ap first_word (sym asked.first)) i ∷ asked.whole i);
    }

-- words that are read as a line spell it
pub said_found : {L : Type 0} {d : Dialect} {asked : Asked L} {first_of : L → First} {said : L → Verb × List Value} → IsGrammar d asked first_of said → (words : List (List ℕ)) (line : L)
    → first_said_at d asked words ≡ Ok line → IsSaid d words (first_of line) (said line).0 (said line).1
unfolding first_said_at
said_found g [] line is = absurd cc
said_found {d = d} {asked = asked} {first_of = first_of} {said = said} g (word ∷ words) line is =
    let begins = bind_ok (ok_or (first_at word) cause.Client) (λ f. said_at d asked f words) line is in
    said_by d first_of said begins.0 word words line (first_found word begins.0 (some_ok _ _ _ begins.1)) (asked_found g begins.0 words line begins.2)

pub same_count : (m n : ℕ) → m ≡ n → (m == n) ≡ true
same_count m n is = grind (arith, nat_tests)

counted_again : {L : Type 0} {d : Dialect} {asked : Asked L} {first_of : L → First} {said : L → Verb × List Value} → IsGrammar d asked first_of said → (line : L) (words : List (List ℕ)) → AreSpelled (said line).1 words
    → counted_at asked (first_of line) (said line).0 words ≡ Ok line
unfolding counted_at
counted_again {asked = asked} {first_of = first_of} {said = said} g line words are =
    ap (λ b. if b then asked (first_of line) (said line).0 words else Err cause.Count) (same_count _ _ (as_many (said line).1 words are ∙ ap length (g.of_kinds line))) ∙ g.again line words are

asked_again : {L : Type 0} {d : Dialect} {asked : Asked L} {first_of : L → First} {said : L → Verb × List Value} → IsGrammar d asked first_of said → (line : L) (words : List (List ℕ)) → belongs d (first_of line) (said line).0 ≡ true → AreSpelled (said line).1 words
    → said_at d asked (first_of line) (word_of (said line).0 ∷ words) ≡ Ok line
unfolding said_at
asked_again {d = d} {asked = asked} {first_of = first_of} {said = said} g line words may are =
    ap (λ o. ok_or o cause.Word >>= λ v. counted_at asked (first_of line) v words) (verb_again d (first_of line) (said line).0 may) ∙ counted_again g line words are

said_so : {L : Type 0} {d : Dialect} {asked : Asked L} {first_of : L → First} {said : L → Verb × List Value} → IsGrammar d asked first_of said → (line : L) (words : List (List ℕ)) → IsFirst (first_of line) → belongs d (first_of line) (said line).0 ≡ true → AreSpelled (said line).1 words
    → first_said_at d asked (first_word (first_of line) ∷ word_of (said line).0 ∷ words) ≡ Ok line
unfolding first_said_at
said_so {d = d} {asked = asked} {first_of = first_of} {said = said} g line words first may are =
    ap (λ o. ok_or o cause.Client >>= λ f. said_at d asked f (word_of (said line).0 ∷ words)) (first_again (first_of line) first) ∙ asked_again g line words may are

-- words that spell a line are read as it
pub said_again : {L : Type 0} {d : Dialect} {asked : Asked L} {first_of : L → First} {said : L → Verb × List Value} → IsGrammar d asked first_of said → (words : List (List ℕ)) (line : L)
    → IsSaid d words (first_of line) (said line).0 (said line).1 → first_said_at d asked words ≡ Ok line
said_again {d = d} {asked = asked} g words line is = ap (first_said_at d asked) is.whole ∙ said_so g line is.rest is.first is.may is.spelled

long_by : {L : Type 0} (test : Bool) (read : Result L Cause) (line : L) → (if test then Err cause.LineTooLong else read) ≡ Ok line → (test ≡ false) × (read ≡ Ok line)
long_by true read line is = absurd cc
long_by false read line is = (refl, is)

pub not_long : (m n : ℕ) → nat_lt m n ≡ false → n ≤ m
not_long m n is = grind (arith, nat_tests)

pub within : (m n : ℕ) → n ≤ m → nat_lt m n ≡ false
within m n le = grind (arith, nat_tests)

-- what is read of a line is what it spells
pub spelling_found : {L : Type 0} {d : Dialect} {asked : Asked L} {first_of : L → First} {said : L → Verb × List Value} → IsGrammar d asked first_of said → (body : List ℕ) (line : L)
    → body_at d asked body ≡ Ok line → Spells d body (first_of line) (said line).0 (said line).1
unfolding body_at
spelling_found {d = d} {asked = asked} g body line is =
    let here = long_by (nat_lt 16384 (length body)) (first_said_at d asked (words_of body)) line is in
    let words = said_found g (words_of body) line here.1 in
    record {
      words = words.rest;
      first = words.first;
      may = words.may;
      spelled = words.spelled;
      joined = sym (join_with_byte-slice_split 32 body) ∙ ap (join_with_byte 32) words.whole;
      short = not_long 16384 (length body) here.0;
    }

-- the words of a line are plain
plain : (d : Dialect) (body : List ℕ) (f : First) (v : Verb) (values : List Value) → (is : Spells d body f v values) → AllByRecursion IsPlain (first_word f ∷ word_of v ∷ is.words)
plain d body f v values is = (first_plain f is.first, (verb_plain v, values_plain values is.words is.spelled))

words_again : (d : Dialect) (body : List ℕ) (f : First) (v : Verb) (values : List Value) → (is : Spells d body f v values) → words_of body ≡ first_word f ∷ word_of v ∷ is.words
words_again d body f v values is =
    ap words_of is.joined
    ∙ split_joined 32 (first_word f) (word_of v ∷ is.words) (all_lack 32 (lit< tt) (first_word f ∷ word_of v ∷ is.words) (plain d body f v values is))

-- a line that is spelled is read
pub spelling_again : {L : Type 0} {d : Dialect} {asked : Asked L} {first_of : L → First} {said : L → Verb × List Value} → IsGrammar d asked first_of said → (body : List ℕ) (line : L)
    → Spells d body (first_of line) (said line).0 (said line).1 → body_at d asked body ≡ Ok line
unfolding body_at
spelling_again {d = d} {asked = asked} {first_of = first_of} {said = said} g body line is =
    ap (λ b. if b then Err cause.LineTooLong else first_said_at d asked (words_of body)) (within 16384 (length body) is.short)
    ∙ said_again g (words_of body) line
    (record { rest = is.words; first = is.first; may = is.may; spelled = is.spelled; whole = words_again d body (first_of line) (said line).0 (said line).1 is })

-- it says something
pub spelling_spoken : (d : Dialect) (body : List ℕ) (f : First) (v : Verb) (values : List Value) → Spells d body f v values → is_silent body ≡ false
spelling_spoken d body f v values is = ap is_silent is.joined ∙ begun_spoken f (word_of v) is.words is.first

-- and it has no newline
pub spelling_lacks : (d : Dialect) (body : List ℕ) (f : First) (v : Verb) (values : List Value) → Spells d body f v values → Lacks 10 body
spelling_lacks d body f v values is =
    subst (Lacks 10) (sym is.joined)
    (joined_lacks 10 32 refl (first_word f ∷ word_of v ∷ is.words) (all_lack 10 (lit< tt) (first_word f ∷ word_of v ∷ is.words) (plain d body f v values is)))
