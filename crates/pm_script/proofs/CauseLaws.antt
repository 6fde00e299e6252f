-- The cause that is told of a bad line is the first that applies, and the first that applies is told.
use Rattle.std.proofs.Common.{◌≡◌, ◌⊎◌, inl, inr, ℕ, ◌<◌, ◌≤◌, ◌==◌, Bool, true, false, List, [], ◌∷◌, length, Option, Some, None, Ok, Err, refl, ap, sym, subst, ◌∙◌, arith, nat_lt, if◌then◌else◌}
use Rattle.std.proofs.lemmas.Bool.{eqb-true}
use Rattle.std.proofs.lemmas.Bool.Decides.{nat_tests}
use Rattle.std.specs.Option.{ok_or}
use Rattle.pm_types.specs.Results.{◌>>=◌}
use Rattle.pm_script.specs.declared.fault.Cause.{Cause}
use Rattle.pm_script.specs.declared.fault.Cause.TheVariants as cause
use Rattle.pm_script.specs.declared.verb.Dialect.{Dialect}
use Rattle.pm_script.specs.declared.verb.Verb.{Verb}
use Rattle.pm_script.specs.declared.verb.Kind.{Kind}
use Rattle.pm_script.specs.declared.verb.Kind.TheVariants as kind
use Rattle.pm_script.specs.declared.verb.First.{First}
use Rattle.pm_script.specs.Lines.{words_of}
use Rattle.pm_script.specs.Words.{word_of, kinds, belongs, kind_cause, first_word, IsFirst, Value}
use Rattle.pm_script.specs.Values.{first_at, verb_at}
use Rattle.pm_script.specs.Taking.{Asked}
use Rattle.pm_script.specs.Reading.{counted_at, said_at, first_said_at, body_at}
use Rattle.pm_script.specs.Bad.{LacksFirst, LacksVerb, Asks, HasOtherCount, IsFirstWrong, HasWrongWord, IsCause}
use Rattle.pm_script.proofs.ResultSteps.{some_ok, none_err}
use Rattle.pm_script.proofs.FirstLaws.{first_found, first_again, verb_found, verb_again}
use Rattle.pm_script.proofs.TakingLaws.{IsGrammar, wrong_found, wrong_again}
use Rattle.pm_script.proofs.BodyLaws.{same_count, within, not_long}
use Rattle.pm_types.proofs.Results.{either_fails}

-- what the words of a line that is not too long tell
abbrev pub IsWordsCause : Dialect → Cause → List (List ℕ) → Type 0
IsWordsCause d cause.LineTooLong words = ⊥
IsWordsCause d cause.Client words = LacksFirst words
IsWordsCause d cause.Word words = LacksVerb d words
IsWordsCause d cause.Count words = HasOtherCount d words
IsWordsCause d c words = HasWrongWord d words c

-- a cause of a single word
is_word_cause : Cause → Bool
is_word_cause cause.LineTooLong = false
is_word_cause cause.Client = false
is_word_cause cause.Word = false
is_word_cause cause.Count = false
is_word_cause c = true

of_word : (k : Kind) → is_word_cause (kind_cause k) ≡ true
unfolding is_word_cause
of_word kind.Register = refl
of_word kind.Number = refl
of_word kind.Hex = refl
of_word kind.Name = refl

wrong_of_word : (ks : List Kind) (words : List (List ℕ)) (c : Cause) → IsFirstWrong ks words c → is_word_cause c ≡ true
wrong_of_word [] words c is = absurd is
wrong_of_word (k ∷ ks) [] c is = absurd is
wrong_of_word (k ∷ ks) (word ∷ words) c (inl (is, none)) = sym (ap is_word_cause is) ∙ of_word k
wrong_of_word (k ∷ ks) (word ∷ words) c (inr (one, later)) = wrong_of_word ks words c later

word_cause : (d : Dialect) (c : Cause) (words : List (List ℕ)) → HasWrongWord d words c → is_word_cause c ≡ true → IsWordsCause d c words
unfolding is_word_cause
word_cause d cause.LineTooLong words has is = absurd cc
word_cause d cause.Client words has is = absurd cc
word_cause d cause.Word words has is = absurd cc
word_cause d cause.Count words has is = absurd cc
word_cause d c words has is = has

not_same : (m n : ℕ) → (m == n) ≡ false → m ≡ n → ⊥
not_same m n is same = grind (arith, nat_tests)

other_count : (m n : ℕ) (b : Bool) → (m == n) ≡ b → (m ≡ n → ⊥) → (m == n) ≡ false
other_count m n true is other = absurd (other (eqb-true m n is))
other_count m n false is other = is

Counted : First → Verb → List (List ℕ) → Cause → Type 0
Counted f v rest c = ((cause.Count ≡ c) × (length rest ≡ length (kinds v) → ⊥)) ⊎ ((length rest ≡ length (kinds v)) × IsFirstWrong (kinds v) rest c)

counted_by : {L : Type 0} {d : Dialect} {asked : Asked L} {first_of : L → First} {said : L → Verb × List Value} → IsGrammar d asked first_of said → (f : First) (v : Verb) (rest : List (List ℕ)) (c : Cause) (test : Bool) → belongs d f v ≡ true → (length rest == length (kinds v)) ≡ test → (if test then asked f v rest else Err cause.Count) ≡ Err c → Counted f v rest c
unfolding Counted
counted_by g f v rest c true may same is = let long = eqb-true _ _ same in inr (long, wrong_found g f v rest c may long is)
counted_by g f v rest c false may same is = inl (cc is, not_same _ _ same)

counted_err : {L : Type 0} {d : Dialect} {asked : Asked L} {first_of : L → First} {said : L → Verb × List Value} → IsGrammar d asked first_of said → (f : First) (v : Verb) (rest : List (List ℕ)) (c : Cause) → belongs d f v ≡ true → counted_at asked f v rest ≡ Err c → Counted f v rest c
unfolding counted_at
counted_err g f v rest c may is = counted_by g f v rest c (length rest == length (kinds v)) may refl is

told_count : (d : Dialect) (f : First) (v : Verb) (words rest : List (List ℕ)) (c : Cause) → Asks d words f v rest → Counted f v rest c → IsWordsCause d c words
unfolding Counted
told_count d f v words rest c asks (inl (is, other)) = subst (λ (c : Cause). IsWordsCause d c words) is (record { first = f; verb = v; rest = rest; asks = asks; other = other })
told_count d f v words rest c asks (inr (long, wrong)) =
    word_cause d c words (record { first = f; verb = v; rest = rest; asks = asks; count = long; wrong = wrong }) (wrong_of_word (kinds v) rest c wrong)

lacks_verb : (d : Dialect) (f : First) (rest : List (List ℕ)) → IsFirst f → ((verb : Verb) (more : List (List ℕ)) → belongs d f verb ≡ true → rest ≡ word_of verb ∷ more → ⊥) → LacksVerb d (first_word f ∷ rest)
lacks_verb d f rest is none = record { first = f; rest = rest; is_first = is; begins = refl; none = none }

no_verb : (d : Dialect) (f : First) (word : List ℕ) (rest : List (List ℕ)) → verb_at d f word ≡ None → (verb : Verb) (more : List (List ℕ)) → belongs d f verb ≡ true → word ∷ rest ≡ word_of verb ∷ more → ⊥
no_verb d f word rest none verb more may is =
    let same : word ≡ word_of verb = cc is in
    let bad : None ≡ Some verb = sym none ∙ ap (verb_at d f) same ∙ verb_again d f verb may in
    cc bad

no_words : (d : Dialect) (f : First) (verb : Verb) (more : List (List ℕ)) → belongs d f verb ≡ true → [] ≡ word_of verb ∷ more → ⊥
no_words d f verb more may is = cc is

verb_told : {L : Type 0} {d : Dialect} {asked : Asked L} {first_of : L → First} {said : L → Verb × List Value} → IsGrammar d asked first_of said → (f : First) (word : List ℕ) (rest : List (List ℕ)) (c : Cause) → IsFirst f
    → (ok_or (verb_at d f word) cause.Word ≡ Err c) ⊎ ((v : Verb) × (ok_or (verb_at d f word) cause.Word ≡ Ok v) × (counted_at asked f v rest ≡ Err c)) → IsWordsCause d c (first_word f ∷ word ∷ rest)
verb_told {d = d} g f word rest c is (inl err) =
    let none = none_err (verb_at d f word) cause.Word c err in
    subst (λ (c : Cause). IsWordsCause d c (first_word f ∷ word ∷ rest)) none.1 (lacks_verb d f (word ∷ rest) is (no_verb d f word rest none.0))
verb_told {d = d} g f word rest c is (inr (v, read, later)) =
    let named = verb_found d f word v (some_ok (verb_at d f word) cause.Word v read) in
    told_count d f v (first_word f ∷ word ∷ rest) rest c (record { is_first = is; may = named.1; begins = ap (λ w. first_word f ∷ w ∷ rest) named.0 }) (counted_err g f v rest c named.1 later)

said_told : {L : Type 0} {d : Dialect} {asked : Asked L} {first_of : L → First} {said : L → Verb × List Value} → IsGrammar d asked first_of said → (f : First) (rest : List (List ℕ)) (c : Cause) → IsFirst f → said_at d asked f rest ≡ Err c → IsWordsCause d c (first_word f ∷ rest)
unfolding said_at
said_told {d = d} g f [] c is err = let word : cause.Word ≡ c = cc err in subst (λ (c : Cause). IsWordsCause d c (first_word f ∷ [])) word (lacks_verb d f [] is (no_words d f))
said_told {d = d} {asked = asked} g f (word ∷ rest) c is err =
    verb_told g f word rest c is (either_fails (ok_or (verb_at d f word) cause.Word) (λ v. counted_at asked f v rest) c err)

no_first : (word : List ℕ) (words : List (List ℕ)) → first_at word ≡ None → LacksFirst (word ∷ words)
no_first word words none f rest is begins =
    let same : word ≡ first_word f = cc begins in
    let bad : None ≡ Some f = sym none ∙ ap first_at same ∙ first_again f is in
    cc bad

lacks_words : LacksFirst []
lacks_words f rest is begins = cc begins

first_told : {L : Type 0} {d : Dialect} {asked : Asked L} {first_of : L → First} {said : L → Verb × List Value} → IsGrammar d asked first_of said → (word : List ℕ) (words : List (List ℕ)) (c : Cause) → (ok_or (first_at word) cause.Client ≡ Err c) ⊎ ((f : First) × (ok_or (first_at word) cause.Client ≡ Ok f) × (said_at d asked f words ≡ Err c))
    → IsWordsCause d c (word ∷ words)
first_told {d = d} g word words c (inl err) =
    let none = none_err (first_at word) cause.Client c err in subst (λ (c : Cause). IsWordsCause d c (word ∷ words)) none.1 (no_first word words none.0)
first_told {d = d} g word words c (inr (f, read, later)) =
    let begins = first_found word f (some_ok (first_at word) cause.Client f read) in
    subst (λ (w : List ℕ). IsWordsCause d c (w ∷ words)) (sym begins.1) (said_told g f words c begins.0 later)

words_told : {L : Type 0} {d : Dialect} {asked : Asked L} {first_of : L → First} {said : L → Verb × List Value} → IsGrammar d asked first_of said → (words : List (List ℕ)) (c : Cause) → first_said_at d asked words ≡ Err c → IsWordsCause d c words
unfolding first_said_at
words_told {d = d} g [] c err = let client : cause.Client ≡ c = cc err in subst (λ (c : Cause). IsWordsCause d c []) client lacks_words
words_told {d = d} {asked = asked} g (word ∷ words) c err = first_told g word words c (either_fails (ok_or (first_at word) cause.Client) (λ f. said_at d asked f words) c err)

of_words : (d : Dialect) (c : Cause) (body : List ℕ) → length body ≤ 16384 → IsWordsCause d c (words_of body) → IsCause d c body
of_words d cause.LineTooLong body short is = absurd is
of_words d cause.Client body short is = (short, is)
of_words d cause.Word body short is = (short, is)
of_words d cause.Count body short is = (short, is)
of_words d cause.Number body short is = (short, is)
of_words d cause.Hex body short is = (short, is)
of_words d cause.Name body short is = (short, is)

long_line : (m n : ℕ) → nat_lt m n ≡ true → m < n
long_line m n is = grind (arith, nat_tests)

too_long : (m n : ℕ) → m < n → nat_lt m n ≡ true
too_long m n lt = grind (arith, nat_tests)

told_by : {L : Type 0} {d : Dialect} {asked : Asked L} {first_of : L → First} {said : L → Verb × List Value} → IsGrammar d asked first_of said → (body : List ℕ) (c : Cause) (test : Bool) → nat_lt 16384 (length body) ≡ test → (if test then Err cause.LineTooLong else first_said_at d asked (words_of body)) ≡ Err c → IsCause d c body
told_by {d = d} g body c true long err = let same : cause.LineTooLong ≡ c = cc err in subst (λ (c : Cause). IsCause d c body) same (long_line 16384 (length body) long)
told_by {d = d} g body c false long err = of_words d c body (not_long 16384 (length body) long) (words_told g (words_of body) c err)

-- the cause that is told is the first that applies
pub cause_found : {L : Type 0} {d : Dialect} {asked : Asked L} {first_of : L → First} {said : L → Verb × List Value} → IsGrammar d asked first_of said → (body : List ℕ) (c : Cause) → body_at d asked body ≡ Err c → IsCause d c body
unfolding body_at
cause_found g body c err = told_by g body c (nat_lt 16384 (length body)) refl err

none_first : (word : List ℕ) (words : List (List ℕ)) (o : Option First) → first_at word ≡ o → LacksFirst (word ∷ words) → first_at word ≡ None
none_first word words None is lacks = is
none_first word words (Some f) is lacks = let begins = first_found word f is in absurd (lacks f words begins.0 (ap (λ w. w ∷ words) begins.1))

client_again : {L : Type 0} (d : Dialect) (asked : Asked L) (words : List (List ℕ)) → LacksFirst words → first_said_at d asked words ≡ Err cause.Client
unfolding first_said_at
client_again d asked [] lacks = refl
client_again d asked (word ∷ words) lacks = ap (λ o. ok_or o cause.Client >>= λ f. said_at d asked f words) (none_first word words (first_at word) refl lacks)

begun_again : {L : Type 0} (d : Dialect) (asked : Asked L) (f : First) (words rest : List (List ℕ)) → IsFirst f → words ≡ first_word f ∷ rest → first_said_at d asked words ≡ said_at d asked f rest
unfolding first_said_at
begun_again d asked f words rest is begins = ap (first_said_at d asked) begins ∙ ap (λ o. ok_or o cause.Client >>= λ f. said_at d asked f rest) (first_again f is)

none_verb : (d : Dialect) (f : First) (word : List ℕ) (rest : List (List ℕ)) (o : Option Verb) → verb_at d f word ≡ o → ((verb : Verb) (more : List (List ℕ)) → belongs d f verb ≡ true → word ∷ rest ≡ word_of verb ∷ more → ⊥) → verb_at d f word ≡ None
none_verb d f word rest None is none = is
none_verb d f word rest (Some v) is none = let named = verb_found d f word v is in absurd (none v rest named.1 (ap (λ w. w ∷ rest) named.0))

word_again : {L : Type 0} (d : Dialect) (asked : Asked L) (f : First) (rest : List (List ℕ)) → ((verb : Verb) (more : List (List ℕ)) → belongs d f verb ≡ true → rest ≡ word_of verb ∷ more → ⊥) → said_at d asked f rest ≡ Err cause.Word
unfolding said_at
word_again d asked f [] none = refl
word_again d asked f (word ∷ rest) none =
    ap (λ o. ok_or o cause.Word >>= λ v. counted_at asked f v rest) (none_verb d f word rest (verb_at d f word) refl none)

asked_again : {L : Type 0} (d : Dialect) (asked : Asked L) (f : First) (v : Verb) (words rest : List (List ℕ)) → Asks d words f v rest → first_said_at d asked words ≡ counted_at asked f v rest
unfolding said_at
asked_again d asked f v words rest asks =
    begun_again d asked f words (word_of v ∷ rest) asks.is_first asks.begins ∙ ap (λ o. ok_or o cause.Word >>= λ v. counted_at asked f v rest) (verb_again d f v asks.may)

count_again : {L : Type 0} (asked : Asked L) (f : First) (v : Verb) (rest : List (List ℕ)) → (length rest ≡ length (kinds v) → ⊥) → counted_at asked f v rest ≡ Err cause.Count
unfolding counted_at
count_again asked f v rest other = ap (λ b. if b then asked f v rest else Err cause.Count) (other_count (length rest) (length (kinds v)) (length rest == length (kinds v)) refl other)

wrong_counted : {L : Type 0} {d : Dialect} {asked : Asked L} {first_of : L → First} {said : L → Verb × List Value} → IsGrammar d asked first_of said → (f : First) (v : Verb) (rest : List (List ℕ)) (c : Cause) → belongs d f v ≡ true → length rest ≡ length (kinds v) → IsFirstWrong (kinds v) rest c → counted_at asked f v rest ≡ Err c
unfolding counted_at
wrong_counted {asked = asked} g f v rest c may same wrong =
    ap (λ b. if b then asked f v rest else Err cause.Count) (same_count (length rest) (length (kinds v)) same) ∙ wrong_again g f v rest c may same wrong

has_wrong : {L : Type 0} {d : Dialect} {asked : Asked L} {first_of : L → First} {said : L → Verb × List Value} → IsGrammar d asked first_of said → (words : List (List ℕ)) (c : Cause) → HasWrongWord d words c → first_said_at d asked words ≡ Err c
has_wrong {d = d} {asked = asked} g words c has = asked_again d asked has.first has.verb words has.rest has.asks ∙ wrong_counted g has.first has.verb has.rest c has.asks.may has.count has.wrong

short_again : {L : Type 0} (d : Dialect) (asked : Asked L) (body : List ℕ) (c : Cause) → length body ≤ 16384 → first_said_at d asked (words_of body) ≡ Err c → body_at d asked body ≡ Err c
unfolding body_at
short_again d asked body c short is = ap (λ b. if b then Err cause.LineTooLong else first_said_at d asked (words_of body)) (within 16384 (length body) short) ∙ is

long_again : {L : Type 0} (d : Dialect) (asked : Asked L) (body : List ℕ) → 16384 < length body → body_at d asked body ≡ Err cause.LineTooLong
unfolding body_at
long_again d asked body long = ap (λ b. if b then Err cause.LineTooLong else first_said_at d asked (words_of body)) (too_long 16384 (length body) long)

-- the first cause that applies is told
pub cause_again : {L : Type 0} {d : Dialect} {asked : Asked L} {first_of : L → First} {said : L → Verb × List Value} → IsGrammar d asked first_of said → (c : Cause) (body : List ℕ) → IsCause d c body → body_at d asked body ≡ Err c
cause_again {d = d} {asked = asked} g cause.LineTooLong body is = long_again d asked body is
cause_again {d = d} {asked = asked} g cause.Client body is = short_again d asked body cause.Client is.0 (client_again d asked (words_of body) is.1)
cause_again {d = d} {asked = asked} g cause.Word body is =
    let lacks = is.1 in
    short_again d asked body cause.Word is.0 (begun_again d asked lacks.first (words_of body) lacks.rest lacks.is_first lacks.begins ∙ word_again d asked lacks.first lacks.rest lacks.none)
cause_again {d = d} {asked = asked} g cause.Count body is =
    let has = is.1 in
    short_again d asked body cause.Count is.0
    (asked_again d asked has.first has.verb (words_of body) has.rest has.asks ∙ count_again asked has.first has.verb has.rest has.other)
cause_again {d = d} {asked = asked} g cause.Number body is = short_again d asked body cause.Number is.0 (has_wrong g (words_of body) cause.Number is.1)
cause_again {d = d} {asked = asked} g cause.Hex body is = short_again d asked body cause.Hex is.0 (has_wrong g (words_of body) cause.Hex is.1)
cause_again {d = d} {asked = asked} g cause.Name body is = short_again d asked body cause.Name is.0 (has_wrong g (words_of body) cause.Name is.1)
