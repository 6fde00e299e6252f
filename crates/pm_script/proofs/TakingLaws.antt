-- Words that are taken one after the other: they are read as what they spell, and the first wrong one is told.
use Rattle.std.proofs.Common.{◌≡◌, ◌⊎◌, inl, inr, ℕ, suc, ◌+◌, ◌-◌, ◌<◌, ◌≤◌, true, false, nat_eq, nat_lt, count_by, Bor, List, [], ◌∷◌, length, map, Option, Some, None, Result, Ok, Err, refl, sym, ap, subst, ◌∙◌, arith, ◌==◌, if◌then◌else◌}
use Rattle.std.proofs.lemmas.Bool.Decides.{nat_tests}
use Rattle.std.proofs.lemmas.List.Splits.{length-slice_split}
use Rattle.std.specs.Option.{ok_or}
use Rattle.pm_types.specs.Results.{◌>>=◌}
use Rattle.pm_types.proofs.Results.{ok_same, err_same}
use Rattle.pm_types.specs.declared.command.Cmd.{Cmd}
use Rattle.pm_types.specs.declared.command.Cmd.TheVariants as cmd
use Rattle.pm_script.specs.declared.fault.Cause.{Cause}
use Rattle.pm_script.specs.declared.fault.Cause.TheVariants as cause
use Rattle.pm_types.specs.declared.caused.Fault.{Fault}
use Rattle.pm_types.specs.declared.caused.Fault.TheVariants.{Bad, Memory}
use Rattle.pm_script.specs.declared.verb.Dialect.{Dialect}
use Rattle.pm_script.specs.declared.verb.Dialect.TheVariants as dialect
use Rattle.pm_script.specs.declared.verb.Verb.{Verb}
use Rattle.pm_script.specs.declared.verb.Verb.TheVariants as verb
use Rattle.pm_script.specs.declared.verb.First.{First}
use Rattle.pm_script.specs.declared.verb.First.TheVariants as first
use Rattle.pm_script.specs.declared.verb.Kind.{Kind}
use Rattle.pm_script.specs.declared.line.Line.{Line}
use Rattle.pm_script.specs.declared.line.Line.TheVariants as line
use Rattle.pm_script.specs.declared.line.YoungLine.{YoungLine}
use Rattle.pm_script.specs.declared.line.YoungLine.TheVariants as young
use Rattle.pm_script.specs.Lines.{parts_in}
use Rattle.pm_script.specs.Words.{kinds, belongs, Value, kind_of, kind_cause, IsSpelled, AreSpelled}
use Rattle.pm_script.specs.Script.{command_said, said, first_of}
use Rattle.pm_script.specs.Young.{young_said, young_first_of}
use Rattle.pm_script.specs.Bad.{IsOfKind, IsFirstWrong}
use Rattle.pm_script.specs.Values.{verb_at}
use Rattle.pm_script.specs.Taking.{Asked, taken, command_at, events_at, asked_at, young_asked_at}
use Rattle.pm_script.specs.Reading.{Gives, Takes, counted_at, said_at}
use Rattle.pm_script.proofs.SaidLaws.{line_kinds, line_belongs}
use Rattle.pm_script.proofs.ValueLaws.{IsReader, registers, numbers, hexes, names}

with_rest : {X : Type 0} (r : Result X (Fault Cause)) (o : Option X) (why : Cause) (rest : List (List ℕ)) → Gives r (ok_or o why) → Takes r (ok_or o why >>= λ x. Ok (x, rest)) rest
with_rest (Ok x) o why rest is = ap (λ (r : Result _ Cause). r >>= λ x. Ok (x, rest)) is
with_rest (Err (Bad c)) o why rest is = ap (λ (r : Result _ Cause). r >>= λ x. Ok (x, rest)) is
with_rest (Err (Memory _)) o why rest is = tt

-- what a reader of one word gives, at the front of words
pub takes : {X : Type 0} (r : Result X (Fault Cause)) (read : List ℕ → Option X) (why : Cause) (words : List (List ℕ)) (word : List ℕ) (rest : List (List ℕ))
    → words ≡ word ∷ rest → Gives r (ok_or (read word) why) → Takes r (taken read why words) rest
takes r read why words word rest is given = subst (λ (ws : List (List ℕ)). Takes r (taken read why ws) rest) (sym is) (with_rest r (read word) why rest given)

-- the words spell values of the kinds, and what was read says these
pub record IsRead {X : Type 0} (ks : List Kind) (words : List (List ℕ)) (read : Result X Cause) (says : X → List Value → Type 0) : Type 0 where
  pub made : X
  pub values : List Value
  pub ok : read ≡ Ok made
  pub so : says made values
  pub are_kinds : map kind_of values ≡ ks
  pub spelled : AreSpelled values words

-- one of them is wrong, and the first such is told
pub record IsWrong {X : Type 0} (ks : List Kind) (words : List (List ℕ)) (read : Result X Cause) : Type 0 where
  pub why : Cause
  pub err : read ≡ Err why
  pub wrong : IsFirstWrong ks words why

abbrev pub Judged : {X : Type 0} → List Kind → List (List ℕ) → Result X Cause → (X → List Value → Type 0) → Type 0
Judged ks words read says = IsRead ks words read says ⊎ IsWrong ks words read

one_more : {X : Type 0} (k : Kind) (ks : List Kind) (v : Value) (word : List ℕ) (ws : List (List ℕ)) (read : Result X Cause) (says : X → List Value → Type 0)
    → kind_of v ≡ k → IsSpelled v word → Judged ks ws read (λ x vs. says x (v ∷ vs)) → Judged (k ∷ ks) (word ∷ ws) read says
one_more k ks v word ws read says is spells (inl rest) =
    inl (record { made = rest.made; values = v ∷ rest.values; ok = rest.ok; so = rest.so; are_kinds = (λ i. is i ∷ rest.are_kinds i); spelled = (spells, rest.spelled) })
one_more k ks v word ws read says is spells (inr rest) = inr (record { why = rest.why; err = rest.err; wrong = inr (record { value = v; is_kind = is; spelled = spells }, rest.wrong) })

never : {A : Type 0} {read : List ℕ → Option A} {as_value : A → Value} {k : Kind} → IsReader read as_value k → (word : List ℕ) → read word ≡ None → IsOfKind k word → ⊥
never reader word none is =
    let it = reader.only is.value is.is_kind in
    let bad : None ≡ Some it.0 = sym none ∙ reader.again it.0 word (subst (λ (v : Value). IsSpelled v word) it.1 is.spelled) in
    cc bad

next_by : {A X : Type 0} {read : List ℕ → Option A} {as_value : A → Value} {k : Kind} → IsReader read as_value k → (ks : List Kind) (word : List ℕ) (ws : List (List ℕ)) (f : A × List (List ℕ) → Result X Cause) (says : X → List Value → Type 0) (o : Option A) → read word ≡ o
    → ((x : A) → Judged ks ws (f (x, ws)) (λ y vs. says y (as_value x ∷ vs))) → Judged (k ∷ ks) (word ∷ ws) ((ok_or o (kind_cause k) >>= λ x. Ok (x, ws)) >>= f) says
next_by {k = k} reader ks word ws f says None is rest = inr (record { why = kind_cause k; err = refl; wrong = inl (refl, never reader word is) })
next_by {as_value = as_value} {k = k} reader ks word ws f says (Some x) is rest = one_more k ks (as_value x) word ws (f (x, ws)) says (reader.kinds x) (reader.found word x is) (rest x)

-- a word that stands first, and what is read of those after it
next : {A X : Type 0} {read : List ℕ → Option A} {as_value : A → Value} {k : Kind} → IsReader read as_value k → {ks : List Kind} (words : List (List ℕ)) (f : A × List (List ℕ) → Result X Cause) {says : X → List Value → Type 0} → length words ≡ suc (length ks)
    → ((x : A) (ws : List (List ℕ)) → length ws ≡ length ks → Judged ks ws (f (x, ws)) (λ y vs. says y (as_value x ∷ vs))) → Judged (k ∷ ks) words (taken read (kind_cause k) words >>= f) says
next reader [] f long rest = absurd (omega (arith, long))
next {read = read} reader {ks} (word ∷ ws) f {says} long rest = next_by reader ks word ws f says (read word) refl (λ x. rest x ws (omega (arith, long)))

-- no more words
done : {X : Type 0} (x : X) (words : List (List ℕ)) (says : X → List Value → Type 0) → length words ≡ 0 → says x [] → Judged [] words (Ok x) says
done x [] says long so = inl (record { made = x; values = []; ok = refl; so = so; are_kinds = refl; spelled = tt })
done x (word ∷ words) says long so = absurd (omega (arith, long))

-- where the words are as many as stand after such a verb
command_judged : (client : ℕ) (v : Verb) (words : List (List ℕ)) → belongs dialect.Plain (first.Client client) v ≡ true → length words ≡ length (kinds v) → Judged (kinds v) words (command_at v words) (λ cmd vs. command_said cmd ≡ (v, vs))
unfolding command_at
command_judged client verb.New words may long = next registers words _ long (λ a ws long. next numbers ws _ long (λ b ws long. next hexes ws _ long (λ c ws long. done (cmd.New a b c) ws _ long refl)))
command_judged client verb.Load words may long = next registers words _ long (λ a ws long. next registers ws _ long (λ b ws long. next numbers ws _ long (λ c ws long. done (cmd.Load a b c) ws _ long refl)))
command_judged client verb.Store words may long = next registers words _ long (λ a ws long. next numbers ws _ long (λ b ws long. next registers ws _ long (λ c ws long. done (cmd.Store a b c) ws _ long refl)))
command_judged client verb.Clear words may long = next registers words _ long (λ a ws long. next numbers ws _ long (λ b ws long. done (cmd.Clear a b) ws _ long refl))
command_judged client verb.Data words may long = next registers words _ long (λ a ws long. done (cmd.Show a) ws _ long refl)
command_judged client verb.Put words may long = next registers words _ long (λ a ws long. next numbers ws _ long (λ b ws long. next hexes ws _ long (λ c ws long. done (cmd.Put a b c) ws _ long refl)))
command_judged client verb.Copy words may long = next registers words _ long (λ a ws long. next registers ws _ long (λ b ws long. done (cmd.Copy a b) ws _ long refl))
command_judged client verb.Id words may long = next registers words _ long (λ a ws long. done (cmd.IdOf a) ws _ long refl)
command_judged client verb.Drop words may long = next registers words _ long (λ a ws long. done (cmd.Forget a) ws _ long refl)
command_judged client verb.Root words may long = next names words _ long (λ a ws long. next registers ws _ long (λ b ws long. done (cmd.Bind a b) ws _ long refl))
command_judged client verb.Unroot words may long = next names words _ long (λ a ws long. done (cmd.Unbind a) ws _ long refl)
command_judged client verb.Find words may long = next registers words _ long (λ a ws long. next names ws _ long (λ b ws long. done (cmd.Find a b) ws _ long refl))
command_judged client verb.Save words may long = done cmd.Save words _ long refl
command_judged client verb.Settle words may long = done cmd.Settle words _ long refl
command_judged client verb.Watch words may long = done cmd.Watch words _ long refl
command_judged client verb.Close words may long = done cmd.Close words _ long refl
command_judged client verb.Swap words may long = next registers words _ long (λ a ws long. next numbers ws _ long (λ b ws long. next registers ws _ long (λ c ws long. next registers ws _ long (λ d ws long. done (cmd.Swap a b c d) ws _ long refl))))
command_judged client verb.Unsave words may long = done cmd.Unsave words _ long refl
command_judged client verb.Gc words may long = absurd cc
command_judged client verb.Flush words may long = absurd cc
command_judged client verb.Young words may long = absurd cc

-- the line is said by this first word, this verb and these values
pub record Says {L : Type 0} (first_of : L → First) (said : L → Verb × List Value) (f : First) (v : Verb) (line : L) (values : List Value) : Type 0 where
  pub first : first_of line ≡ f
  pub said_so : said line ≡ (v, values)

as_line : (client : ℕ) (v : Verb) (ks : List Kind) (words : List (List ℕ)) (read : Result Cmd Cause) → Judged ks words read (λ cmd vs. command_said cmd ≡ (v, vs)) → Judged ks words (read >>= λ cmd. Ok (line.Client client cmd)) (Says first_of said (first.Client client) v)
as_line client v ks words read (inl is) =
    inl (record {
      made = line.Client client is.made;
      values = is.values;
      ok = ap (λ (r : Result Cmd Cause). r >>= λ cmd. Ok (line.Client client cmd)) is.ok;
      so = record { first = refl; said_so = is.so };
      are_kinds = is.are_kinds;
      spelled = is.spelled;
    })
as_line client v ks words read (inr is) = inr (record { why = is.why; err = ap (λ (r : Result Cmd Cause). r >>= λ cmd. Ok (line.Client client cmd)) is.err; wrong = is.wrong })

pub asked_judged : (f : First) (v : Verb) (words : List (List ℕ)) → belongs dialect.Plain f v ≡ true → length words ≡ length (kinds v) → Judged (kinds v) words (asked_at f v words) (Says first_of said f v)
unfolding asked_at events_at
asked_judged (first.Client client) v words may long = as_line client v (kinds v) words (command_at v words) (command_judged client v words may long)
asked_judged first.Bang verb.Gc words may long = next numbers words _ long (λ a ws long. done (line.Gc a) ws _ long (record { first = refl; said_so = refl }))
asked_judged first.Bang verb.Flush words may long = next numbers words _ long (λ a ws long. done (line.Flush a) ws _ long (record { first = refl; said_so = refl }))
asked_judged first.Bang v words may long = absurd cc

none_wrong : (values : List Value) (words : List (List ℕ)) (c : Cause) → AreSpelled values words → IsFirstWrong (map kind_of values) words c → ⊥
none_wrong [] words c are wrong = wrong
none_wrong (v ∷ values) [] c are wrong = wrong
none_wrong (v ∷ values) (word ∷ words) c are (inl (is, none)) = none (record { value = v; is_kind = refl; spelled = are.0 })
none_wrong (v ∷ values) (word ∷ words) c are (inr (one, later)) = none_wrong values words c are.1 later

one_wrong : (ks : List Kind) (words : List (List ℕ)) (c d : Cause) → IsFirstWrong ks words c → IsFirstWrong ks words d → c ≡ d
one_wrong [] words c d is other = absurd is
one_wrong (k ∷ ks) [] c d is other = absurd is
one_wrong (k ∷ ks) (word ∷ words) c d (inl (is, none)) (inl (other, not)) = sym is ∙ other
one_wrong (k ∷ ks) (word ∷ words) c d (inl (is, none)) (inr (one, later)) = absurd (none one)
one_wrong (k ∷ ks) (word ∷ words) c d (inr (one, later)) (inl (other, not)) = absurd (not one)
one_wrong (k ∷ ks) (word ∷ words) c d (inr (one, later)) (inr (two, last)) = one_wrong ks words c d later last

-- what is read of the words that say a line
pub record IsTold {L : Type 0} (first_of : L → First) (said : L → Verb × List Value) (f : First) (v : Verb) (words : List (List ℕ)) (line : L) : Type 0 where
  pub values : List Value
  pub says : Says first_of said f v line values
  pub spelled : AreSpelled values words

-- a grammar of lines: what is read of the words behind a verb that belongs there is told right, and what a line says is read as it
pub record IsGrammar {L : Type 0} (d : Dialect) (asked : Asked L) (first_of : L → First) (said : L → Verb × List Value) : Type 0 where
  pub judged : (f : First) (v : Verb) (words : List (List ℕ)) → belongs d f v ≡ true → length words ≡ length (kinds v) → Judged (kinds v) words (asked f v words) (Says first_of said f v)
  pub again : (l : L) (words : List (List ℕ)) → AreSpelled (said l).1 words → asked (first_of l) (said l).0 words ≡ Ok l
  pub of_kinds : (l : L) → map kind_of (said l).1 ≡ kinds (said l).0

told_by : {L : Type 0} (first_of : L → First) (said : L → Verb × List Value) (f : First) (v : Verb) (words : List (List ℕ)) (read : Result L Cause) (line : L) → Judged (kinds v) words read (Says first_of said f v) → read ≡ Ok line → IsTold first_of said f v words line
told_by {L} first_of said f v words read line (inl it) is = let same : it.made ≡ line = ok_same _ _ (sym it.ok ∙ is) in record { values = it.values; says = subst (λ (l : L). Says first_of said f v l it.values) same it.so; spelled = it.spelled }
told_by {L} first_of said f v words read line (inr it) is = absurd (let bad : ◌≡◌ {A = Result L Cause} (Err it.why) (Ok line) = sym it.err ∙ is in cc bad)

-- words that are read as a line spell it
pub told_found : {L : Type 0} {d : Dialect} {asked : Asked L} {first_of : L → First} {said : L → Verb × List Value} → IsGrammar d asked first_of said → (f : First) (v : Verb) (words : List (List ℕ)) (line : L)
    → belongs d f v ≡ true → length words ≡ length (kinds v) → asked f v words ≡ Ok line → IsTold first_of said f v words line
told_found {asked = asked} {first_of = first_of} {said = said} g f v words line may long is = told_by first_of said f v words (asked f v words) line (g.judged f v words may long) is

wrong_by : {L : Type 0} (says : L → List Value → Type 0) (ks : List Kind) (words : List (List ℕ)) (read : Result L Cause) (c : Cause) → Judged ks words read says → read ≡ Err c → IsFirstWrong ks words c
wrong_by {L} says ks words read c (inl it) is = absurd (let bad : ◌≡◌ {A = Result L Cause} (Ok it.made) (Err c) = sym it.ok ∙ is in cc bad)
wrong_by {L} says ks words read c (inr it) is = let same : it.why ≡ c = err_same {A = L} _ _ (sym it.err ∙ is) in subst (λ (c : Cause). IsFirstWrong ks words c) same it.wrong

-- the cause that is told is that of the first wrong word
pub wrong_found : {L : Type 0} {d : Dialect} {asked : Asked L} {first_of : L → First} {said : L → Verb × List Value} → IsGrammar d asked first_of said → (f : First) (v : Verb) (words : List (List ℕ)) (c : Cause)
    → belongs d f v ≡ true → length words ≡ length (kinds v) → asked f v words ≡ Err c → IsFirstWrong (kinds v) words c
wrong_found {asked = asked} {first_of = first_of} {said = said} g f v words c may long is = wrong_by (Says first_of said f v) (kinds v) words (asked f v words) c (g.judged f v words may long) is

again_by : {L : Type 0} (says : L → List Value → Type 0) (ks : List Kind) (words : List (List ℕ)) (read : Result L Cause) (c : Cause) → Judged ks words read says → IsFirstWrong ks words c → read ≡ Err c
again_by says ks words read c (inl it) wrong = absurd (none_wrong it.values words c it.spelled (subst (λ (ks : List Kind). IsFirstWrong ks words c) (sym it.are_kinds) wrong))
again_by says ks words read c (inr it) wrong = it.err ∙ ap Err (one_wrong ks words it.why c it.wrong wrong)

-- and that of the first wrong word is told
pub wrong_again : {L : Type 0} {d : Dialect} {asked : Asked L} {first_of : L → First} {said : L → Verb × List Value} → IsGrammar d asked first_of said → (f : First) (v : Verb) (words : List (List ℕ)) (c : Cause)
    → belongs d f v ≡ true → length words ≡ length (kinds v) → IsFirstWrong (kinds v) words c → asked f v words ≡ Err c
wrong_again {asked = asked} {first_of = first_of} {said = said} g f v words c may long wrong = again_by (Says first_of said f v) (kinds v) words (asked f v words) c (g.judged f v words may long) wrong

-- the words spell these values
record Spell (values : List Value) (words : List (List ℕ)) : Type 0 where
  each : AreSpelled values words

-- a value that stands first, and the words after it
again : {A X : Type 0} {read : List ℕ → Option A} {as_value : A → Value} {k : Kind} → IsReader read as_value k → (a : A) {vs : List Value} (words : List (List ℕ)) (f : A × List (List ℕ) → Result X Cause) {x : X} → Spell (as_value a ∷ vs) words
    → ((ws : List (List ℕ)) → Spell vs ws → f (a, ws) ≡ Ok x) → (taken read (kind_cause k) words >>= f) ≡ Ok x
again reader a [] f are rest = absurd are.each
again {k = k} reader a (word ∷ ws) f are rest = ap (λ o. (ok_or o (kind_cause k) >>= λ x. Ok (x, ws)) >>= f) (reader.again a word are.each.0) ∙ rest ws (record { each = are.each.1 })

command_again : (command : Cmd) (words : List (List ℕ)) → Spell (command_said command).1 words → command_at (command_said command).0 words ≡ Ok command
unfolding command_at
command_again (cmd.New a b c) words are = again registers a words _ are (λ ws are. again numbers b ws _ are (λ ws are. again hexes c ws _ are (λ ws are. refl)))
command_again (cmd.Load a b c) words are = again registers a words _ are (λ ws are. again registers b ws _ are (λ ws are. again numbers c ws _ are (λ ws are. refl)))
command_again (cmd.Store a b c) words are = again registers a words _ are (λ ws are. again numbers b ws _ are (λ ws are. again registers c ws _ are (λ ws are. refl)))
command_again (cmd.Clear a b) words are = again registers a words _ are (λ ws are. again numbers b ws _ are (λ ws are. refl))
command_again (cmd.Show a) words are = again registers a words _ are (λ ws are. refl)
command_again (cmd.Put a b c) words are = again registers a words _ are (λ ws are. again numbers b ws _ are (λ ws are. again hexes c ws _ are (λ ws are. refl)))
command_again (cmd.Copy a b) words are = again registers a words _ are (λ ws are. again registers b ws _ are (λ ws are. refl))
command_again (cmd.IdOf a) words are = again registers a words _ are (λ ws are. refl)
command_again (cmd.Forget a) words are = again registers a words _ are (λ ws are. refl)
command_again (cmd.Bind a b) words are = again names a words _ are (λ ws are. again registers b ws _ are (λ ws are. refl))
command_again (cmd.Unbind a) words are = again names a words _ are (λ ws are. refl)
command_again (cmd.Find a b) words are = again registers a words _ are (λ ws are. again names b ws _ are (λ ws are. refl))
command_again cmd.Save words are = refl
command_again cmd.Settle words are = refl
command_again cmd.Watch words are = refl
command_again cmd.Close words are = refl
command_again (cmd.Swap a b c d) words are = again registers a words _ are (λ ws are. again numbers b ws _ are (λ ws are. again registers c ws _ are (λ ws are. again registers d ws _ are (λ ws are. refl))))
command_again cmd.Unsave words are = refl

line_again : (l : Line) (words : List (List ℕ)) → Spell (said l).1 words → asked_at (first_of l) (said l).0 words ≡ Ok l
unfolding asked_at events_at
line_again (line.Client client command) words are = ap (λ (r : Result Cmd Cause). r >>= λ cmd. Ok (line.Client client cmd)) (command_again command words are)
line_again (line.Gc count) words are = again numbers count words _ are (λ ws are. refl)
line_again (line.Flush count) words are = again numbers count words _ are (λ ws are. refl)

-- words that spell a line's values are read as the line
pub told_again : (l : Line) (words : List (List ℕ)) → AreSpelled (said l).1 words → asked_at (first_of l) (said l).0 words ≡ Ok l
told_again l words are = line_again l words (record { each = are })

-- the lines of a script
pub plain_grammar : IsGrammar dialect.Plain asked_at first_of said
plain_grammar = record { judged = asked_judged; again = told_again; of_kinds = line_kinds }

young_line : (f : First) (v : Verb) (ks : List Kind) (words : List (List ℕ)) (read : Result Line Cause) → Judged ks words read (Says first_of said f v) → Judged ks words (read >>= λ line. Ok (young.Base line)) (Says young_first_of young_said f v)
young_line f v ks words read (inl is) =
    inl (record {
      made = young.Base is.made;
      values = is.values;
      ok = ap (λ (r : Result Line Cause). r >>= λ line. Ok (young.Base line)) is.ok;
      so = record { first = is.so.first; said_so = is.so.said_so };
      are_kinds = is.are_kinds;
      spelled = is.spelled;
    })
young_line f v ks words read (inr is) = inr (record { why = is.why; err = ap (λ (r : Result Line Cause). r >>= λ line. Ok (young.Base line)) is.err; wrong = is.wrong })

young_judged : (f : First) (v : Verb) (words : List (List ℕ)) → belongs dialect.Young f v ≡ true → length words ≡ length (kinds v) → Judged (kinds v) words (young_asked_at f v words) (Says young_first_of young_said f v)
unfolding young_asked_at
young_judged (first.Client c) verb.Young words may long = absurd cc
young_judged first.Bang verb.Young words may long = done young.Young words _ long (record { first = refl; said_so = refl })
young_judged f verb.Watch words may long = absurd cc
young_judged f v words may long = young_line f v (kinds v) words (asked_at f v words) (asked_judged f v words may long)

-- what names no sweep is read as in a script
base_read : (f : First) (v : Verb) (words : List (List ℕ)) → belongs dialect.Plain f v ≡ true → young_asked_at f v words ≡ (asked_at f v words >>= λ line. Ok (young.Base line))
unfolding young_asked_at
base_read f verb.Young words may = absurd cc
base_read f v words may = refl

young_again : (l : YoungLine) (words : List (List ℕ)) → AreSpelled (young_said l).1 words → young_asked_at (young_first_of l) (young_said l).0 words ≡ Ok l
unfolding young_asked_at
young_again young.Young words are = refl
young_again (young.Base l) words are =
    base_read (first_of l) (said l).0 words (line_belongs l) ∙ ap (λ (r : Result Line Cause). r >>= λ line. Ok (young.Base line)) (told_again l words are)

young_kinds : (l : YoungLine) → map kind_of (young_said l).1 ≡ kinds (young_said l).0
young_kinds young.Young = refl
young_kinds (young.Base l) = line_kinds l

-- the lines of a script for a run with a nursery
pub young_grammar : IsGrammar dialect.Young young_asked_at young_first_of young_said
young_grammar = record { judged = young_judged; again = young_again; of_kinds = young_kinds }

named : {L : Type 0} (d : Dialect) (asked : Asked L) (f : First) (v : Verb) (words : List (List ℕ)) (word : List ℕ) (rest : List (List ℕ)) → words ≡ word ∷ rest → verb_at d f word ≡ Some v → said_at d asked f words ≡ counted_at asked f v rest
unfolding said_at
named d asked f v words word rest is names = ap (said_at d asked f) is ∙ ap (λ (o : Option Verb). ok_or o cause.Word >>= λ v. counted_at asked f v rest) names

-- the words after the first, where the second names what is asked
pub asked_so : {L : Type 0} (d : Dialect) (asked : Asked L) (f : First) (v : Verb) (words : List (List ℕ)) (word : List ℕ) (rest : List (List ℕ)) → words ≡ word ∷ rest → verb_at d f word ≡ Some v → (length rest == length (kinds v)) ≡ true
    → asked f v rest ≡ said_at d asked f words
unfolding counted_at
asked_so d asked f v words word rest is names long = sym (named d asked f v words word rest is names ∙ ap (λ b. if b then asked f v rest else Err cause.Count) long)

-- where the words are fewer or more than stand after such a verb
pub miscounted : {L : Type 0} (d : Dialect) (asked : Asked L) (f : First) (v : Verb) (words : List (List ℕ)) (word : List ℕ) (rest : List (List ℕ)) → words ≡ word ∷ rest → verb_at d f word ≡ Some v → (length rest == length (kinds v)) ≡ false
    → said_at d asked f words ≡ Err cause.Count
unfolding counted_at
miscounted d asked f v words word rest is names other = named d asked f v words word rest is names ∙ ap (λ b. if b then asked f v rest else Err cause.Count) other

one_less : (n count m : ℕ) → 0 < count → m ≡ n + 1 → nat_eq n (count - 1) ≡ (m == count)
one_less n count m some is = grind (arith, nat_tests)

none_less : (n count m : ℕ) → count ≤ 0 → m ≡ n + 1 → nat_lt 0 count ≡ (m == count)
none_less n count m none is = grind (arith, nat_tests)

word_count : (words : Option (Bor (List ℕ))) (text : Bor (List ℕ)) → words ≡ Some text → length (parts_in 32 words) ≡ count_by (λ b. nat_eq b 32) text.now + 1
word_count words text is = ap (λ (ws : Option (Bor (List ℕ))). length (parts_in 32 ws)) is ∙ length-slice_split (λ b. nat_eq b 32) text.now

-- a text has one word more than spaces
pub counted_some : (words : Option (Bor (List ℕ))) (text : Bor (List ℕ)) (n count : ℕ) → words ≡ Some text → n ≡ count_by (λ b. nat_eq b 32) text.now → 0 < count → nat_eq n (count - 1) ≡ (length (parts_in 32 words) == count)
counted_some words text n count is counted some = one_less n count (length (parts_in 32 words)) some (word_count words text is ∙ ap (λ m. m + 1) (sym counted))

pub counted_none : (words : Option (Bor (List ℕ))) (text : Bor (List ℕ)) (count : ℕ) → words ≡ Some text → count ≤ 0 → nat_lt 0 count ≡ (length (parts_in 32 words) == count)
counted_none words text count is none = none_less (count_by (λ b. nat_eq b 32) text.now) count (length (parts_in 32 words)) none (word_count words text is)
