-- What a line begins with, and the word that names what it asks.
use Rattle.std.proofs.Common.{◌≡◌, ℕ, ◌+◌, ◌<◌, ◌==◌, Bool, true, false, ◌&&◌, cond, List, [], ◌∷◌, Some, refl, ap, subst, ◌∙◌, arith, codes, decimal, lit<, if◌then◌else◌}
use Rattle.std.proofs.lemmas.Bool.Decides.{nat_tests}
use Rattle.std.proofs.lemmas.Fmt.{decimal_digit}
use Rattle.std.specs.Option.{option_map}
use Rattle.std.specs.List.{find}
use Rattle.std.specs.Cmp.Lexicographic.{pointwise, bytes_decides}
use Rattle.pm_script.specs.declared.verb.Dialect.{Dialect}
use Rattle.pm_script.specs.declared.verb.Dialect.TheVariants as dialect
use Rattle.pm_script.specs.declared.verb.Verb.{Verb}
use Rattle.pm_script.specs.declared.verb.Verb.TheVariants as verb
use Rattle.pm_script.specs.declared.verb.First.{First}
use Rattle.pm_script.specs.declared.verb.First.TheVariants as first
use Rattle.pm_script.specs.Words.{word_of, verbs, belongs, first_word, IsFirst}
use Rattle.pm_script.specs.Values.{number_below, first_at, verb_at}
use Rattle.pm_script.proofs.Both.{first_true, second_true}
use Rattle.pm_script.proofs.Steps.{mapped}
use Rattle.pm_script.proofs.ValueLaws.{below_found, below_again}

begun_by : (word : List ℕ) (f : First) (test : Bool) → pointwise ◌==◌ word (codes "!") ≡ test
    → (if test then Some first.Bang else option_map (λ client. first.Client client) (number_below 8 word)) ≡ Some f → IsFirst f × (word ≡ first_word f)
begun_by word f true bang is =
    let same : first.Bang ≡ f = cc is in
    subst (λ (f : First). IsFirst f × (word ≡ first_word f)) same (tt, (bytes_decides word (codes "!")).0 bang)
begun_by word f false bang is =
    let it = mapped (λ client. first.Client client) (number_below 8 word) f is in
    subst (λ (f : First). IsFirst f × (word ≡ first_word f)) it.2 (below_found 8 word it.0 it.1)

pub first_found : (word : List ℕ) (f : First) → first_at word ≡ Some f → IsFirst f × (word ≡ first_word f)
unfolding first_at
first_found word f is = begun_by word f (pointwise ◌==◌ word (codes "!")) refl is

digit_apart : (c : ℕ) → ((48 + c) == 33) ≡ false
digit_apart c = grind (arith, nat_tests)

client_apart : (c : ℕ) → c < 8 → pointwise ◌==◌ (decimal c) (codes "!") ≡ false
client_apart c small = ap (λ w. pointwise ◌==◌ w (codes "!")) (decimal_digit c (omega arith)) ∙ ap (λ b. b && true) (digit_apart c)

pub first_again : (f : First) → IsFirst f → first_at (first_word f) ≡ Some f
unfolding first_at
first_again (first.Client c) small =
    ap (λ b. if b then Some first.Bang else option_map (λ client. first.Client client) (number_below 8 (decimal c))) (client_apart c small)
    ∙ ap (option_map (λ client. first.Client client)) (below_again 8 c (lit< tt) small)
first_again first.Bang is = refl

-- what is found passes the test
found_by : {X : Type 0} (p : X → Bool) (y x : X) (xs : List X) (test : Bool) → p y ≡ test → cond test (Some y) (find p xs) ≡ Some x → (find p xs ≡ Some x → p x ≡ true) → p x ≡ true
found_by p y x xs true passes is more = subst (λ x. p x ≡ true) (cc is) passes
found_by p y x xs false passes is more = more is

passes : {X : Type 0} (p : X → Bool) (xs : List X) (x : X) → find p xs ≡ Some x → p x ≡ true
passes p [] x is = absurd cc
passes p (y ∷ xs) x is = found_by p y x xs (p y) refl is (passes p xs x)

pub verb_found : (d : Dialect) (f : First) (word : List ℕ) (v : Verb) → verb_at d f word ≡ Some v → (word ≡ word_of v) × (belongs d f v ≡ true)
unfolding verb_at
verb_found d f word v is =
    let both = passes (λ verb. pointwise ◌==◌ word (word_of verb) && belongs d f verb) verbs v is in
    ((bytes_decides word (word_of v)).0 (first_true (pointwise ◌==◌ word (word_of v)) (belongs d f v) both), second_true (pointwise ◌==◌ word (word_of v)) (belongs d f v) both)

pub verb_again : (d : Dialect) (f : First) (v : Verb) → belongs d f v ≡ true → verb_at d f (word_of v) ≡ Some v
unfolding verb_at
verb_again dialect.Plain (first.Client c) verb.Gc may = absurd cc
verb_again dialect.Plain (first.Client c) verb.Flush may = absurd cc
verb_again dialect.Plain (first.Client c) verb.Young may = absurd cc
verb_again dialect.Plain (first.Client c) v may = refl
verb_again dialect.Plain first.Bang verb.Gc may = refl
verb_again dialect.Plain first.Bang verb.Flush may = refl
verb_again dialect.Plain first.Bang v may = absurd cc
verb_again dialect.Young (first.Client c) verb.Gc may = absurd cc
verb_again dialect.Young (first.Client c) verb.Flush may = absurd cc
verb_again dialect.Young (first.Client c) verb.Young may = absurd cc
verb_again dialect.Young (first.Client c) verb.Watch may = absurd cc
verb_again dialect.Young (first.Client c) v may = refl
verb_again dialect.Young first.Bang verb.Gc may = refl
verb_again dialect.Young first.Bang verb.Flush may = refl
verb_again dialect.Young first.Bang verb.Young may = refl
verb_again dialect.Young first.Bang v may = absurd cc
