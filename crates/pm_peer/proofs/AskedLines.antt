-- A line of a conversation is read as what it spells, and as nothing else.
use Rattle.std.proofs.Common.{◌≡◌, ℕ, suc, ◌+◌, ◌<◌, ◌≤◌, ◌^◌, ◌==◌, Bool, true, false, ◌&&◌, List, [], ◌∷◌, ◌++◌, length, Option, Some, None, Result, Ok, Err, refl, ap, sym, subst, ◌∙◌, arith, nat_lt, codes, decimal, lit<, length-append, if◌then◌else◌}
use Rattle.std.proofs.lemmas.Bool.Decides.{nat_tests}
use Rattle.std.proofs.lemmas.Fmt.{decimal_digit, length-decimal-le}
use Rattle.std.proofs.lemmas.Option.{same_Some}
use Rattle.std.proofs.lemmas.List.Splits.{join_with_byte-slice_split}
use Rattle.std.specs.Option.{ok_or, option_map}
use Rattle.std.specs.List.{AllByRecursion, join_with_byte}
use Rattle.std.specs.Cmp.Lexicographic.{pointwise, bytes_decides}
use Rattle.pm_types.specs.Results.{◌>>=◌}
use Rattle.pm_types.proofs.Results.{ok_same, bind_ok}
use Rattle.pm_script.specs.declared.fault.Cause.{Cause}
use Rattle.pm_script.specs.declared.fault.Cause.TheVariants as cause
use Rattle.pm_script.specs.declared.line.Line.{Line as Says}
use Rattle.pm_script.specs.declared.line.Line.TheVariants as says
use Rattle.pm_script.specs.Lines.{words_of}
use Rattle.pm_script.specs.Words.{first_word, IsFirst, Value, Number, AreSpelled}
use Rattle.pm_script.specs.Words as word
use Rattle.pm_script.specs.Script.{said, first_of, IsBody}
use Rattle.pm_script.specs.Reading.{line_at}
use Rattle.pm_script.specs.Values.{number_of, number_below}
use Rattle.pm_script.proofs.BodyLaws.{within}
use Rattle.pm_script.proofs.Dialects.{plain_reading}
use Rattle.pm_script.proofs.Numerals.{number_of_decimal}
use Rattle.pm_script.proofs.PlainWords.{IsPlain, values_plain, verb_plain, first_plain, all_lack, split_joined}
use Rattle.pm_script.proofs.ResultSteps.{some_ok}
use Rattle.pm_script.proofs.ValueLaws.{below_found, below_again, numbers}
use Rattle.pm_peer.specs.declared.asked.Asked.{Asked}
use Rattle.pm_peer.specs.declared.asked.Asked.TheVariants.{Line, Look, Name, Count, Watch}
use Rattle.pm_peer.specs.declared.question.Question.{Question}
use Rattle.pm_peer.specs.declared.question.Question.TheVariants as question
use Rattle.pm_peer.specs.Questions.{word_of, question_at, one_of, two_of, look_at, number_in, question_said, question_in, asked_by, asked_at}
use Rattle.pm_peer.specs.Spelled.{Spells}

-- ---- what is spelled is read

-- words that are plain are those of the line that they are joined to
words_again : (one : List ℕ) (words : List (List ℕ)) → AllByRecursion IsPlain (one ∷ words) → words_of (join_with_byte 32 (one ∷ words)) ≡ one ∷ words
words_again one words plain = split_joined 32 one words (all_lack 32 (lit< tt) (one ∷ words) plain)

short_read : (body : List ℕ) (q : Option (Question × List (List ℕ))) (asked : Asked) → length body ≤ 16384 → question_in (words_of body) ≡ q → asked_by q (line_at body) ≡ Ok asked → asked_at body ≡ Ok asked
unfolding asked_at
short_read body q asked short is read =
    ap (λ b. if b then Err cause.LineTooLong else asked_by (question_in (words_of body)) (line_at body)) (within 16384 (length body) short)
    ∙ ap (λ q. asked_by q (line_at body)) is ∙ read

question_plain : (q : Question) → IsPlain (word_of q)
question_plain question.Look = refl
question_plain question.Name = refl
question_plain question.Count = refl
question_plain question.Watch = refl

question_again : (q : Question) (words : List (List ℕ)) → question_in (codes "!" ∷ word_of q ∷ words) ≡ Some (q, words)
question_again question.Look words = refl
question_again question.Name words = refl
question_again question.Count words = refl
question_again question.Watch words = refl

-- a question with its numbers, spelled
asked_again : (body : List ℕ) (q : Question) (values : List Value) (words : List (List ℕ)) (asked : Asked) → body ≡ join_with_byte 32 (codes "!" ∷ word_of q ∷ words) → AreSpelled values words → length body ≤ 16384 → question_said q words ≡ Ok asked
    → asked_at body ≡ Ok asked
asked_again body q values words asked is spelled short read =
    short_read body (Some (q, words)) asked short
    (ap (λ body. question_in (words_of body)) is ∙ ap question_in (words_again (codes "!") (word_of q ∷ words) (refl, (question_plain q, values_plain values words spelled))) ∙ question_again q words)
    read

-- a number is written in ten digits at most
ten_digits : (n : ℕ) → n < 2 ^ 32 → length (decimal n) ≤ 10
ten_digits n small = length-decimal-le 10 n (lit< tt) (omega (arith, small)) (omega (arith, small))

look_again : (client reg : ℕ) → client < 8 → reg < 1024 → question_said question.Look (decimal client ∷ decimal reg ∷ []) ≡ Ok (Look client reg)
unfolding question_said look_at
look_again client reg few low =
    ap (λ o. ok_or o cause.Number >>= λ client. ok_or (number_below 1024 (decimal reg)) cause.Number >>= λ reg. Ok (Look client reg)) (below_again 8 client (lit< tt) few)
    ∙ ap (λ o. ok_or o cause.Number >>= λ reg. Ok (Look client reg)) (below_again 1024 reg (lit< tt) low)

name_again : (place : ℕ) → place < 2 ^ 32 → question_said question.Name (decimal place ∷ []) ≡ Ok (Name place)
unfolding question_said number_in
name_again place small = ap (λ o. ok_or o cause.Number >>= λ place. Ok (Name place)) (number_of_decimal place small)

watch_again : (number : ℕ) → number < 2 ^ 32 → question_said question.Watch (decimal number ∷ []) ≡ Ok (Watch number)
unfolding question_said number_in
watch_again number small = ap (λ o. ok_or o cause.Number >>= λ number. Ok (Watch number)) (number_of_decimal number small)

count_again : question_said question.Count [] ≡ Ok Count
unfolding question_said
count_again = refl

-- a line of a script asks no question
digit_apart : (c : ℕ) → ((48 + c) == 33) ≡ false
digit_apart c = grind (arith, nat_tests)

client_apart : (c : ℕ) → c < 8 → pointwise ◌==◌ (decimal c) (codes "!") ≡ false
client_apart c small = ap (λ w. pointwise ◌==◌ w (codes "!")) (decimal_digit c (omega (arith, small))) ∙ ap (λ b. b && true) (digit_apart c)

none_asked : (line : Says) (words : List (List ℕ)) → IsFirst (first_of line) → question_in (first_word (first_of line) ∷ word.word_of (said line).0 ∷ words) ≡ None
none_asked (says.Client client cmd) words few = ap (λ b. if b then option_map (λ asked. (asked, words)) (question_at (word.word_of (said (says.Client client cmd)).0)) else None) (client_apart client few)
none_asked (says.Gc count) words few = refl
none_asked (says.Flush count) words few = refl

line_again : (body : List ℕ) (line : Says) → IsBody body line → asked_at body ≡ Ok (Line line)
line_again body line is =
    short_read body None (Line line) is.short
    (ap (λ body. question_in (words_of body)) is.joined
    ∙ ap question_in (words_again (first_word (first_of line)) (word.word_of (said line).0 ∷ is.words) (first_plain (first_of line) is.first, (verb_plain (said line).0, values_plain (said line).1 is.words is.values)))
    ∙ none_asked line is.words is.first)
    (ap (λ read. read >>= λ said. Ok (Line said)) (plain_reading.again body line is))

pub read_again : (body : List ℕ) (asked : Asked) → Spells body asked → asked_at body ≡ Ok asked
read_again body (Line line) is = line_again body line is
read_again body (Look client reg) is =
    let long : length body ≡ 7 + length (decimal client ++ 32 ∷ decimal reg) = ap length is.2 ∙ length-append (codes "! look ") (decimal client ++ 32 ∷ decimal reg) in
    let both : length (decimal client ++ 32 ∷ decimal reg) ≡ length (decimal client) + suc (length (decimal reg)) = length-append (decimal client) (32 ∷ decimal reg) in
    let one = ten_digits client (omega (arith, is.0)) in
    let two = ten_digits reg (omega (arith, is.1)) in
    asked_again body question.Look (Number client ∷ Number reg ∷ []) (decimal client ∷ decimal reg ∷ []) (Look client reg) is.2 ((omega (arith, is.0), refl), ((omega (arith, is.1), refl), tt)) (omega (arith, long, both, one, two)) (look_again client reg is.0 is.1)
read_again body (Name place) is =
    let long : length body ≡ 7 + length (decimal place) = ap length is.1 ∙ length-append (codes "! name ") (decimal place) in
    asked_again body question.Name (Number place ∷ []) (decimal place ∷ []) (Name place) is.1 ((is.0, refl), tt) (omega (arith, long, ten_digits place is.0)) (name_again place is.0)
read_again body Count is = let long : length body ≡ 7 = ap length is in asked_again body question.Count [] [] Count is tt (omega (arith, long)) count_again
read_again body (Watch number) is =
    let long : length body ≡ 8 + length (decimal number) = ap length is.1 ∙ length-append (codes "! watch ") (decimal number) in
    asked_again body question.Watch (Number number ∷ []) (decimal number ∷ []) (Watch number) is.1 ((is.0, refl), tt) (omega (arith, long, ten_digits number is.0)) (watch_again number is.0)

-- ---- what is read is spelled

named_by : (word : List ℕ) (q : Question) (look name count watch : Bool) → pointwise ◌==◌ word (codes "look") ≡ look → pointwise ◌==◌ word (codes "name") ≡ name → pointwise ◌==◌ word (codes "count") ≡ count → pointwise ◌==◌ word (codes "watch") ≡ watch
    → (if look then Some question.Look else (if name then Some question.Name else (if count then Some question.Count else (if watch then Some question.Watch else None)))) ≡ Some q → word ≡ word_of q
named_by word q true name count watch a b c d is = (bytes_decides word (codes "look")).0 a ∙ ap word_of (same_Some question.Look q is)
named_by word q false true count watch a b c d is = (bytes_decides word (codes "name")).0 b ∙ ap word_of (same_Some question.Name q is)
named_by word q false false true watch a b c d is = (bytes_decides word (codes "count")).0 c ∙ ap word_of (same_Some question.Count q is)
named_by word q false false false true a b c d is = (bytes_decides word (codes "watch")).0 d ∙ ap word_of (same_Some question.Watch q is)
named_by word q false false false false a b c d is = absurd cc

named : (word : List ℕ) (q : Question) → question_at word ≡ Some q → word ≡ word_of q
named word q is = named_by word q _ _ _ _ refl refl refl refl is

-- the words behind the exclamation mark are those of a question
asked_words : (first second : List ℕ) (rest : List (List ℕ)) (q : Question) (words : List (List ℕ)) (bang : Bool) (o : Option Question) → pointwise ◌==◌ first (codes "!") ≡ bang → question_at second ≡ o
    → (if bang then option_map {U = Question × List (List ℕ)} (λ asked. (asked, rest)) o else None) ≡ Some (q, words) → (first ∷ second ∷ rest) ≡ codes "!" ∷ word_of q ∷ words
asked_words first second rest q words true (Some p) a b is =
    let same : (p, rest) ≡ (q, words) = same_Some (p, rest) (q, words) is in
    let one : first ≡ codes "!" = (bytes_decides first (codes "!")).0 a in
    let two : second ≡ word_of q = named second p b ∙ ap (λ (x : Question × List (List ℕ)). word_of x.0) same in
    λ i. one i ∷ two i ∷ (same i).1
asked_words first second rest q words true None a b is = absurd cc
asked_words first second rest q words false o a b is = absurd cc

question_words : (all : List (List ℕ)) (q : Question) (words : List (List ℕ)) → question_in all ≡ Some (q, words) → all ≡ codes "!" ∷ word_of q ∷ words
question_words [] q words is = absurd cc
question_words (first ∷ []) q words is = absurd cc
question_words (first ∷ second ∷ rest) q words is = asked_words first second rest q words _ _ refl refl is

one_word : (words : List (List ℕ)) (one : List ℕ) → one_of words ≡ Some one → words ≡ one ∷ []
one_word [] one is = absurd cc
one_word (a ∷ []) one is = ap (λ w. w ∷ []) (same_Some a one is)
one_word (a ∷ b ∷ words) one is = absurd cc

two_words : (words : List (List ℕ)) (two : List ℕ × List ℕ) → two_of words ≡ Some two → words ≡ two.0 ∷ two.1 ∷ []
two_words [] two is = absurd cc
two_words (a ∷ []) two is = absurd cc
two_words (a ∷ b ∷ []) two is = ap (λ (p : List ℕ × List ℕ). p.0 ∷ p.1 ∷ []) (same_Some (a, b) two is)
two_words (a ∷ b ∷ c ∷ words) two is = absurd cc

-- a line with a question and these words
abbrev lines_with : Question → List (List ℕ) → List ℕ
lines_with q words = join_with_byte 32 (codes "!" ∷ word_of q ∷ words)

look_by : (words : List (List ℕ)) (asked : Asked) (two : List ℕ × List ℕ) (client reg : ℕ) → two_of words ≡ Some two → number_below 8 two.0 ≡ Some client → number_below 1024 two.1 ≡ Some reg → Look client reg ≡ asked
    → Spells (lines_with question.Look words) asked
look_by words asked two client reg both one other is =
    let first = below_found 8 two.0 client one in
    let second = below_found 1024 two.1 reg other in
    let whole : words ≡ decimal client ∷ decimal reg ∷ [] = two_words words two both ∙ (λ i. first.1 i ∷ second.1 i ∷ []) in
    subst (Spells (lines_with question.Look words)) is (first.0, second.0, ap (lines_with question.Look) whole)

look_found : (words : List (List ℕ)) (asked : Asked) → look_at words ≡ Ok asked → Spells (lines_with question.Look words) asked
unfolding look_at
look_found words asked is =
    let both = bind_ok (ok_or (two_of words) cause.Count) (λ two. ok_or (number_below 8 two.0) cause.Number >>= λ client. ok_or (number_below 1024 two.1) cause.Number >>= λ reg. Ok (Look client reg)) asked is in
    let client = bind_ok (ok_or (number_below 8 both.0.0) cause.Number) (λ client. ok_or (number_below 1024 both.0.1) cause.Number >>= λ reg. Ok (Look client reg)) asked both.2 in
    let reg = bind_ok (ok_or (number_below 1024 both.0.1) cause.Number) (λ reg. Ok (Look client.0 reg)) asked client.2 in
    look_by words asked both.0 client.0 reg.0 (some_ok _ _ _ both.1) (some_ok _ _ _ client.1) (some_ok _ _ _ reg.1) (ok_same (Look client.0 reg.0) asked reg.2)

number_found : (words : List (List ℕ)) (number : ℕ) → number_in words ≡ Ok number → (number < 2 ^ 32) × (words ≡ decimal number ∷ [])
unfolding number_in
number_found words number is =
    let one = bind_ok (ok_or (one_of words) cause.Count) (λ word. ok_or (number_of word) cause.Number) number is in
    let spelled = numbers.found one.0 number (some_ok _ _ _ one.2) in
    (spelled.0, one_word words one.0 (some_ok _ _ _ one.1) ∙ ap (λ w. w ∷ []) spelled.1)

said_found : (q : Question) (words : List (List ℕ)) (asked : Asked) → question_said q words ≡ Ok asked → Spells (lines_with q words) asked
unfolding question_said
said_found question.Look words asked is = look_found words asked is
said_found question.Name words asked is =
    let one = bind_ok (number_in words) (λ place. Ok (Name place)) asked is in
    let number = number_found words one.0 one.1 in
    subst (Spells (lines_with question.Name words)) (ok_same (Name one.0) asked one.2) (number.0, ap (lines_with question.Name) number.1)
said_found question.Count [] asked is = subst (Spells (lines_with question.Count [])) (ok_same Count asked is) refl
said_found question.Count (word ∷ words) asked is = absurd cc
said_found question.Watch words asked is =
    let one = bind_ok (number_in words) (λ number. Ok (Watch number)) asked is in
    let number = number_found words one.0 one.1 in
    subst (Spells (lines_with question.Watch words)) (ok_same (Watch one.0) asked one.2) (number.0, ap (lines_with question.Watch) number.1)

found_by : (body : List ℕ) (q : Option (Question × List (List ℕ))) (asked : Asked) → question_in (words_of body) ≡ q → asked_by q (line_at body) ≡ Ok asked → Spells body asked
found_by body None asked is read =
    let line = bind_ok (line_at body) (λ said. Ok (Line said)) asked read in
    subst (Spells body) (ok_same (Line line.0) asked line.2) (plain_reading.found body line.0 line.1)
found_by body (Some (q, words)) asked is read =
    subst (λ body. Spells body asked) (ap (join_with_byte 32) (sym (question_words (words_of body) q words is)) ∙ join_with_byte-slice_split 32 body) (said_found q words asked read)

long_by : (test : Bool) (read : Result Asked Cause) (asked : Asked) → (if test then Err cause.LineTooLong else read) ≡ Ok asked → read ≡ Ok asked
long_by true read asked is = absurd cc
long_by false read asked is = is

pub read_only : (body : List ℕ) (asked : Asked) → asked_at body ≡ Ok asked → Spells body asked
unfolding asked_at
read_only body asked is = found_by body (question_in (words_of body)) asked refl (long_by (nat_lt 16384 (length body)) (asked_by (question_in (words_of body)) (line_at body)) asked is)
