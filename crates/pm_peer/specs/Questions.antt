-- What one line of a conversation asks.
use Rattle.std.specs.Prelude.{ℕ, ◌==◌, List, [], ◌∷◌, length, Option, Some, None, Result, Ok, Err, nat_lt, codes, if◌then◌else◌}
use Rattle.std.specs.Option.{ok_or, option_map}
use Rattle.std.specs.Cmp.Lexicographic.{pointwise}
use Rattle.pm_types.specs.Results.{◌>>=◌}
use Rattle.pm_types.specs.declared.limits.TheConstants.{CLIENTS, REGISTERS}
use Rattle.pm_script.specs.declared.limits.TheConstants.{LINE_BYTES}
use Rattle.pm_script.specs.declared.fault.Cause.{Cause}
use Rattle.pm_script.specs.declared.fault.Cause.TheVariants as cause
use Rattle.pm_script.specs.declared.line.Line.{Line as Says}
use Rattle.pm_script.specs.Lines.{words_of}
use Rattle.pm_script.specs.Reading.{line_at}
use Rattle.pm_script.specs.Values.{number_of, number_below}
use Rattle.pm_peer.specs.declared.asked.Asked.{Asked}
use Rattle.pm_peer.specs.declared.asked.Asked.TheVariants.{Line, Look, Name, Count, Watch}
use Rattle.pm_peer.specs.declared.question.Question.{Question}
use Rattle.pm_peer.specs.declared.question.Question.TheVariants as question

-- the word that names a question
abbrev pub word_of : Question → List ℕ
word_of question.Look = codes "look"
word_of question.Name = codes "name"
word_of question.Count = codes "count"
word_of question.Watch = codes "watch"

-- the question that a word names
abbrev pub question_at : List ℕ → Option Question
question_at word =
    if pointwise ◌==◌ word (word_of question.Look) then Some question.Look
    else (if pointwise ◌==◌ word (word_of question.Name) then Some question.Name
    else (if pointwise ◌==◌ word (word_of question.Count) then Some question.Count
    else (if pointwise ◌==◌ word (word_of question.Watch) then Some question.Watch else None)))

-- the one word that there is, of exactly one
abbrev pub one_of : List (List ℕ) → Option (List ℕ)
one_of (word ∷ []) = Some word
one_of words = None

-- the two words that there are, of exactly two
abbrev pub two_of : List (List ℕ) → Option (List ℕ × List ℕ)
two_of (one ∷ two ∷ []) = Some (one, two)
two_of words = None

-- the words behind `! look`: a client and a register
unfoldable pub look_at : List (List ℕ) → Result Asked Cause
look_at words = do
  two ← ok_or (two_of words) cause.Count
  client ← ok_or (number_below CLIENTS two.0) cause.Number
  reg ← ok_or (number_below REGISTERS two.1) cause.Number
  Ok (Look client reg)

-- the one number behind a word
unfoldable pub number_in : List (List ℕ) → Result ℕ Cause
number_in words = do
  word ← ok_or (one_of words) cause.Count
  ok_or (number_of word) cause.Number

-- nothing behind `! count`
abbrev pub count_at : List (List ℕ) → Result Asked Cause
count_at [] = Ok Count
count_at (word ∷ words) = Err cause.Count

-- the words behind the one that names the question: their number is looked at before them
unfoldable pub question_said : Question → List (List ℕ) → Result Asked Cause
question_said question.Look words = look_at words
question_said question.Name words = number_in words >>= λ place. Ok (Name place)
question_said question.Count words = count_at words
question_said question.Watch words = number_in words >>= λ number. Ok (Watch number)

-- the question that the words ask, and the words behind its own; nothing where they ask none: their first is no
-- exclamation mark, or their second names no question
abbrev pub question_in : List (List ℕ) → Option (Question × List (List ℕ))
question_in [] = None
question_in (first ∷ []) = None
question_in (first ∷ second ∷ words) =
    if pointwise ◌==◌ first (codes "!") then option_map (λ asked. (asked, words)) (question_at second) else None

-- what is asked: the question, or what a line of a script says
abbrev pub asked_by : Option (Question × List (List ℕ)) → Result Says Cause → Result Asked Cause
asked_by None line = line >>= λ said. Ok (Line said)
asked_by (Some asked) line = question_said asked.0 asked.1

-- what a line of a conversation asks: its length is looked at before its words
unfoldable pub asked_at : List ℕ → Result Asked Cause
asked_at body = if nat_lt LINE_BYTES (length body) then Err cause.LineTooLong else asked_by (question_in (words_of body)) (line_at body)
