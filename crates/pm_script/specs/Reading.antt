-- Reading bytes, as functions on lists. Each step gives a value, or the cause why the line is bad.
use Rattle.std.specs.Prelude.{◌≡◌, ℕ, ◌+◌, ◌==◌, List, [], ◌∷◌, length, Option, Result, Ok, Err, nat_lt, if◌then◌else◌}
use Rattle.std.specs.Option.{ok_or}
use Rattle.pm_types.specs.Results.{◌>>=◌}
use Rattle.pm_types.specs.declared.limits.TheConstants.{SCRIPT_LINES}
use Rattle.pm_script.specs.declared.limits.TheConstants.{LINE_BYTES}
use Rattle.pm_script.specs.declared.fault.Cause.{Cause}
use Rattle.pm_script.specs.declared.fault.Cause.TheVariants as cause
use Rattle.pm_types.specs.declared.caused.Fault.{Fault}
use Rattle.pm_types.specs.declared.caused.Fault.TheVariants as line_fault
use Rattle.pm_script.specs.declared.fault.ScriptFault.{ScriptFault}
use Rattle.pm_script.specs.declared.fault.ScriptFault.TheVariants as script_fault
use Rattle.pm_script.specs.declared.verb.Dialect.{Dialect}
use Rattle.pm_script.specs.declared.verb.Dialect.TheVariants as dialect
use Rattle.pm_script.specs.declared.verb.First.{First}
use Rattle.pm_script.specs.declared.line.Line.{Line}
use Rattle.pm_script.specs.declared.line.YoungLine.{YoungLine}
use Rattle.pm_script.specs.Lines.{lines_of, is_silent, words_of}
use Rattle.pm_script.specs.Words.{kinds}
use Rattle.pm_script.specs.Values.{first_at, verb_at}
use Rattle.pm_script.specs.Taking.{Asked, asked_at, young_asked_at}

-- a fault of a line is what reading gives; want of memory may come at any time
abbrev pub Fails : {X : Type 0} → Fault Cause → Result X Cause → Type 0
Fails (line_fault.Bad cause) read = read ≡ Err cause
Fails (line_fault.Memory _) read = Unit {0}

-- what a reader answered is what reading gives, unless memory ran out
abbrev pub Gives : {X : Type 0} → Result X (Fault Cause) → Result X Cause → Type 0
Gives (Ok x) read = read ≡ Ok x
Gives (Err fault) read = Fails fault read

-- the same of a reader of one word, which is not of its kind for this cause
abbrev pub Finds : {X : Type 0} → Result X (Fault Cause) → Cause → Option X → Type 0
Finds result cause found = Gives result (ok_or found cause)

-- what a reader took from the front, and the words that it left, unless memory ran out
abbrev pub Takes : {X : Type 0} → Result X (Fault Cause) → Result (X × List (List ℕ)) Cause → List (List ℕ) → Type 0
Takes (Ok x) read left = read ≡ Ok (x, left)
Takes (Err fault) read left = Fails fault read

-- a fault of a script is what reading gives; want of memory may come at any time
abbrev pub Stops : {X : Type 0} → ScriptFault → Result X ScriptFault → Type 0
Stops (script_fault.Memory _) read = Unit {0}
Stops fault read = read ≡ Err fault

-- what the reader of scripts answered is what reading gives, unless memory ran out
abbrev pub Answers : {X : Type 0} → Result X ScriptFault → Result X ScriptFault → Type 0
Answers (Ok x) read = read ≡ Ok x
Answers (Err fault) read = Stops fault read

-- the same of a reader whose value is seen by view
abbrev pub Tells : {X Y : Type 0} → (X → Y) → Result X ScriptFault → Result Y ScriptFault → Type 0
Tells view (Ok x) read = read ≡ Ok (view x)
Tells view (Err fault) read = Stops fault read

-- the words after the one that names what is asked: their number is looked at before them
unfoldable pub counted_at : {L : Type 0} → Asked L → Asked L
counted_at asked first verb words = if length words == length (kinds verb) then asked first verb words else Err cause.Count

-- the words after the first
unfoldable pub said_at : {L : Type 0} → Dialect → Asked L → First → List (List ℕ) → Result L Cause
said_at dialect asked first [] = Err cause.Word
said_at dialect asked first (word ∷ words) = do
  verb ← ok_or (verb_at dialect first word) cause.Word
  counted_at asked first verb words

-- all words
unfoldable pub first_said_at : {L : Type 0} → Dialect → Asked L → List (List ℕ) → Result L Cause
first_said_at dialect asked [] = Err cause.Client
first_said_at dialect asked (word ∷ words) = do
  first ← ok_or (first_at word) cause.Client
  said_at dialect asked first words

-- a line that says something: its length is looked at before its words
unfoldable pub body_at : {L : Type 0} → Dialect → Asked L → List ℕ → Result L Cause
body_at dialect asked body = if nat_lt LINE_BYTES (length body) then Err cause.LineTooLong else first_said_at dialect asked (words_of body)

-- a line of a script
abbrev pub line_at : List ℕ → Result Line Cause
line_at body = body_at dialect.Plain asked_at body

-- a line of a script for a run with a nursery
abbrev pub young_line_at : List ℕ → Result YoungLine Cause
young_line_at body = body_at dialect.Young young_asked_at body

-- what was read of the line of this number
abbrev pub numbered : {L : Type 0} → ℕ → Result L Cause → Result L ScriptFault
numbered number (Ok line) = Ok line
numbered number (Err cause) = Err (script_fault.Line number cause)

-- lines one after another, each read so, the first of which has this number
abbrev pub lines_at : {L : Type 0} → (List ℕ → Result L Cause) → ℕ → List (List ℕ) → Result (List L) ScriptFault
lines_at read number [] = Ok []
lines_at read number (body ∷ bodies) =
    if is_silent body then lines_at read (number + 1) bodies
    else (numbered number (read body) >>= λ line. lines_at read (number + 1) bodies >>= λ lines. Ok (line ∷ lines))

-- all lines, which are counted before any is read
unfoldable pub script_at : {L : Type 0} → (List ℕ → Result L Cause) → List ℕ → Result (List L) ScriptFault
script_at read bytes = if nat_lt SCRIPT_LINES (length (lines_of bytes)) then Err script_fault.TooManyLines else lines_at read 1 (lines_of bytes)
