-- Scripts: which bytes are a script, and of which lines.
use Rattle.std.specs.Prelude.{◌≡◌, ℕ, ◌≤◌, List, [], ◌∷◌, map, length, decimal}
use Rattle.std.specs.List.{AllByRecursion, flat_map, join_with_byte}
use Rattle.pm_types.specs.declared.limits.TheConstants.{SCRIPT_LINES, SOURCE_BYTES}
use Rattle.pm_types.specs.declared.command.Cmd.{Cmd}
use Rattle.pm_types.specs.declared.command.Cmd.TheVariants as cmd
use Rattle.pm_script.specs.declared.limits.TheConstants.{LINE_BYTES}
use Rattle.pm_script.specs.declared.verb.Verb.{Verb}
use Rattle.pm_script.specs.declared.verb.Verb.TheVariants as verb
use Rattle.pm_script.specs.declared.verb.First.{First}
use Rattle.pm_script.specs.declared.verb.First.TheVariants as first
use Rattle.pm_script.specs.declared.line.Line.{Line}
use Rattle.pm_script.specs.declared.line.Line.TheVariants as line
use Rattle.pm_script.specs.Lines.{lines_of, spoken, ended}
use Rattle.pm_script.specs.Words.{word_of, first_word, IsFirst, Value, Register, Number, Hex, Name, AreSpelled, IsValue, value_word}

-- how a command is said: what names it, and the values after that
abbrev pub command_said : Cmd → Verb × List Value
command_said (cmd.New reg count bytes) = (verb.New, Register reg ∷ Number count ∷ Hex bytes ∷ [])
command_said (cmd.Load to reg index) = (verb.Load, Register to ∷ Register reg ∷ Number index ∷ [])
command_said (cmd.Store reg index value) = (verb.Store, Register reg ∷ Number index ∷ Register value ∷ [])
command_said (cmd.Clear reg index) = (verb.Clear, Register reg ∷ Number index ∷ [])
command_said (cmd.Show reg) = (verb.Data, Register reg ∷ [])
command_said (cmd.Put reg at bytes) = (verb.Put, Register reg ∷ Number at ∷ Hex bytes ∷ [])
command_said (cmd.Copy to reg) = (verb.Copy, Register to ∷ Register reg ∷ [])
command_said (cmd.IdOf reg) = (verb.Id, Register reg ∷ [])
command_said (cmd.Forget reg) = (verb.Drop, Register reg ∷ [])
command_said (cmd.Bind name reg) = (verb.Root, Name name ∷ Register reg ∷ [])
command_said (cmd.Unbind name) = (verb.Unroot, Name name ∷ [])
command_said (cmd.Find to name) = (verb.Find, Register to ∷ Name name ∷ [])
command_said cmd.Save = (verb.Save, [])
command_said cmd.Settle = (verb.Settle, [])
command_said cmd.Watch = (verb.Watch, [])
command_said cmd.Close = (verb.Close, [])
command_said (cmd.Swap reg index old value) = (verb.Swap, Register reg ∷ Number index ∷ Register old ∷ Register value ∷ [])
command_said cmd.Unsave = (verb.Unsave, [])

-- how a line is said
abbrev pub said : Line → Verb × List Value
said (line.Client client cmd) = command_said cmd
said (line.Gc count) = (verb.Gc, Number count ∷ [])
said (line.Flush count) = (verb.Flush, Number count ∷ [])

-- who says it
abbrev pub first_of : Line → First
first_of (line.Client client cmd) = first.Client client
first_of (line.Gc count) = first.Bang
first_of (line.Flush count) = first.Bang

-- the body spells the line: its first word, the word that names what it asks, and a word for each value, with one space
-- between each two
pub record IsBody (body : List ℕ) (line : Line) : Type 0 where
  pub words : List (List ℕ)
  pub first : IsFirst (first_of line)
  pub values : AreSpelled (said line).1 words
  pub joined : body ≡ join_with_byte 32 (first_word (first_of line) ∷ word_of (said line).0 ∷ words)
  pub short : length body ≤ LINE_BYTES

-- as many bodies as lines, each of which stands for the line in its place
abbrev pub StandFor : {L : Type 0} → (List ℕ → L → Type 0) → List (List ℕ) → List L → Type 0
StandFor says [] [] = Unit {0}
StandFor says (body ∷ bodies) (line ∷ lines) = says body line × StandFor says bodies lines
StandFor says bodies lines = ⊥

-- as many bodies as lines, each of which spells the line in its place
abbrev pub AreBodies : List (List ℕ) → List Line → Type 0
AreBodies bodies lines = StandFor IsBody bodies lines

-- the lines of the bytes that say something stand for these lines, one after the other
pub record IsScriptOf {L : Type 0} (says : List ℕ → L → Type 0) (bytes : List ℕ) (lines : List L) : Type 0 where
  pub short : length bytes ≤ SOURCE_BYTES
  pub few : length (lines_of bytes) ≤ SCRIPT_LINES
  pub each : StandFor says (spoken (lines_of bytes)) lines

-- the bytes are a script of these lines: the lines of the bytes that say something spell them, one after the other
abbrev pub IsScript : List ℕ → List Line → Type 0
IsScript bytes lines = IsScriptOf IsBody bytes lines

-- the body in which a client says `new` of a register and a number of fields, with this word for the bytes
abbrev pub new_body : ℕ → ℕ → ℕ → List ℕ → List ℕ
new_body client reg count word = join_with_byte 32 (first_word (first.Client client) ∷ word_of verb.New ∷ decimal reg ∷ decimal count ∷ word ∷ [])

-- the line asks what can be spelled
pub record IsLine (line : Line) : Type 0 where
  pub first : IsFirst (first_of line)
  pub values : AllByRecursion IsValue (said line).1

-- one way to spell a line
abbrev pub spelling : Line → List ℕ
spelling line = join_with_byte 32 (first_word (first_of line) ∷ word_of (said line).0 ∷ map value_word (said line).1)

-- one way to spell lines
abbrev pub text_of : List Line → List ℕ
text_of lines = flat_map (λ line. ended (spelling line)) lines

-- there are lines that can be spelled so, within the limits of line, count and source
pub record HasSpelling (lines : List Line) : Type 0 where
  pub each : AllByRecursion IsLine lines
  pub narrow : AllByRecursion (λ line. length (spelling line) ≤ LINE_BYTES) lines
  pub few : length lines ≤ SCRIPT_LINES
  pub short : length (text_of lines) ≤ SOURCE_BYTES

-- a script's lines are few, and each client is one of the eight
pub record AreLines (lines : List Line) : Type 0 where
  pub few : length lines ≤ SCRIPT_LINES
  pub clients : AllByRecursion (λ line. IsFirst (first_of line)) lines
