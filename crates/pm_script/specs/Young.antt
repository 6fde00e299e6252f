-- Scripts for a run with a nursery: which bytes are one, and of which lines.
use Rattle.std.specs.Prelude.{◌≡◌, ℕ, ◌≤◌, Bool, true, false, List, [], length, codes}
use Rattle.std.specs.List.{AllByRecursion, flat_map}
use Rattle.pm_types.specs.declared.command.Cmd.TheVariants as cmd
use Rattle.pm_types.specs.declared.limits.TheConstants.{SCRIPT_LINES, SOURCE_BYTES}
use Rattle.pm_script.specs.declared.limits.TheConstants.{LINE_BYTES}
use Rattle.pm_script.specs.declared.verb.Verb.{Verb}
use Rattle.pm_script.specs.declared.verb.Verb.TheVariants as verb
use Rattle.pm_script.specs.declared.verb.First.{First}
use Rattle.pm_script.specs.declared.verb.First.TheVariants as first
use Rattle.pm_script.specs.declared.line.Line.{Line}
use Rattle.pm_script.specs.declared.line.Line.TheVariants as line
use Rattle.pm_script.specs.declared.line.YoungLine.{YoungLine}
use Rattle.pm_script.specs.declared.line.YoungLine.TheVariants.{Base, Young}
use Rattle.pm_script.specs.Lines.{ended}
use Rattle.pm_script.specs.Words.{IsFirst, Value}
use Rattle.pm_script.specs.Script.{said, first_of, IsBody, IsScriptOf, IsLine, spelling}

-- a client asks for the watch
abbrev pub asks_watch : Line → Bool
asks_watch (line.Client client cmd.Watch) = true
asks_watch line = false

-- how a line is said
abbrev pub young_said : YoungLine → Verb × List Value
young_said (Base line) = said line
young_said Young = (verb.Young, [])

-- who says it
abbrev pub young_first_of : YoungLine → First
young_first_of (Base line) = first_of line
young_first_of Young = first.Bang

-- the body spells the line: one of a script, but for `watch`, or these two words
abbrev pub IsYoungBody : List ℕ → YoungLine → Type 0
IsYoungBody body (Base line) = IsBody body line × (asks_watch line ≡ false)
IsYoungBody body Young = body ≡ codes "! young"

-- the bytes are a script of these lines: the lines of the bytes that say something spell them, one after the other
abbrev pub IsYoungScript : List ℕ → List YoungLine → Type 0
IsYoungScript bytes lines = IsScriptOf IsYoungBody bytes lines

-- the line asks what can be spelled
abbrev pub IsYoungLine : YoungLine → Type 0
IsYoungLine (Base line) = IsLine line × (asks_watch line ≡ false)
IsYoungLine Young = Unit {0}

-- one way to spell a line
abbrev pub young_spelling : YoungLine → List ℕ
young_spelling (Base line) = spelling line
young_spelling Young = codes "! young"

-- one way to spell lines
abbrev pub young_text_of : List YoungLine → List ℕ
young_text_of lines = flat_map (λ line. ended (young_spelling line)) lines

-- there are lines that can be spelled so, within the limits of line, count and source
pub record HasYoungSpelling (lines : List YoungLine) : Type 0 where
  pub each : AllByRecursion IsYoungLine lines
  pub narrow : AllByRecursion (λ line. length (young_spelling line) ≤ LINE_BYTES) lines
  pub few : length lines ≤ SCRIPT_LINES
  pub short : length (young_text_of lines) ≤ SOURCE_BYTES

-- what a line of a script asks here: any but `watch`
abbrev pub IsUnwatched : YoungLine → Type 0
IsUnwatched (Base line) = asks_watch line ≡ false
IsUnwatched Young = Unit {0}

-- a script's lines are few, each client is one of the eight, and none asks for the watch
pub record AreYoungLines (lines : List YoungLine) : Type 0 where
  pub few : length lines ≤ SCRIPT_LINES
  pub clients : AllByRecursion (λ line. IsFirst (young_first_of line)) lines
  pub unwatched : AllByRecursion IsUnwatched lines
