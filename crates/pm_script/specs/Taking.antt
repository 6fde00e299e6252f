-- Reading of words from the front: each step gives what its word stands for and the words after it, or the cause why the line is bad.
use Rattle.std.specs.Prelude.{ℕ, List, [], ◌∷◌, Option, Result, Ok, Err}
use Rattle.std.specs.Option.{ok_or}
use Rattle.pm_types.specs.Results.{◌>>=◌}
use Rattle.pm_types.specs.declared.limits.TheConstants.{REGISTERS}
use Rattle.pm_types.specs.declared.command.Cmd.{Cmd}
use Rattle.pm_types.specs.declared.command.Cmd.TheVariants as cmd
use Rattle.pm_script.specs.declared.fault.Cause.{Cause}
use Rattle.pm_script.specs.declared.fault.Cause.TheVariants as cause
use Rattle.pm_script.specs.declared.verb.Verb.{Verb}
use Rattle.pm_script.specs.declared.verb.Verb.TheVariants as verb
use Rattle.pm_script.specs.declared.verb.First.{First}
use Rattle.pm_script.specs.declared.verb.First.TheVariants as first
use Rattle.pm_script.specs.declared.line.Line.{Line}
use Rattle.pm_script.specs.declared.line.Line.TheVariants as line
use Rattle.pm_script.specs.declared.line.YoungLine.{YoungLine}
use Rattle.pm_script.specs.declared.line.YoungLine.TheVariants as young
use Rattle.pm_script.specs.Values.{number_below, number_of, hex_of, name_of}

-- the first word, read so, and the words after it
abbrev pub taken : {X : Type 0} → (List ℕ → Option X) → Cause → List (List ℕ) → Result (X × List (List ℕ)) Cause
taken read why [] = Err cause.Count
taken read why (word ∷ words) = ok_or (read word) why >>= λ x. Ok (x, words)

abbrev pub register_at : List (List ℕ) → Result (ℕ × List (List ℕ)) Cause
register_at words = taken (number_below REGISTERS) cause.Number words

abbrev pub number_at : List (List ℕ) → Result (ℕ × List (List ℕ)) Cause
number_at words = taken number_of cause.Number words

abbrev pub bytes_at : List (List ℕ) → Result (List ℕ × List (List ℕ)) Cause
bytes_at words = taken hex_of cause.Hex words

abbrev pub name_at : List (List ℕ) → Result (List ℕ × List (List ℕ)) Cause
name_at words = taken name_of cause.Name words

-- the command that a client asks so
unfoldable pub command_at : Verb → List (List ℕ) → Result Cmd Cause
command_at verb.New words = do
  reg ← register_at words
  count ← number_at reg.1
  bytes ← bytes_at count.1
  Ok (cmd.New reg.0 count.0 bytes.0)
command_at verb.Load words = do
  to ← register_at words
  reg ← register_at to.1
  index ← number_at reg.1
  Ok (cmd.Load to.0 reg.0 index.0)
command_at verb.Store words = do
  reg ← register_at words
  index ← number_at reg.1
  value ← register_at index.1
  Ok (cmd.Store reg.0 index.0 value.0)
command_at verb.Clear words = do
  reg ← register_at words
  index ← number_at reg.1
  Ok (cmd.Clear reg.0 index.0)
command_at verb.Data words = do
  reg ← register_at words
  Ok (cmd.Show reg.0)
command_at verb.Put words = do
  reg ← register_at words
  at ← number_at reg.1
  bytes ← bytes_at at.1
  Ok (cmd.Put reg.0 at.0 bytes.0)
command_at verb.Copy words = do
  to ← register_at words
  reg ← register_at to.1
  Ok (cmd.Copy to.0 reg.0)
command_at verb.Id words = do
  reg ← register_at words
  Ok (cmd.IdOf reg.0)
command_at verb.Drop words = do
  reg ← register_at words
  Ok (cmd.Forget reg.0)
command_at verb.Root words = do
  name ← name_at words
  reg ← register_at name.1
  Ok (cmd.Bind name.0 reg.0)
command_at verb.Unroot words = do
  name ← name_at words
  Ok (cmd.Unbind name.0)
command_at verb.Find words = do
  to ← register_at words
  name ← name_at to.1
  Ok (cmd.Find to.0 name.0)
command_at verb.Save words = Ok cmd.Save
command_at verb.Settle words = Ok cmd.Settle
command_at verb.Watch words = Ok cmd.Watch
command_at verb.Close words = Ok cmd.Close
command_at verb.Swap words = do
  reg ← register_at words
  index ← number_at reg.1
  old ← register_at index.1
  value ← register_at old.1
  Ok (cmd.Swap reg.0 index.0 old.0 value.0)
command_at verb.Unsave words = Ok cmd.Unsave
command_at verb.Gc words = Err cause.Count
command_at verb.Flush words = Err cause.Count
command_at verb.Young words = Err cause.Count

-- the line that asks for events so
unfoldable pub events_at : Verb → List (List ℕ) → Result Line Cause
events_at verb.Gc words = do
  count ← number_at words
  Ok (line.Gc count.0)
events_at verb.Flush words = do
  count ← number_at words
  Ok (line.Flush count.0)
events_at verb words = Err cause.Count

-- what is read of the words behind a first word and a verb
abbrev pub Asked : Type 0 → Type 0
Asked L = First → Verb → List (List ℕ) → Result L Cause

-- the line that is said so
unfoldable pub asked_at : Asked Line
asked_at (first.Client client) verb words = do
  cmd ← command_at verb words
  Ok (line.Client client cmd)
asked_at first.Bang verb words = events_at verb words

-- the line of a run with a nursery that is said so
unfoldable pub young_asked_at : Asked YoungLine
young_asked_at first verb.Young words = Ok young.Young
young_asked_at first verb words = do
  line ← asked_at first verb words
  Ok (young.Base line)
