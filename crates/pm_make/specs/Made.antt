-- The script of a seed and a number of turns: its lines, and the text that spells them.
use Rattle.std.specs.Prelude.{ℕ, zero, suc, ◌/◌, ◌%◌, ◌==◌, if◌then◌else◌, List, [], ◌∷◌, ◌++◌, Option, Some, None, codes, decimal}
use Rattle.pm_types.specs.declared.command.Cmd.{Cmd}
use Rattle.pm_types.specs.declared.command.Cmd.TheVariants as cmd
use Rattle.pm_script.specs.declared.line.Line.{Line}
use Rattle.pm_script.specs.declared.line.Line.TheVariants as line
use Rattle.pm_script.specs.Script.{text_of}
use Rattle.pm_make.specs.declared.drawing.Turn.{Turn}
use Rattle.pm_make.specs.Drawing.{turn_of, state_after}

-- client 0 asks this
abbrev pub asks : Cmd → Line
asks cmd = line.Client 0 cmd

-- the two bytes of a number below 65,536, the high one first
abbrev pub two_bytes : ℕ → List ℕ
two_bytes number = number / 256 ∷ number % 256 ∷ []

-- the name of a number
abbrev pub name_of : ℕ → List ℕ
name_of number = codes "n" ++ decimal number

-- an object of four fields is made in the register
abbrev pub new_line : Turn → Line
new_line turn = asks (cmd.New turn.register 4 (two_bytes turn.bytes))

-- one of its fields is set to what another register holds
abbrev pub store_line : Turn → Line
store_line turn = asks (cmd.Store turn.register turn.index turn.value)

-- in some turns a name is bound to it
abbrev pub root_lines : Option ℕ → ℕ → List Line
root_lines None register = []
root_lines (Some name) register = asks (cmd.Bind (name_of name) register) ∷ []

-- the lines of what a turn drew: those, and three events of the collector
abbrev pub turn_lines : Turn → List Line
turn_lines turn = new_line turn ∷ store_line turn ∷ root_lines turn.name turn.register ++ line.Gc 3 ∷ []

-- a whole checkpoint
abbrev pub checkpoint_lines : List Line
checkpoint_lines = asks cmd.Save ∷ asks cmd.Settle ∷ []

-- each thousandth turn ends with one
abbrev pub thousandth_lines : ℕ → List Line
thousandth_lines turn = if turn % 1000 == 0 then checkpoint_lines else []

-- the lines of the first so many turns, which are counted from 1
abbrev pub first_lines : ℕ → ℕ → List Line
first_lines seed zero = []
first_lines seed (suc turns) = first_lines seed turns ++ turn_lines (turn_of (state_after seed turns)) ++ thousandth_lines (suc turns)

-- behind the turns: a checkpoint, a watch, client 0 lets all registers go, and a thousand events of the collector
abbrev pub last_lines : List Line
last_lines = checkpoint_lines ++ asks cmd.Watch ∷ asks cmd.Close ∷ line.Gc 1000 ∷ []

-- the lines of the script
abbrev pub made_lines : ℕ → ℕ → List Line
made_lines seed turns = first_lines seed turns ++ last_lines

-- the script: the text that spells them
abbrev pub made_text : ℕ → ℕ → List ℕ
made_text seed turns = text_of (made_lines seed turns)
