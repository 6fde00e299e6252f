-- How lines are said: the values of a line, and the words that spell them.
use Rattle.std.proofs.Common.{◌≡◌, ℕ, suc, true, List, [], ◌∷◌, length, map, refl, ap}
use Rattle.pm_types.specs.declared.command.Cmd.{Cmd}
use Rattle.pm_types.specs.declared.command.Cmd.TheVariants as cmd
use Rattle.pm_script.specs.declared.verb.Dialect.TheVariants as dialect
use Rattle.pm_script.specs.declared.verb.First.TheVariants as first
use Rattle.pm_script.specs.declared.line.Line.{Line}
use Rattle.pm_script.specs.declared.line.Line.TheVariants as line
use Rattle.pm_script.specs.Words.{kinds, Value, kind_of, belongs, AreSpelled}
use Rattle.pm_script.specs.Script.{command_said, said, first_of}

command_kinds : (command : Cmd) → map kind_of (command_said command).1 ≡ kinds (command_said command).0
command_kinds cmd.Save = refl
command_kinds command = refl

-- its values are of the kinds that stand after its word
pub line_kinds : (l : Line) → map kind_of (said l).1 ≡ kinds (said l).0
line_kinds (line.Client c command) = command_kinds command
line_kinds (line.Gc count) = refl
line_kinds (line.Flush count) = refl

command_belongs : (command : Cmd) (c : ℕ) → belongs dialect.Plain (first.Client c) (command_said command).0 ≡ true
command_belongs cmd.Save c = refl
command_belongs command c = refl

-- and its word may stand after its first, in a script
pub line_belongs : (l : Line) → belongs dialect.Plain (first_of l) (said l).0 ≡ true
line_belongs (line.Client c command) = command_belongs command c
line_belongs (line.Gc count) = refl
line_belongs (line.Flush count) = refl

-- as many words spell values as there are values
pub as_many : (values : List Value) (words : List (List ℕ)) → AreSpelled values words → length words ≡ length (map kind_of values)
as_many [] [] are = refl
as_many [] (word ∷ words) are = absurd are
as_many (value ∷ values) [] are = absurd are
as_many (value ∷ values) (word ∷ words) are = ap suc (as_many values words are.1)
