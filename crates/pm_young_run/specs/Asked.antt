-- What the lines of a script for a run with a nursery ask, counted as lines of any script.
use Rattle.std.specs.Prelude.{ℕ, ◌+◌, List, [], ◌∷◌, map}
use Rattle.std.specs.List.{flat_map, sum_by}
use Rattle.pm_script.specs.declared.line.Line.{Line}
use Rattle.pm_script.specs.declared.line.Line.TheVariants.{Flush}
use Rattle.pm_script.specs.declared.line.YoungLine.{YoungLine}
use Rattle.pm_script.specs.declared.line.YoungLine.TheVariants.{Base, Young}
use Rattle.pm_script.specs.Parted.Asked.{events_asked}

-- The line of any script that asks for as much: a sweep is one event, which answers no command and is none of the
-- collector, as one page is. It says how a line is counted, and not what it does.
abbrev pub as_line : YoungLine → Line
as_line (Base line) = line
as_line Young = Flush 1

-- those that ask for as much as these lines, one for each
abbrev pub as_lines : List YoungLine → List Line
as_lines lines = map as_line lines

-- the line of any script that it is, if it is one
abbrev pub base_of : YoungLine → List Line
base_of (Base line) = line ∷ []
base_of Young = []

-- the lines of any script among these lines
abbrev pub bases_of : List YoungLine → List Line
bases_of lines = flat_map base_of lines

-- how many sweeps a line asks for
abbrev pub sweeps_of : YoungLine → ℕ
sweeps_of (Base line) = 0
sweeps_of Young = 1

-- how many of them lines ask for
abbrev pub sweeps_asked : List YoungLine → ℕ
sweeps_asked lines = sum_by sweeps_of lines

-- how many events lines ask for: those of any script, and the sweeps
abbrev pub young_events_asked : List YoungLine → ℕ
young_events_asked lines = events_asked (bases_of lines) + sweeps_asked lines
