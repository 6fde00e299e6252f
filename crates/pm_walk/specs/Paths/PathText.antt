-- The lines of a path, and their text.
use Rattle.std.specs.Prelude.{ℕ, List, [], ◌∷◌, map, codes, decimal}
use Rattle.std.specs.List.{flat_map, join_with_byte}
use Rattle.pm_script.specs.Lines.{ended}
use Rattle.pm_walk.specs.declared.paths.path.PathStep.{PathStep}
use Rattle.pm_walk.specs.Paths.Paths.{Path}

-- a line of a path: a name with the identity of its object, or the index of a field with the identity that it holds
pub data PathLine : Type 0 where
  RootLine : List ℕ → ℕ → PathLine
  FieldLine : ℕ → ℕ → PathLine

-- the line of a step
abbrev pub step_line : PathStep → PathLine
step_line step = FieldLine step.index step.id

-- the lines of a path, in order: of its name with the first identity, and of each further step
abbrev pub lines_from : List ℕ → List PathStep → List PathLine
lines_from name [] = []
lines_from name (first ∷ steps) = RootLine name first.id ∷ map step_line steps

abbrev pub path_lines : Path → List PathLine
path_lines path = lines_from path.name path.steps

-- the words that are written for a line
abbrev pub path_line_words : PathLine → List (List ℕ)
path_line_words (RootLine name id) = codes "root" ∷ name ∷ decimal id ∷ []
path_line_words (FieldLine index id) = codes "field" ∷ decimal index ∷ decimal id ∷ []

-- what is written for a line: its words with one space between each two, and a newline
abbrev pub path_line_text : PathLine → List ℕ
path_line_text line = ended (join_with_byte 32 (path_line_words line))

-- the text of a path: that of each line, in order
abbrev pub path_text_of : Path → List ℕ
path_text_of path = flat_map path_line_text (path_lines path)
