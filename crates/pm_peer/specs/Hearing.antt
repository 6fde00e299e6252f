-- What one call for the next line hears, answers and keeps.
use Rattle.std.specs.Prelude.{◌≡◌, ℕ, false, List, [], ◌∷◌, ◌++◌, Option, Some, length}
use Rattle.std.specs.List.{concat}
use Rattle.pm_peer.specs.declared.said.Said.{Said}
use Rattle.pm_peer.specs.declared.next.Next.{Next}
use Rattle.pm_peer.specs.FirstLine.{has_newline, IsAnswer, IsEnding}
use Rattle.pm_peer.specs.Buffers.{BufferState}
use Rattle.pm_peer.specs.Talk.{Hears}

-- what contracts see of lines: the bytes that were heard and are in no answer yet, and the line that is lent
pub record LinesState : Type 0 where
  pub kept : List ℕ
  pub line : List ℕ

-- what lines are over a buffer
abbrev pub lines_in : BufferState → LinesState
lines_in buffer = record { kept = buffer.kept; line = buffer.line }

-- lines of which nothing was heard
abbrev pub new_lines : LinesState
new_lines = record { kept = []; line = [] }

-- no piece but the last has a newline
abbrev pub IsEnough : List (List ℕ) → Type 0
IsEnough [] = Unit {0}
IsEnough (piece ∷ []) = Unit {0}
IsEnough (piece ∷ next ∷ pieces) = (has_newline piece ≡ false) × IsEnough (next ∷ pieces)

-- the answer, and what was heard for it
pub record HearsNext (answer : Next) (old new : LinesState) (left new_left : Option (List ℕ)) (talk new_talk : Option (List Said)) : Type 0 where
  -- what was heard, in order
  pub pieces : List (List ℕ)
  pub heard : Hears pieces left new_left talk new_talk
  -- nothing is heard behind a newline that came
  pub enough : IsEnough pieces
  -- the answer is that of the first line of what was kept and what was heard, and what is behind that is kept
  pub first : IsAnswer answer (length pieces) (old.kept ++ concat pieces) new.line new.kept
  -- an answer of the end comes where the peer has none left
  pub ended : IsEnding answer (length pieces) → (bytes : List ℕ) → left ≡ Some bytes → new_left ≡ Some []

-- what was heard before the peer failed: no newline came, and there was none in what was kept
pub record HearsQuiet (kept : List ℕ) (left new_left : Option (List ℕ)) (talk new_talk : Option (List Said)) : Type 0 where
  pub pieces : List (List ℕ)
  pub heard : Hears pieces left new_left talk new_talk
  pub quiet : has_newline (kept ++ concat pieces) ≡ false

-- all of that is lost, and the lines are as new
pub record HearsNone (old new : LinesState) (left new_left : Option (List ℕ)) (talk new_talk : Option (List Said)) : Type 0 where
  pub heard : HearsQuiet old.kept left new_left talk new_talk
  pub spent : new ≡ new_lines
