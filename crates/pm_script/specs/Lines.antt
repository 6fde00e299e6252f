-- Bytes cut into parts, lines and words.
use Rattle.std.specs.Prelude.{ℕ, Bool, true, not, List, [], ◌∷◌, ◌++◌, Option, None, Some, filter, nat_eq, if◌then◌else◌}
use Rattle.std.specs.Borrow.{Bor}
use Rattle.std.specs.List.{onto_first, slice_split}

-- the parts between marks of what is left of a text, which may be nothing
abbrev pub parts_in : ℕ → Option (Bor (List ℕ)) → List (List ℕ)
parts_in mark None = []
parts_in mark (Some text) = slice_split (λ b. nat_eq b mark) text.now

-- the lines of bytes: a newline ends its line, and bytes after the last newline are one more line
abbrev pub lines_of : List ℕ → List (List ℕ)
lines_of [] = []
lines_of (byte ∷ bytes) = if nat_eq byte 10 then [] ∷ lines_of bytes else onto_first byte (lines_of bytes)

-- a line that is empty, or that begins with #, says nothing
abbrev pub is_silent : List ℕ → Bool
is_silent [] = true
is_silent (byte ∷ bytes) = nat_eq byte 35

-- the lines that say something
abbrev pub spoken : List (List ℕ) → List (List ℕ)
spoken bodies = filter (λ body. not (is_silent body)) bodies

-- the words of a line: what stands between each two spaces
abbrev pub words_of : List ℕ → List (List ℕ)
words_of body = slice_split (λ b. nat_eq b 32) body

-- a line and the newline that ends it
abbrev pub ended : List ℕ → List ℕ
ended body = body ++ 10 ∷ []
