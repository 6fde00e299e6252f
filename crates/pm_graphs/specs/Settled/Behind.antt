-- What stands behind a text with which bytes begin.
use Rattle.std.specs.Prelude.{◌≡◌, ℕ, List, ◌++◌, Option, Some, None}

-- these are the bytes behind the text, and none where the bytes do not begin with it
abbrev pub IsBehind : List ℕ → List ℕ → Option (List ℕ) → Type 0
IsBehind bytes text None = (rest : List ℕ) → bytes ≡ text ++ rest → ⊥
IsBehind bytes text (Some rest) = bytes ≡ text ++ rest

-- the same of a text that something is spelled by, if it has a spelling, which it has where there are some
abbrev pub IsBehindOf : Type 0 → List ℕ → List ℕ → Option (List ℕ) → Type 0
IsBehindOf Has bytes text None = Has → (rest : List ℕ) → bytes ≡ text ++ rest → ⊥
IsBehindOf Has bytes text (Some rest) = (bytes ≡ text ++ rest) × Has
