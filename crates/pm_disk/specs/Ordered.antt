-- Two writes with a sync between them.
use Rattle.std.specs.Prelude.{◌⊎◌, ℕ, List, length}
use Rattle.pm_disk.specs.Writes.{written, Torn}

-- a crash leaves what it might have left before, or that with the first write cut short, or the contents with the first write whole and the second, of n bytes, cut short
abbrev pub IsInOrder : (List ℕ → Type 0) → List ℕ → ℕ → List ℕ → ℕ → ℕ → List ℕ → Type 0
IsInOrder images contents first_at first second_at n left =
    images left ⊎ (((was : List ℕ) × images was × Torn first_at (length first) was left) ⊎ Torn second_at n (written first_at first contents) left)
