-- Reads of a disk.
use Rattle.std.specs.Prelude.{ℕ, ◌+◌, nat_lt, Bool, List, length}

-- a read of n bytes from this place on reaches past the end
abbrev pub reads_past : ℕ → ℕ → List ℕ → Bool
reads_past at n bytes = nat_lt (length bytes) (at + n)
