-- What a crash may leave of a disk.
use Rattle.std.specs.Prelude.{◌≡◌, ◌⊎◌, ℕ, ◌+◌, ◌<◌, ◌≤◌, max, List, [], ◌∷◌, length, slice_index}

-- a range that was written: its first place and its length
abbrev pub Range : Type 0
Range = ℕ × ℕ

-- each of them is a byte
abbrev pub IsBytes : List ℕ → Type 0
IsBytes bytes = (i : ℕ) → i < length bytes → slice_index bytes i < 256

-- the furthest end that a write has reached
abbrev pub furthest : List Range → ℕ
furthest [] = 0
furthest (range ∷ ranges) = max (range.0 + range.1) (furthest ranges)

-- no write has touched this place
abbrev pub IsUntouched : List Range → ℕ → Type 0
IsUntouched [] i = Unit {0}
IsUntouched (range ∷ ranges) i = ((i < range.0) ⊎ (range.0 + range.1 ≤ i)) × IsUntouched ranges i

-- A crash may leave this, where the last successful sync had these contents and these ranges were written
-- since, by writes that were made and by writes that failed: at a place of those contents that no write
-- has touched stands their byte, at every other place any byte; the length is at least theirs, and at
-- most the greater of theirs and the furthest end that a write has reached.
pub record IsImage (synced : List ℕ) (ranges : List Range) (image : List ℕ) : Type 0 where
  pub bytes : IsBytes image
  pub no_shorter : length synced ≤ length image
  pub no_longer : length image ≤ max (length synced) (furthest ranges)
  pub untouched : (i : ℕ) → i < length synced → IsUntouched ranges i → slice_index image i ≡ slice_index synced i
