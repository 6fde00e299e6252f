-- What a write does to the bytes of a disk.
use Rattle.std.specs.Prelude.{◌≡◌, ℕ, ◌+◌, ◌-◌, ◌<◌, ◌≤◌, max, List, [], ◌∷◌, ◌++◌, length, take, drop, replicate, slice_index, Option, Some, None}

-- these bytes with others written over them from a place on; a gap before that place is 0, and a write of no bytes changes nothing
abbrev pub written : ℕ → List ℕ → List ℕ → List ℕ
written at [] old = old
written at (byte ∷ bytes) old = take at (old ++ replicate (at - length old) 0) ++ (byte ∷ bytes) ++ drop (at + length (byte ∷ bytes)) old

-- a write of n bytes was cut short: anything in its range and past the old end, the same elsewhere
pub record Torn (at n : ℕ) (old new : List ℕ) : Type 0 where
  pub no_shorter : length old ≤ length new
  pub no_longer : length new ≤ max (length old) (at + n)
  pub before : (i : ℕ) → i < length old → i < at → slice_index new i ≡ slice_index old i
  pub behind : (i : ℕ) → i < length old → at + n ≤ i → slice_index new i ≡ slice_index old i

-- contents that were told are told still, and the write was cut short in them
pub record TornIfTold (at n : ℕ) (old new : Option (List ℕ)) : Type 0 where
  pub told : (bytes : List ℕ) → old ≡ Some bytes → (torn : List ℕ) × (new ≡ Some torn) × Torn at n bytes torn
  pub untold : old ≡ None → new ≡ None
