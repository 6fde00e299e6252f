-- What is taken from a source and put into a sink.
use Rattle.std.specs.Prelude.{◌≡◌, ℕ, ◌≤◌, List, ◌++◌, Option, Some, length, take, drop}

-- the first n of the bytes were moved to the front of into, and the others are left
pub record TakesFront (bytes : List ℕ) (n : ℕ) (into : List ℕ) (left : Option (List ℕ)) : Type 0 where
  pub within : n ≤ length bytes
  pub moved : take n into ≡ take n bytes
  pub rest : left ≡ Some (drop n bytes)

-- some of the bytes are gone from their front, no more than so many, and the others are left
pub record LeavesEnd (bytes : List ℕ) (most : ℕ) (left : Option (List ℕ)) : Type 0 where
  pub gone : ℕ
  pub within : gone ≤ most
  pub rest : left ≡ Some (drop gone bytes)

-- a first part of the piece, which may be none or all of it, was appended to what was written
pub record AppendsPart (before piece : List ℕ) (written : Option (List ℕ)) : Type 0 where
  pub part : ℕ
  pub within : part ≤ length piece
  pub appended : written ≡ Some (before ++ take part piece)
