-- Writing at the end of a Vec that has room.
use Rattle.std.specs.Prelude.{◌≡◌, ℕ, ◌+◌, ◌≤◌, List, ◌++◌, length}
use Rattle.std.specs.Global.{Vec}
use Rattle.std.specs.Vec.{vec_len, vec_capacity}

-- so many bytes more are written without taking memory
abbrev pub HasRoom : Vec ℕ → ℕ → Type 0
HasRoom out n = vec_len out + n ≤ vec_capacity out

-- the text was written at the end, and no room was lost
pub record Appends (old new : Vec ℕ) (text : List ℕ) : Type 0 where
  pub items : new.items ≡ old.items ++ text
  pub len : vec_len new ≡ vec_len old + length text
  pub capacity : vec_capacity old ≤ vec_capacity new
