-- The names of roots.
use Rattle.std.specs.Prelude.{ℕ, ◌<◌, ◌≤◌, ◌==◌, ◌||◌, ◌&&◌, Bool, List, length, nat_le, IsTrue}
use Rattle.std.specs.List.{AllByRecursion}
use Rattle.pm_types.specs.declared.limits.TheConstants.{NAME_BYTES}

-- a byte of a name: a to z, 0 to 9, dot, dash or underscore
abbrev pub is_name_byte : ℕ → Bool
is_name_byte b = (nat_le 97 b && nat_le b 122) || (nat_le 48 b && nat_le b 57) || (b == 46) || (b == 45) || (b == 95)

-- a name has some bytes and no more than a name may have, each of them a byte of a name
pub record IsName (bytes : List ℕ) : Type 0 where
  pub some : 0 < length bytes
  pub short : length bytes ≤ NAME_BYTES
  pub each : AllByRecursion (λ b. IsTrue (is_name_byte b)) bytes
