-- Contents that are not told are none.
use Rattle.std.specs.Prelude.{◌≡◌, ℕ, ◌^◌, ◌<◌, List, length, Option, Some, None}
use Rattle.pm_disk.specs.Images.{IsBytes}

-- the contents of a file, which are not told
abbrev pub untold : Option (List ℕ)
untold = None

-- whatever is said of contents that are told holds of them
pub not_told : (bytes : List ℕ) → untold ≡ Some bytes → IsBytes bytes
not_told bytes told = cc

pub untold_short : (bytes : List ℕ) → untold ≡ Some bytes → length bytes < 2 ^ 63
untold_short bytes told = cc
