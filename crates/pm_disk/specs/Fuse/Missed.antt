-- The calls that a fuse failed, the newest first, put over what was made of the disk that they never reached.
use Rattle.std.specs.Prelude.{◌≡◌, ℕ, ◌+◌, ◌<◌, List, [], ◌∷◌, length, Option}
use Rattle.pm_disk.specs.Made.{Made, with_sync, with_write, with_read}
use Rattle.pm_disk.specs.declared.fuse.missed.Missed.{Missed}
use Rattle.pm_disk.specs.declared.fuse.missed.Missed.TheVariants.{Len, Read, Write, Sync}

-- what was made, with this call too, which came at that moment to a disk that tells these contents
abbrev pub with_missed : Option (List ℕ) → ℕ → Missed → Made → Made
with_missed told moment Len made = made
with_missed told moment (Read at len) made = with_read told at len made
with_missed told moment Write made = with_write made
with_missed told moment Sync made = with_sync moment made

-- the same of all of them; the disk has stood still since this moment, and each call is one moment later
abbrev pub with_all_missed : Option (List ℕ) → ℕ → List Missed → Made → Made
with_all_missed told moment [] made = made
with_all_missed told moment (call ∷ earlier) made = with_missed told (moment + length earlier) call (with_all_missed told moment earlier made)

-- a fuse that still passes calls on has failed none
abbrev pub IsWhole : ℕ → List Missed → Type 0
IsWhole left missed = 0 < left → missed ≡ []
