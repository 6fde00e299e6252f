-- Why no store was opened.
use Rattle.std.specs.Prelude.{◌≡◌, ℕ, List, Err}
use Rattle.pm_types.specs.Counts.{ShowsRise}
use Rattle.pm_types.specs.declared.fault.OpenFault.{OpenFault}
use Rattle.pm_types.specs.declared.fault.OpenFault.TheVariants.{NotAStore, Version, Damaged, Malformed, Disk, Memory}
use Rattle.pm_image.specs.Stands.{opened}

-- The bytes are refused where the fault says so: it is the first rule that fails.
abbrev pub IsRefusal : List ℕ → OpenFault → Type 0
IsRefusal bytes NotAStore = opened bytes ≡ Err NotAStore
IsRefusal bytes (Version version) = opened bytes ≡ Err (Version version)
IsRefusal bytes (Damaged page kept found) = opened bytes ≡ Err (Damaged page kept found)
IsRefusal bytes (Malformed page at) = opened bytes ≡ Err (Malformed page at)
IsRefusal bytes (Disk before after) = Unit {0}
IsRefusal bytes (Memory _) = Unit {0}

-- A failure of the disk has raised its count, as told; after any other fault the count stands still.
abbrev pub IsOpenFault : ℕ → ℕ → OpenFault → Type 0
IsOpenFault before after NotAStore = after ≡ before
IsOpenFault before after (Version version) = after ≡ before
IsOpenFault before after (Damaged page kept found) = after ≡ before
IsOpenFault before after (Malformed page at) = after ≡ before
IsOpenFault before after (Disk b a) = ShowsRise b a before after
IsOpenFault before after (Memory _) = after ≡ before
