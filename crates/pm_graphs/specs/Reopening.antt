-- What is read behind a header, and why nothing was.
use Rattle.std.specs.Prelude.{◌≡◌, ℕ, List, Result, Ok, Err}
use Rattle.pm_types.specs.Memory.{no_memory}
use Rattle.pm_types.specs.Counts.{ShowsRise}
use Rattle.pm_types.specs.declared.fault.OpenFault.{OpenFault}
use Rattle.pm_types.specs.declared.fault.OpenFault.TheVariants.{NotAStore, Version, Damaged, Malformed, Disk, Memory}
use Rattle.pm_image.specs.declared.settled.KeptPage.{KeptPage}
use Rattle.pm_image.specs.Graphs.{Catalog, Graph}
use Rattle.pm_graphs.specs.declared.fault.ReadFault.{ReadFault}
use Rattle.pm_graphs.specs.declared.fault.ReadFault.TheVariants.{Damaged as DamagedPage, Malformed as MalformedPage, Failed, Memory as NoRoom}

-- what a fault is for the one who opens a store, with the counts of failed calls before and after
abbrev pub open_fault : ReadFault → ℕ → ℕ → OpenFault
open_fault (DamagedPage page kept found) before after = Damaged page kept found
open_fault (MalformedPage page at) before after = Malformed page at
open_fault Failed before after = Disk before after
open_fault (NoRoom _) before after = Memory no_memory

-- A page behind the header is at fault or memory ran out, and the count of faults stands still; or the disk failed,
-- which has raised its count.
abbrev pub IsGraphFault : ℕ → ℕ → OpenFault → Type 0
IsGraphFault before after NotAStore = ⊥
IsGraphFault before after (Version version) = ⊥
IsGraphFault before after (Damaged page kept found) = after ≡ before
IsGraphFault before after (Malformed page at) = after ≡ before
IsGraphFault before after (Disk b a) = ShowsRise b a before after
IsGraphFault before after (Memory _) = after ≡ before

-- What was read is the graph behind the header, or its first fault. Where the disk or memory failed nothing is said.
abbrev pub IsGraph : Result (Catalog × List KeptPage) OpenFault → Result Graph OpenFault → Type 0
IsGraph (Ok read) graph = graph ≡ Ok (record { catalog = read.0; cars = read.1 })
IsGraph (Err NotAStore) graph = ⊥
IsGraph (Err (Version version)) graph = ⊥
IsGraph (Err (Damaged page kept found)) graph = graph ≡ Err (Damaged page kept found)
IsGraph (Err (Malformed page at)) graph = graph ≡ Err (Malformed page at)
IsGraph (Err (Disk before after)) graph = Unit {0}
IsGraph (Err (Memory _)) graph = Unit {0}
