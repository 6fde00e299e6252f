-- Why none was opened: the first rule that fails of a header, or behind it.
use Rattle.std.proofs.Common.{◌≡◌, ℕ, List, Result, Ok, Err, ap}
use Rattle.pm_types.specs.Results.{◌>>=◌}
use Rattle.pm_types.specs.declared.fault.OpenFault.{OpenFault}
use Rattle.pm_types.specs.declared.fault.OpenFault.TheVariants.{NotAStore, Version, Damaged, Malformed, Disk, Memory}
use Rattle.pm_image.specs.Graphs.{graph_of}
use Rattle.pm_image.specs.Opening.{Current as CurrentHeader, current}
use Rattle.pm_image.specs.Stands.{opened, pages_of}
use Rattle.pm_shadow.specs.Attaching.{IsFaultOf}
use Rattle.pm_reopen.specs.Opening.{IsRefusedBy}
use Rattle.pm_reopen.specs.Refused.{IsRefusal}

refused : (bytes : List ℕ) (fault : OpenFault) → current bytes ≡ Err fault → opened bytes ≡ Err fault
unfolding opened
refused bytes fault is = ap (λ (found : Result CurrentHeader OpenFault). found >>= (λ now. graph_of (pages_of bytes) now.header >>= (λ graph. Ok (record { current = now; graph = graph })))) is

pub header_refused : (bytes : List ℕ) (fault : OpenFault) → IsFaultOf bytes fault → IsRefusal bytes fault
header_refused bytes NotAStore is = refused bytes NotAStore is
header_refused bytes (Version version) is = refused bytes (Version version) is
header_refused bytes (Damaged page kept found) is = refused bytes (Damaged page kept found) is
header_refused bytes (Malformed page at) is = refused bytes (Malformed page at) is
header_refused bytes (Disk before after) is = tt
header_refused bytes (Memory _) is = absurd is

pub graph_refused : (bytes : List ℕ) (fault : OpenFault) → IsRefusedBy bytes fault → IsRefusal bytes fault
graph_refused bytes NotAStore is = absurd is
graph_refused bytes (Version version) is = absurd is
graph_refused bytes (Damaged page kept found) is = is
graph_refused bytes (Malformed page at) is = is
graph_refused bytes (Disk before after) is = tt
graph_refused bytes (Memory _) is = tt
