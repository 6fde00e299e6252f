-- How making a store ends where none is made.
use Rattle.std.proofs.Common.{◌≡◌, ℕ, None, refl}
use Rattle.pm_types.specs.declared.fault.InitFault.{InitFault}
use Rattle.pm_types.specs.declared.fault.InitFault.TheVariants.{NotEmpty, Disk, Memory}
use Rattle.pm_disk.specs.declared.disk.Disk as disk
use Rattle.pm_disk.specs.Disk.{IfTold, SameImages}
use Rattle.pm_disk.specs.Made.{Made, MadeAtMost}
use Rattle.pm_io.specs.declared.source.Source as source
use Rattle.pm_io.specs.declared.sink.Sink as sink
use Rattle.pm_shadow.specs.Init.{IsInitFault, IsInitFaultOf, UnlessFailed, KeepsBytes}
use Rattle.pm_runs.specs.declared.ends.ended.Alone.{Alone as Ended}
use Rattle.pm_runs.specs.Ends.Ends.{not_made}
use Rattle.pm_runs.specs.Ends.Causes.{ShowsCauses}
use Rattle.pm_runs.proofs.EndsLemmas.Parts.{with_parts}
use Rattle.pm_top.specs.Stores.{CallsToMake, LeavesMade}

pub none_made : {D : Type 0} (d : disk.Ghosts D) (before after : ℕ) (start end : D) (fault : InitFault)
    → IfTold (d.contents start) (λ bytes. IsInitFaultOf bytes fault) → IsInitFault before after fault
    → UnlessFailed fault ((d.contents end ≡ d.contents start) × SameImages (d.image start) (d.image end))
    → KeepsBytes (d.contents start) (d.contents end) (d.image start) (d.image end) → LeavesMade d start end (not_made fault)
none_made d before after start end (NotEmpty n) fault cause still kept = (cause.0, fault, still.0, still.1)
none_made d before after start end (Disk b a) fault cause still kept = kept
none_made d before after start end (Memory _) fault cause still kept = still

-- and no more calls were made than making one takes
pub calls_none : (before after : Made) (fault : InitFault) → MadeAtMost 4 2 before after → CallsToMake (not_made fault) before after
calls_none before after (NotEmpty n) most = most
calls_none before after (Disk b a) most = most
calls_none before after (Memory _) most = most

module _ {D S K : Type 0} (d : disk.Ghosts D) (s : source.Ghosts S) (k : sink.Ghosts K) where
  -- no store was made
  pub init_causes : (disk end : D) (source : S) (sink : K) (it : Ended D S K) (fault : InitFault)
      → IsInitFault (d.count disk) (d.count end) fault → (d.made end).past ≡ (d.made disk).past
      → ShowsCauses d s k disk source sink (with_parts it (not_made fault) None None end source sink)
  init_causes disk end source sink it (NotEmpty bytes) cause reads = record { reading = refl; writing = refl; device = cause.1; rule = tt; opened = tt; one = tt; reads = reads }
  init_causes disk end source sink it (Disk before after) cause reads = record { reading = refl; writing = tt; device = cause; rule = tt; opened = refl; one = tt; reads = reads }
  init_causes disk end source sink it (Memory _) cause reads = record { reading = refl; writing = tt; device = cause; rule = tt; opened = refl; one = tt; reads = reads }
