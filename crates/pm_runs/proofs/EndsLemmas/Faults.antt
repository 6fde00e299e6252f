-- The causes of ends in which no line was run.
use Rattle.std.proofs.Common.{◌≡◌, ℕ, ◌<◌, true, false, None, refl, subst, ◌∙◌, arith}
use Rattle.pm_types.specs.declared.fault.OpenFault.{OpenFault}
use Rattle.pm_types.specs.declared.fault.OpenFault.TheVariants.{NotAStore, Version, Damaged, Malformed, Disk, Memory as NoRoom}
use Rattle.pm_disk.specs.declared.disk.Disk as disk
use Rattle.pm_io.specs.declared.source.Source as source
use Rattle.pm_io.specs.declared.sink.Sink as sink
use Rattle.pm_reopen.specs.Refused.{IsOpenFault}
use Rattle.pm_runs.specs.declared.ends.ended.Detail.{Detail}
use Rattle.pm_runs.specs.declared.ends.ended.Detail.TheVariants.{Fine, Usage, Script, Dump as BadDump, Reading, Writing, Device, NotEmpty, Refused, Standby, Ahead, Foreign, OtherDevice, Memory}
use Rattle.pm_runs.specs.declared.ends.ended.Alone.{Alone as Ended}
use Rattle.pm_runs.specs.Ends.Ends.{ShowsReading, ShowsDevice, not_opened}
use Rattle.pm_runs.specs.Ends.Stages.{IsPast, unreached, the_words, the_events, the_output}
use Rattle.pm_runs.specs.Ends.Causes.{ShowsCauses}
use Rattle.pm_runs.proofs.EndsLemmas.Parts.{with_parts}

-- a store that is not opened: its end is one of a run, and nothing is done
pub ends_open : (fault : OpenFault) → IsPast the_words (not_opened fault)
ends_open NotAStore = omega arith
ends_open (Version version) = omega arith
ends_open (Damaged page kept found) = omega arith
ends_open (Malformed page at) = omega arith
ends_open (Disk before after) = omega arith
ends_open (NoRoom _) = omega arith

pub undone_open : (fault : OpenFault) → IsPast the_output (not_opened fault) → ⊥
undone_open NotAStore past = absurd (omega arith)
undone_open (Version version) past = absurd (omega arith)
undone_open (Damaged page kept found) past = absurd (omega arith)
undone_open (Malformed page at) past = absurd (omega arith)
undone_open (Disk before after) past = absurd (omega arith)
undone_open (NoRoom _) past = absurd (omega arith)

-- an end after the events is one of a run
pub late_past : (detail : Detail) → the_events < unreached detail → IsPast the_words detail
late_past Fine late = omega arith
late_past Usage late = absurd (omega arith)
late_past (Script fault) late = absurd (omega arith)
late_past (BadDump fault) late = absurd (omega arith)
late_past (Reading before after) late = absurd (omega arith)
late_past (Writing before after) late = omega arith
late_past (Device before after false) late = absurd (omega arith)
late_past (Device before after true) late = omega arith
late_past (NotEmpty bytes) late = absurd (omega arith)
late_past (Standby fault) late = absurd (omega arith)
late_past (Ahead to from) late = absurd (omega arith)
late_past (Foreign number) late = absurd (omega arith)
late_past (OtherDevice before after) late = absurd (omega arith)
late_past (Refused fault) late = absurd (omega arith)
late_past (Memory false _) late = absurd (omega arith)
late_past (Memory true _) late = omega arith

module _ {D S K : Type 0} (d : disk.Ghosts D) (s : source.Ghosts S) (k : sink.Ghosts K) where
  -- no store was opened
  pub open_causes : (disk end : D) (source : S) (sink : K) (it : Ended D S K) (fault : OpenFault)
      → IsOpenFault (d.count disk) (d.count end) fault → (d.made end).past ≡ (d.made disk).past
      → ShowsCauses d s k disk source sink (with_parts it (not_opened fault) None None end source sink)
  open_causes disk end source sink it NotAStore cause reads = record { reading = refl; writing = refl; device = cause; rule = tt; opened = tt; one = tt; reads = reads }
  open_causes disk end source sink it (Version version) cause reads = record { reading = refl; writing = refl; device = cause; rule = tt; opened = tt; one = tt; reads = reads }
  open_causes disk end source sink it (Damaged page kept found) cause reads = record { reading = refl; writing = refl; device = cause; rule = tt; opened = tt; one = tt; reads = reads }
  open_causes disk end source sink it (Malformed page at) cause reads = record { reading = refl; writing = refl; device = cause; rule = tt; opened = tt; one = tt; reads = reads }
  open_causes disk end source sink it (Disk before after) cause reads = record { reading = refl; writing = tt; device = cause; rule = tt; opened = refl; one = tt; reads = reads }
  open_causes disk end source sink it (NoRoom _) cause reads = record { reading = refl; writing = tt; device = cause; rule = tt; opened = refl; one = tt; reads = reads }

  -- the disk was looked at before
  pub causes_after : (first disk : D) (source : S) (sink : K) (it : Ended D S K) → d.count disk ≡ d.count first → (d.made disk).past ≡ (d.made first).past
      → ShowsCauses d s k disk source sink it → ShowsCauses d s k first source sink it
  causes_after first disk source sink it counted read causes = record {
    reading = causes.reading;
    writing = causes.writing;
    device = subst (λ (n : ℕ). ShowsDevice it.detail n (d.count it.disk)) counted causes.device;
    rule = causes.rule;
    opened = causes.opened;
    one = causes.one;
    reads = causes.reads ∙ read;
  }

  -- the source was read before
  pub causes_read : (disk : D) (first source : S) (sink : K) (it : Ended D S K) → s.count source ≡ s.count first
      → ShowsCauses d s k disk source sink it → ShowsCauses d s k disk first sink it
  causes_read disk first source sink it counted causes = record {
    reading = subst (λ (n : ℕ). ShowsReading it.detail n (s.count it.source)) counted causes.reading;
    writing = causes.writing;
    device = causes.device;
    rule = causes.rule;
    opened = causes.opened;
    one = causes.one;
    reads = causes.reads;
  }
