-- What a run comes to whose source was not read as a script.
use Rattle.std.proofs.Common.{◌≡◌, Bool, false, ℕ, List, [], None, refl, subst, sym, arith}
use Rattle.pm_types.specs.Memory.{no_memory}
use Rattle.pm_types.specs.declared.entry.Entry.{Entry}
use Rattle.pm_disk.specs.declared.disk.Disk as disk
use Rattle.pm_io.specs.declared.source.Source as source
use Rattle.pm_io.specs.declared.sink.Sink as sink
use Rattle.pm_runs.specs.declared.ends.ended.Detail.{Detail}
use Rattle.pm_runs.specs.declared.ends.ended.Detail.TheVariants.{Fine, Usage, Script, Dump as BadDump, Reading, Writing, Device, NotEmpty, Refused, Standby, Ahead, Foreign, OtherDevice, Memory}
use Rattle.pm_runs.specs.declared.ends.ended.Alone.{Alone as Ended}
use Rattle.pm_runs.specs.Ends.Ends.{IsUnwritten, ShowsReading}
use Rattle.pm_runs.specs.Ends.Stages.{IsPast, the_words, the_script, the_store}
use Rattle.pm_runs.specs.Ends.Disks.{IsRefusedFor}
use Rattle.pm_runs.specs.Ends.Journals.{EndsReading, ReadsScript, StopsReading}
use Rattle.pm_runs.specs.Ends.Causes.{ShowsCauses}
use Rattle.pm_runs.proofs.EndsLemmas.Parts.{with_parts}
use Rattle.pm_runs.proofs.EndsLemmas.Scripts.{unserved}

pub ends_unread : (detail : Detail) → EndsReading detail → IsPast the_words detail
ends_unread Fine ends = absurd ends
ends_unread Usage ends = absurd ends
ends_unread (Script fault) ends = omega arith
ends_unread (BadDump fault) ends = absurd ends
ends_unread (Reading before after) ends = omega arith
ends_unread (Writing before after) ends = absurd ends
ends_unread (Device before after opened) ends = absurd ends
ends_unread (NotEmpty bytes) ends = absurd ends
ends_unread (Standby fault) ends = absurd ends
ends_unread (Ahead to from) ends = absurd ends
ends_unread (Foreign number) ends = absurd ends
ends_unread (OtherDevice before after) ends = absurd ends
ends_unread (Refused fault) ends = absurd ends
ends_unread (Memory opened _) ends = subst (λ (o : Bool). IsPast the_words (Memory o no_memory)) (sym ends) (omega arith)

pub script_unread : (detail : Detail) → EndsReading detail → IsPast the_script detail → ⊥
script_unread Fine ends past = ends
script_unread Usage ends past = ends
script_unread (Script fault) ends past = absurd (omega (arith, past))
script_unread (BadDump fault) ends past = ends
script_unread (Reading before after) ends past = absurd (omega (arith, past))
script_unread (Writing before after) ends past = ends
script_unread (Device before after opened) ends past = ends
script_unread (NotEmpty bytes) ends past = ends
script_unread (Standby fault) ends past = ends
script_unread (Ahead to from) ends past = ends
script_unread (Foreign number) ends past = ends
script_unread (OtherDevice before after) ends past = ends
script_unread (Refused fault) ends past = ends
script_unread (Memory opened _) ends past = let none : IsPast the_script (Memory false no_memory) = subst (λ (o : Bool). IsPast the_script (Memory o no_memory)) ends past in absurd (omega (arith, none))

pub store_unread : (detail : Detail) → EndsReading detail → IsPast the_store detail → ⊥
store_unread detail ends past = script_unread detail ends (omega (arith, past))

pub unwritten_unread : (detail : Detail) → EndsReading detail → IsUnwritten detail → ⊥
unwritten_unread Fine ends unwritten = absurd unwritten
unwritten_unread Usage ends unwritten = absurd unwritten
unwritten_unread (Script fault) ends unwritten = absurd unwritten
unwritten_unread (BadDump fault) ends unwritten = absurd unwritten
unwritten_unread (Reading before after) ends unwritten = absurd unwritten
unwritten_unread (Writing before after) ends unwritten = absurd ends
unwritten_unread (Device before after opened) ends unwritten = absurd unwritten
unwritten_unread (NotEmpty bytes) ends unwritten = absurd unwritten
unwritten_unread (Standby fault) ends unwritten = absurd unwritten
unwritten_unread (Ahead to from) ends unwritten = absurd unwritten
unwritten_unread (Foreign number) ends unwritten = absurd unwritten
unwritten_unread (OtherDevice before after) ends unwritten = absurd unwritten
unwritten_unread (Refused fault) ends unwritten = absurd unwritten
unwritten_unread (Memory opened _) ends unwritten = absurd unwritten

pub refused_unread : (bytes : List ℕ) (detail : Detail) → EndsReading detail → IsRefusedFor bytes detail
refused_unread bytes Fine ends = tt
refused_unread bytes Usage ends = tt
refused_unread bytes (Script fault) ends = tt
refused_unread bytes (BadDump fault) ends = tt
refused_unread bytes (Reading before after) ends = tt
refused_unread bytes (Writing before after) ends = tt
refused_unread bytes (Device before after opened) ends = tt
refused_unread bytes (NotEmpty n) ends = tt
refused_unread bytes (Standby fault) ends = tt
refused_unread bytes (Ahead to from) ends = tt
refused_unread bytes (Foreign number) ends = tt
refused_unread bytes (OtherDevice before after) ends = tt
refused_unread bytes (Refused fault) ends = absurd ends
refused_unread bytes (Memory opened _) ends = tt

pub reads_unread : (bytes : List ℕ) (detail : Detail) (journal : List Entry) → journal ≡ [] → EndsReading detail → StopsReading bytes detail → ReadsScript bytes detail journal None
reads_unread bytes detail journal empty ends stops =
    unserved bytes detail journal empty (none_read bytes detail ends stops)
  where
    none_read : (bytes : List ℕ) (detail : Detail) → EndsReading detail → StopsReading bytes detail → ReadsScript bytes detail [] None
    none_read bytes detail ends stops = record {
      refused = stops.refused;
      told = stops.told;
      ran = λ past. absurd (script_unread detail ends past);
      serves = λ past. absurd (script_unread detail ends (omega (arith, past)));
      made = λ past. absurd (script_unread detail ends (omega (arith, past)));
    }

module _ {D S K : Type 0} (d : disk.Ghosts D) (s : source.Ghosts S) (k : sink.Ghosts K) where
  pub causes_unread : (disk : D) (source : S) (left : S) (sink : K) (it : Ended D S K) (detail : Detail) → EndsReading detail → ShowsReading detail (s.count source) (s.count left)
      → ShowsCauses d s k disk source sink (with_parts it detail None None disk left sink)
  causes_unread disk source left sink it Fine ends shown = absurd ends
  causes_unread disk source left sink it Usage ends shown = absurd ends
  causes_unread disk source left sink it (Script fault) ends shown = record { reading = shown; writing = refl; device = refl; rule = ends; opened = tt; one = tt; reads = refl }
  causes_unread disk source left sink it (BadDump fault) ends shown = absurd ends
  causes_unread disk source left sink it (Reading before after) ends shown = record { reading = shown; writing = refl; device = refl; rule = tt; opened = tt; one = tt; reads = refl }
  causes_unread disk source left sink it (Writing before after) ends shown = absurd ends
  causes_unread disk source left sink it (Device before after opened) ends shown = absurd ends
  causes_unread disk source left sink it (NotEmpty bytes) ends shown = absurd ends
  causes_unread disk source left sink it (Standby fault) ends shown = absurd ends
  causes_unread disk source left sink it (Ahead to from) ends shown = absurd ends
  causes_unread disk source left sink it (Foreign number) ends shown = absurd ends
  causes_unread disk source left sink it (OtherDevice before after) ends shown = absurd ends
  causes_unread disk source left sink it (Refused fault) ends shown = absurd ends
  causes_unread disk source left sink it (Memory opened _) ends shown = record { reading = shown; writing = tt; device = refl; rule = tt; opened = ends; one = tt; reads = refl }
