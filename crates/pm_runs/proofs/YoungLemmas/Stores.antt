-- What a run with a nursery does to disk and sink, from its parts.
use Rattle.std.proofs.Common.{◌≡◌, ℕ, ◌<◌, List, [], Option, Some, None, IsSome, refl, ap, sym, subst, ◌∙◌, arith}
use Rattle.std.specs.Prelude.{IfSome, IfNone}
use Rattle.pm_disk.specs.declared.disk.Disk as disk
use Rattle.pm_disk.specs.Made.{with_sync}
use Rattle.pm_io.specs.declared.sink.Sink as sink
use Rattle.pm_types.specs.declared.entry.Entry.{Entry}
use Rattle.pm_model.specs.Text.{text}
use Rattle.pm_model.specs.World.{World, begin}
use Rattle.pm_image.specs.Stands.{StandsForCopy}
use Rattle.pm_script.specs.declared.line.YoungLine.{YoungLine}
use Rattle.pm_serial.specs.Writing.{WroteRun}
use Rattle.pm_young.specs.declared.engine.YoungEngine.{YoungEngine}
use Rattle.pm_young.specs.declared.tally.YoungTally.{YoungTally}
use Rattle.pm_young.specs.Seen.{YoungTotal, chooser, disk_in, opened_disk, young_tally_of}
use Rattle.pm_young_run.specs.Writing.{young_tail_of}
use Rattle.pm_runs.specs.declared.ends.ended.Detail.{Detail}
use Rattle.pm_runs.specs.declared.ends.ended.Alone.{Alone as Ended}
use Rattle.pm_runs.specs.Ends.Ends.{stop_in}
use Rattle.pm_runs.specs.Ends.Stages.{IsPast, unreached, the_store, the_events}
use Rattle.pm_runs.specs.Ends.Journals.{IsBegun}
use Rattle.pm_runs.specs.Ends.Disks.{LeavesDisk, SyncsAtMost}
use Rattle.pm_runs.specs.Young.Engines.{GoesFromYoung}
use Rattle.pm_runs.specs.Young.Runs.{OpensYoung, RunsYoungStore}
use Rattle.pm_runs.specs.Young.Tallies.{ComesToYoung, EntersYoung, IsOfYoungEngine}
use Rattle.pm_runs.proofs.EndsLemmas.Parts.{with_parts}
use Rattle.pm_runs.proofs.Ran.{none_begun}

-- what holds anyway holds of a tally
pub if_young : {A : Type 0} (young : Option YoungTally) → A → IfSome young (λ it. A)
if_young None a = tt
if_young (Some young) a = a

module _ {D S K : Type 0} (d : disk.Ghosts D) (k : sink.Ghosts K) where
  -- no store was opened
  pub young_unrun : {F : Type 0} (place : F) (start end : D) (source : S) (sink : K) (it : Ended D S K) (detail : Detail) → it.journal.items ≡ []
      → (IsPast the_store detail → ⊥) → LeavesDisk d start end detail [] → SyncsAtMost d start end
      → RunsYoungStore d k place start sink (with_parts it detail None None end source sink)
  young_unrun place start end source sink it detail empty undone leaves synced = record {
    begun = subst IsBegun (sym empty) none_begun;
    none = empty;
    stands = λ there. absurd (cc there);
    tallies = record {
      opened = λ past. absurd (undone past);
      unopened = λ before. refl;
      comes_to = tt;
    };
    no_tally = refl;
    leaves = subst (LeavesDisk d start end detail) (sym empty) leaves;
    synced = synced;
    quiet = refl;
    replies = tt;
  }

  -- lines were run
  pub young_store : {F : Type 0} (place : F) (lines : List YoungLine) (disk : D) (sink : K) (it : Ended D S K) (begun : IsBegun it.journal.items) → the_events < unreached it.detail
      → IsSome it.young → it.tally ≡ None → ((bytes : List ℕ) → d.contents disk ≡ Some bytes → StandsForCopy bytes begun.number begun.copy)
      → IfSome it.young (λ young. ComesToYoung (IsOfYoungEngine d place disk it.disk) (begin begun.number begun.copy) it.journal.items (young_tally_of young))
      → LeavesDisk d disk it.disk it.detail it.journal.items
      → IfSome it.young (λ young. WroteRun k.written k.finished k.count sink it.sink (text it.journal.items) (young_tail_of (young_tally_of young)) (stop_in it.detail))
      → EntersYoung (begin begun.number begun.copy) lines it.detail it.journal.items it.young
      → OpensYoung d k place lines disk sink it
  young_store place lines disk sink it begun late there no_tally stands comes leaves replies enters = record {
    store = record {
      begun = begun;
      none = told (it.journal.items ≡ []) it.young there;
      stands = λ is. stands;
      tallies = record { opened = λ past. there; unopened = λ before. absurd (omega (arith, before, late)); comes_to = comes };
      no_tally = no_tally;
      leaves = leaves;
      synced = told (SyncsAtMost d disk it.disk) it.young there;
      quiet = told (it.sink ≡ sink) it.young there;
      replies = replies;
    };
    entered = enters;
  }
    where
      told : (A : Type 0) (young : Option YoungTally) → IsSome young → IfNone young A
      told A None is = absurd (cc is)
      told A (Some young) is = tt

-- what an engine came to of which more is said
comes_by : (P Q : World → List Entry → YoungTotal → Type 0) (start : World) (journal : List Entry) (total : YoungTotal) → (P start journal total → Q start journal total)
    → ComesToYoung P start journal total → ComesToYoung Q start journal total
comes_by P Q start journal total by comes = record {
  of_engine = by comes.of_engine;
  journal_is = comes.journal_is;
  entries = comes.entries;
  entered = comes.entered;
  course = comes.course;
}

module _ {D F : Type 0} (d : disk.Ghosts D) (place : F) where
  module _ (first : D) (engine : YoungEngine D F d) (last : D) (chooses : chooser engine ≡ place) (opening : opened_disk engine ≡ disk_in engine)
      (told : d.contents (disk_in engine) ≡ d.contents first) (made : d.made (disk_in engine) ≡ with_sync (d.moment first) (d.made first)) where
    -- what went on from an engine that was just opened
    of_opened : (start : World) (journal : List Entry) (total : YoungTotal) → (journal ≡ [] → last ≡ disk_in engine) → GoesFromYoung engine last start journal total
        → IsOfYoungEngine d place first last start journal total
    of_opened start journal total idle from =
        let same : opened_disk from.later ≡ disk_in engine = from.keeps.disk ∙ opening in
        record {
          engine = from.later;
          chooses = from.keeps.chooser ∙ chooses;
          disk = from.disk;
          syncs = record { made = ap d.made same ∙ made; told = ap d.contents same ∙ told; idle = λ empty. idle empty ∙ sym same };
          comes = from.comes;
        }

    -- what it came to
    pub young_comes : (young : Option YoungTally) (start : World) (journal : List Entry) → (journal ≡ [] → last ≡ disk_in engine)
        → IfSome young (λ it. ComesToYoung (GoesFromYoung engine last) start journal (young_tally_of it)) → IfSome young (λ it. ComesToYoung (IsOfYoungEngine d place first last) start journal (young_tally_of it))
    young_comes None start journal idle is = tt
    young_comes (Some it) start journal idle is =
        comes_by (GoesFromYoung engine last) (IsOfYoungEngine d place first last) start journal (young_tally_of it) (of_opened start journal (young_tally_of it) idle) is
