-- The engine of a run that was opened on a disk, and what it came to.
use Rattle.std.proofs.Common.{◌≡◌, List, [], Option, Some, None, ap, sym, ◌∙◌}
use Rattle.std.specs.Prelude.{IfSome}
use Rattle.pm_types.specs.declared.entry.Entry.{Entry}
use Rattle.pm_disk.specs.declared.disk.Disk as disk
use Rattle.pm_disk.specs.Made.{with_sync}
use Rattle.pm_model.specs.World.{World}
use Rattle.pm_engine.specs.declared.engine.Engine.{Engine}
use Rattle.pm_engine.specs.declared.tally.Tally.{Tally}
use Rattle.pm_engine.specs.Shown.{Total, chooser, disk_in, opened_disk, tally_of}
use Rattle.pm_runs.specs.Ends.Tallies.{ComesTo, IsOfEngine}
use Rattle.pm_runs.specs.Engines.{GoesFrom}

-- what follows of a tally, if there is one
told_by : (P Q : Tally → Type 0) (tally : Option Tally) → ((it : Tally) → P it → Q it) → IfSome tally P → IfSome tally Q
told_by P Q None by is = tt
told_by P Q (Some it) by is = by it is

-- what an engine came to of which more is said
comes_by : (P Q : World → List Entry → Total → Type 0) (start : World) (journal : List Entry) (total : Total) → (P start journal total → Q start journal total)
    → ComesTo P start journal total → ComesTo Q start journal total
comes_by P Q start journal total by comes = record {
  of_engine = by comes.of_engine;
  journal_is = comes.journal_is;
  entries = comes.entries;
  course = comes.course;
  watching = comes.watching;
  done = comes.done;
  least = comes.least;
  few = comes.few;
  honest = comes.honest;
  standing = comes.standing;
}

module _ {D F : Type 0} (d : disk.Ghosts D) (place : F) where
  module _ (first : D) (engine : Engine D F d) (last : D) (chooses : chooser engine ≡ place) (opening : opened_disk engine ≡ disk_in engine)
      (told : d.contents (disk_in engine) ≡ d.contents first) (made : d.made (disk_in engine) ≡ with_sync (d.moment first) (d.made first)) where
    -- what went on from an engine that was just opened
    of_opened : (start : World) (journal : List Entry) (total : Total) → (journal ≡ [] → last ≡ disk_in engine) → GoesFrom engine last start journal total
        → IsOfEngine d place first last start journal total
    of_opened start journal total idle from =
        let same : opened_disk from.later ≡ disk_in engine = from.keeps.disk ∙ opening in
        record {
          engine = from.later;
          chooses = from.keeps.chooser ∙ chooses;
          disk = from.disk;
          syncs = record { made = ap d.made same ∙ made; told = ap d.contents same ∙ told; idle = λ empty. idle empty ∙ sym same };
          comes = from.comes;
        }

    -- what it came to
    pub comes_opened : (tally : Option Tally) (start : World) (journal : List Entry) → (journal ≡ [] → last ≡ disk_in engine)
        → IfSome tally (λ it. ComesTo (GoesFrom engine last) start journal (tally_of it)) → IfSome tally (λ it. ComesTo (IsOfEngine d place first last) start journal (tally_of it))
    comes_opened tally start journal idle =
        told_by (λ it. ComesTo (GoesFrom engine last) start journal (tally_of it)) (λ it. ComesTo (IsOfEngine d place first last) start journal (tally_of it)) tally
        (λ it. comes_by (GoesFrom engine last) (IsOfEngine d place first last) start journal (tally_of it) (of_opened start journal (tally_of it) idle))
