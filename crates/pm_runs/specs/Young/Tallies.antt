-- What is told at the end of a run of the engine with a nursery that made it.
use Rattle.std.specs.Prelude.{◌≡◌, List, length, Option, None, IsSome, IfSome}
use Rattle.std.specs.FinMap.{len}
use Rattle.pm_types.specs.declared.entry.Entry.{Entry}
use Rattle.pm_disk.specs.declared.disk.Disk as disk
use Rattle.pm_model.specs.World.{World}
use Rattle.pm_model.specs.Journal.{after}
use Rattle.pm_nursery.specs.Young.{NurseryView, no_nursery}
use Rattle.pm_saving.specs.Serving.{opening}
use Rattle.pm_script.specs.declared.line.YoungLine.{YoungLine}
use Rattle.pm_young.specs.declared.engine.YoungEngine.{YoungEngine}
use Rattle.pm_young.specs.declared.tally.YoungTally.{YoungTally}
use Rattle.pm_young.specs.Entering.{KeepsEntered}
use Rattle.pm_young.specs.Seen.{YoungTotal, chooser, disk_in, opened_disk, serving, young_in, young_tally_in, young_tally_of}
use Rattle.pm_young_run.specs.Entered.{AreEntered}
use Rattle.pm_runs.specs.declared.ends.ended.Detail.{Detail}
use Rattle.pm_runs.specs.Ends.Stages.{IsPast, IsBefore, the_store, the_events, the_output}
use Rattle.pm_runs.specs.Ends.Disks.{SyncsFirst}

-- From this world, and nothing young, the lines let just the identities enter that the total tells, in this order, and so
-- many objects are young behind them. The world at the end is the journal's.
pub record LetsEnter (start : World) (lines : List YoungLine) (journal : List Entry) (total : YoungTotal) : Type 0 where
  pub nursery : NurseryView
  pub entered : AreEntered start no_nursery lines total.ids (after start journal) nursery
  pub young : total.young ≡ len nursery.objects

module _ {D F : Type 0} {d : disk.Ghosts D} where
  -- It is what this engine came to that began in this world and has this journal. What is in a car was in one at the opening
  -- or is among those that entered.
  pub record IsYoungTotalOf (engine : YoungEngine D F d) (start : World) (journal : List Entry) (total : YoungTotal) : Type 0 where
    pub began : opening (serving engine) ≡ start
    pub has : (serving engine).journal ≡ journal
    pub is_total : total ≡ young_tally_in engine
    pub comes_in : ∥ KeepsEntered (serving engine).opened (serving engine).view (young_in engine) total.ids ∥₁

-- What an engine came to of which this is said, which was opened in this world and has this journal.
pub record ComesToYoung (Of : World → List Entry → YoungTotal → Type 0) (start : World) (journal : List Entry) (total : YoungTotal) : Type 0 where
  -- it is that of the engine
  pub of_engine : Of start journal total
  -- it is told of this journal, with its length, and of the identities that entered
  pub journal_is : total.journal ≡ journal
  pub entries : total.entries ≡ length journal
  pub entered : total.entered ≡ length total.ids
  -- of each entry it tells what had been made before it
  pub course : length total.course ≡ length journal

module _ {D F : Type 0} (d : disk.Ghosts D) (place : F) where
  -- An engine came to it that was opened on the disk at the start, and whose disk is the one at the end: an object moves to the
  -- train that this chooser picks.
  pub record IsOfYoungEngine (first last : D) (start : World) (journal : List Entry) (total : YoungTotal) : Type 0 where
    pub engine : YoungEngine D F d
    pub chooses : chooser engine ≡ place
    pub disk : disk_in engine ≡ last
    pub syncs : SyncsFirst d first (opened_disk engine) last journal
    pub comes : IsYoungTotalOf engine start journal total

  -- The tally of a run with this chooser, from this disk to that one, from the world that was opened, by how it ended.
  pub record TalliesYoung (first last : D) (start : World) (detail : Detail) (journal : List Entry) (young : Option YoungTally) : Type 0 where
    -- past the store it is there
    pub opened : IsPast the_store detail → IsSome young
    -- before the events it is not
    pub unopened : IsBefore the_events detail → young ≡ None
    -- it is that of the engine
    pub comes_to : IfSome young (λ it. ComesToYoung (IsOfYoungEngine first last) start journal (young_tally_of it))

-- Where the run is done just those identities entered that these lines let enter.
abbrev pub EntersYoung : World → List YoungLine → Detail → List Entry → Option YoungTally → Type 0
EntersYoung start lines detail journal young =
    IsPast the_output detail → IfSome young (λ it. ∥ LetsEnter start lines journal (young_tally_of it) ∥₁)
