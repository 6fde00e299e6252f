-- What is told at the end of a run of the engine that made it.
use Rattle.std.specs.Prelude.{◌≡◌, ℕ, ◌≤◌, List, length, nat_eq, Option, None, IsSome, IfSome}
use Rattle.std.specs.List.{AllByRecursion, AllZip, IsDistinct}
use Rattle.pm_types.specs.declared.entry.Entry.{Entry}
use Rattle.pm_types.specs.declared.event.Watch.{Watch}
use Rattle.pm_types.specs.declared.event.WatchLine.{WatchLine}
use Rattle.pm_disk.specs.declared.disk.Disk as disk
use Rattle.pm_disk.specs.Disk.{IfTold}
use Rattle.pm_model.specs.World.{World}
use Rattle.pm_model.specs.Journal.{after, watch_places}
use Rattle.pm_model.specs.Reachability.{IsReachable}
use Rattle.pm_view.specs.Represents.{IsHeld}
use Rattle.pm_view.specs.Bounded.{EndsLost, IsHonest}
use Rattle.pm_view.specs.View.{SpaceView}
use Rattle.pm_view.specs.Counts.{old, standing}
use Rattle.pm_view.specs.Law.{HeapLaw}
use Rattle.pm_copies.specs.Opened.{IsOpenedStore}
use Rattle.pm_saving.specs.Bounds.{KeepsBounds}
use Rattle.pm_saving.specs.Serving.{IsServed, opening}
use Rattle.pm_engine.specs.History.{HasHistory}
use Rattle.pm_engine.specs.declared.engine.Engine.{Engine}
use Rattle.pm_engine.specs.declared.tally.Tally.{Tally}
use Rattle.pm_engine.specs.Shown.{Total, chooser, disk_in, opened_disk, serving, tally_of, total_in}
use Rattle.pm_runs.specs.declared.ends.ended.Detail.{Detail}
use Rattle.pm_runs.specs.Ends.Stages.{IsPast, IsBefore, the_store, the_events}
use Rattle.pm_runs.specs.Ends.Disks.{SyncsFirst}

-- different identities that the names and registers of this world reach are no more than this number
abbrev pub ReachesAtMost : World → ℕ → Type 0
ReachesAtMost world count =
    (ids : List ℕ) → IsDistinct nat_eq ids → AllByRecursion (IsReachable world.heap (IsHeld world)) ids → length ids ≤ count

-- the line tells how many objects of the trains that stood when the watch was set stand in this space
abbrev pub CountsOld : SpaceView → WatchLine → Watch → Type 0
CountsOld view line watch = line.old ≡ old view watch.youngest

module _ {D F : Type 0} {d : disk.Ghosts D} where
  -- It is what this engine came to that began in this world, has this journal, and serves the world at its end: so what is told of
  -- each watch is told of one space, which stands for that world. It came by calls from the space that the disk's bytes were
  -- opened as, where that disk told them; and each watch notes the space as it was when it was set, and keeps its bound.
  pub record IsTotalOf (engine : Engine D F d) (start : World) (journal : List Entry) (total : Total) : Type 0 where
    pub began : opening (serving engine) ≡ start
    pub has : (serving engine).journal ≡ journal
    pub served : ∥ IsServed (serving engine) ∥₁
    pub lawful : HeapLaw (serving engine).view
    pub history : ∥ HasHistory (serving engine) ∥₁
    pub bounded : ∥ KeepsBounds (serving engine) ∥₁
    pub store : IfTold (d.contents (opened_disk engine)) (λ bytes. ∥ IsOpenedStore bytes (serving engine).opened ∥₁)
    -- where as many collections were completed since a watch was set as its bound says, nothing that the world had lost when
    -- it was set is in any car
    pub gone : AllZip (EndsLost start journal (serving engine).view) total.lines (watch_places 0 journal)
    -- with the event that it noted when a call last answered that memory ran out
    pub is_total : total ≡ total_in engine
    -- what is told to stand stands, and no number of these is cut off
    pub counts : total.standing ≡ standing (serving engine).view
    pub counts_old : AllZip (CountsOld (serving engine).view) total.lines (serving engine).watches

module _ {D F : Type 0} (d : disk.Ghosts D) (place : F) where
  -- An engine came to it that was opened on the disk at the start, and whose disk is the one at the end: an object moves to the
  -- train that this chooser picks.
  pub record IsOfEngine (first last : D) (start : World) (journal : List Entry) (total : Total) : Type 0 where
    pub engine : Engine D F d
    pub chooses : chooser engine ≡ place
    pub disk : disk_in engine ≡ last
    pub syncs : SyncsFirst d first (opened_disk engine) last journal
    pub comes : IsTotalOf engine start journal total

-- What an engine came to of which this is said, which was opened in this world and has this journal.
pub record ComesTo (Of : World → List Entry → Total → Type 0) (start : World) (journal : List Entry) (total : Total) : Type 0 where
  -- it is that of the engine
  pub of_engine : Of start journal total
  -- it is told of this journal, with its length
  pub journal_is : total.journal ≡ journal
  pub entries : total.entries ≡ length journal
  -- of each entry it tells what had been made before it
  pub course : length total.course ≡ length journal
  -- there is a line for each watch that is set in the world at the journal's end
  pub watching : length total.lines ≡ (after start journal).watches
  -- since a watch was set no more collections were completed than in all
  pub done : AllByRecursion (λ line. line.done ≤ total.completed) total.lines
  -- no bound is less than that of one train of 1,024 objects, and no more collections were completed than events of the
  -- collector were made
  pub least : AllByRecursion (λ line. 1052676 ≤ line.bound) total.lines
  pub few : total.completed ≤ total.steps
  -- where as many collections were completed since a watch was set as its bound says, no object of a train of that time
  -- stands
  pub honest : AllByRecursion IsHonest total.lines
  -- no more objects are reached in that world than stand
  pub standing : ReachesAtMost (after start journal) total.standing

module _ {D F : Type 0} (d : disk.Ghosts D) (place : F) where
  -- The tally of a run with this chooser, from this disk to that one, from the world that was opened, by how it ended.
  pub record TalliesRun (first last : D) (start : World) (detail : Detail) (journal : List Entry) (tally : Option Tally) : Type 0 where
    -- past the store it is there
    pub opened : IsPast the_store detail → IsSome tally
    -- before the events it is not
    pub unopened : IsBefore the_events detail → tally ≡ None
    -- it is that of the engine
    pub comes_to : IfSome tally (λ it. ComesTo (IsOfEngine d place first last) start journal (tally_of it))
