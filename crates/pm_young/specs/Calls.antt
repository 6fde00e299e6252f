-- What the calls of an engine with a nursery do.
use Rattle.std.specs.Prelude.{◌≡◌, ◌⊎◌, ℕ, ◌<◌, ◌≤◌, true, List, ◌++◌, Some, None, Result, IfOk, IfErr, OnOk, IsSome}
use Rattle.std.specs.Borrow.{Bor}
use Rattle.std.specs.Fn.{Shared}
use Rattle.std.specs.FinMap.{get}
use Rattle.pm_types.specs.Counts.{ShowsRise, raised}
use Rattle.pm_types.specs.declared.event.Flushed.{Flushed}
use Rattle.pm_types.specs.declared.event.Step.{Step}
use Rattle.pm_types.specs.declared.fault.EngineFault.{EngineFault}
use Rattle.pm_types.specs.declared.fault.EngineFault.TheVariants.{Memory, Disk, Reopen}
use Rattle.pm_disk.specs.declared.disk.Disk.{Ghosts}
use Rattle.pm_disk.specs.Made.{MadeAtMost}
use Rattle.pm_view.specs.Events.{next_row}
use Rattle.pm_evac.specs.Steps.{IsMade, TakesMemory}
use Rattle.pm_saving.specs.Events.{Collects, Flushes, ServesNothing}
use Rattle.pm_saving.specs.Paging.{left_of}
use Rattle.pm_saving.specs.Serving.{KeepsOpening, Serving, world}
use Rattle.pm_engine.specs.Works.Clauses.{CallsNoDisk, IfMemory, IsFlushed, IsIdle, IsRunning, LeavesCopy, ReadsWithin, StaysAsItWas, UnlessReopen}
use Rattle.pm_nursery.specs.Young.{no_nursery}
use Rattle.pm_nursery.specs.Sweeping.{among}
use Rattle.pm_young.specs.declared.engine.YoungEngine.{YoungEngine}
use Rattle.pm_young.specs.declared.halt.Halt.{Halt}
use Rattle.pm_young.specs.declared.halt.HaltCause.TheVariants as causes
use Rattle.pm_young.specs.Entering.{AreFirstKept, AreKept, IsPresent}
use Rattle.pm_young.specs.Rows.{ComeByRows}
use Rattle.pm_young.specs.Seen.{KeepsNursery, chooser, disk_in, entered_in, face, halt_in, pages_in, room, serving, young_in}

-- journal, course, watches and copies stay, and no event of the collector was made
pub record KeepsAnswers (old new : Serving) : Type 0 where
  pub opening : KeepsOpening old new
  pub frozen : new.frozen ≡ old.frozen
  pub saving : new.saving ≡ old.saving
  pub journal : new.journal ≡ old.journal
  pub course : new.course ≡ old.course
  pub watches : new.watches ≡ old.watches
  pub steps : new.steps ≡ old.steps

module _ {D : Type 0} {F : Type 0} {g : Ghosts D} where
  -- the identity is young, or is not given yet
  abbrev pub MayEnterLater : YoungEngine D F g → ℕ → Type 0
  MayEnterLater it id = IsSome (get (young_in it).objects id) ⊎ ((serving it).view.next ≤ id)

  -- What entered grew at its end, by identities that were young or not yet given; each one that is young now was so
  -- too; and no identity is taken back. The opening stays.
  pub record YoungGoesOn (old new : YoungEngine D F g) : Type 0 where
    pub opened : (serving new).opened ≡ (serving old).opened
    pub more : List ℕ
    pub entered : entered_in new ≡ entered_in old ++ more
    pub late : (id : ℕ) → among more id ≡ true → MayEnterLater old id
    pub young : (id : ℕ) → IsSome (get (young_in new).objects id) → MayEnterLater old id
    pub next : (serving old).view.next ≤ (serving new).view.next

  -- A sweep was made: what entered grew by the ascending list of exactly the young identities that the world's names
  -- and registers reach, which came in by their rows; nothing is young any more; and one event more was made, which is
  -- none of the collector.
  pub record HasSwept (old new : YoungEngine D F g) : Type 0 where
    pub running : halt_in old ≡ None
    pub runs : halt_in new ≡ None
    pub answers : KeepsAnswers (serving old) (serving new)
    pub events : (serving new).events ≡ raised (serving old).events
    pub ids : List ℕ
    pub kept : ∥ AreKept (world (serving old)) (young_in old) ids ∥₁
    pub entered : entered_in new ≡ entered_in old ++ ids
    pub rows : ComeByRows (serving old).view (young_in old) ids (serving new).view
    pub young : young_in new ≡ no_nursery

  -- Memory ran out in a sweep: what entered grew by a first part of that list, each of which is in a car; nothing is
  -- young any more, no event was made, and every further call answers `Reopen`, with the disk's count of now.
  pub record RunsOut (old new : YoungEngine D F g) : Type 0 where
    pub running : halt_in old ≡ None
    pub halts : halt_in new ≡ Some (record { cause = causes.Memory; count = g.count (disk_in new) })
    pub answers : KeepsAnswers (serving old) (serving new)
    pub events : (serving new).events ≡ (serving old).events
    pub ids : List ℕ
    pub kept : ∥ AreFirstKept (world (serving old)) (young_in old) ids ∥₁
    pub entered : entered_in new ≡ entered_in old ++ ids
    pub here : (id : ℕ) → among ids id ≡ true → IsPresent (serving new).view id
    pub young : young_in new ≡ no_nursery

  -- an earlier call had answered that the disk failed or that memory ran out, with this count, and nothing changed
  pub record WasHalted (old new : YoungEngine D F g) (count : ℕ) : Type 0 where
    pub halt : Halt
    pub was : halt_in old ≡ Some halt
    pub count_is : count ≡ halt.count
    pub whole : new ≡ old

  -- why no sweep was made: it is never the disk
  abbrev pub FailsSweep : YoungEngine D F g → YoungEngine D F g → EngineFault → Type 0
  FailsSweep old new (Memory _) = RunsOut old new
  FailsSweep old new (Disk before after) = ⊥
  FailsSweep old new (Reopen count) = WasHalted old new count

  -- What `sweep` does, whatever it answers.
  pub record Sweeps {T : Type 0} (old new : YoungEngine D F g) (result : Result T EngineFault) : Type 0 where
    -- a sweep was made
    pub ok : OnOk result (HasSwept old new)
    -- or why none was: memory ran out, or an earlier call had halted the engine
    pub fails : IfErr result (FailsSweep old new)
    -- the disk is the same value, on which no call was made, and so are the pages
    pub still : disk_in new ≡ disk_in old
    pub pages : pages_in new ≡ pages_in old
    -- there is room for as many entries
    pub room : room old ≤ room new
    -- what died young stays out
    pub goes : YoungGoesOn old new

  -- Memory ran out: no call of the disk failed, and from now on the engine answers no more, with the disk's count of now.
  pub record HaltsForMemory (old new : YoungEngine D F g) : Type 0 where
    pub running : halt_in old ≡ None
    pub halts : halt_in new ≡ Some (record { cause = causes.Memory; count = g.count (disk_in new) })
    pub count : g.count (disk_in new) ≡ g.count (disk_in old)

  -- The disk failed: its count of failed calls rose in this call, as told, and from now on the engine answers no more,
  -- with that count. Journal, course, space and copies stay, and no event was made.
  pub record HaltsForDisk (old new : YoungEngine D F g) (before after : ℕ) : Type 0 where
    pub running : halt_in old ≡ None
    pub halts : halt_in new ≡ Some (record { cause = causes.Disk; count = g.count (disk_in new) })
    pub rose : ShowsRise before after (g.count (disk_in old)) (g.count (disk_in new))
    pub nothing : ServesNothing (serving old) (serving new)

  -- why an event was not made
  abbrev pub FailsYoung : YoungEngine D F g → YoungEngine D F g → EngineFault → Type 0
  FailsYoung old new (Memory _) = HaltsForMemory old new
  FailsYoung old new (Disk before after) = HaltsForDisk old new before after
  FailsYoung old new (Reopen count) = WasHalted old new count

  -- What `collect` does, whatever it answers. The calls are those of the chooser.
  pub record AnswersYoungCollect (calls : Shared F (Bor (List ℕ) × Unit {0}) ℕ) (old new : YoungEngine D F g) (result : Result Step EngineFault) : Type 0 where
    -- the next event was made, with the chooser's pick; it moves one object at most, and lowers the work that is left
    pub event : IfOk result (IsMade calls (chooser old) (serving old).view (serving new).view)
    -- journal, watches and copies stay, and with them the world; one event more was made, by the collector
    pub collects : OnOk result (Collects (serving old) (serving new))
    -- why nothing was answered
    pub fails : IfErr result (FailsYoung old new)
    -- it is answered only while every call is, and then the next one is too
    pub running : OnOk result (IsRunning (halt_in old) (face old) (face new))
    pub runs : OnOk result (halt_in new ≡ None)
    -- the disk is not called, and it is never the disk that failed
    pub still : CallsNoDisk (face old) (face new) result
    pub pages : pages_in new ≡ pages_in old
    -- after want of memory nothing has changed but that the engine answers no more, and the event may take memory
    pub memory : IfErr result (IfMemory (serving new ≡ serving old))
    pub short : IfErr result (IfMemory (TakesMemory (next_row (serving old).view)))
    -- there is room for as many entries
    pub room : room old ≤ room new
    -- whatever is answered nothing came in, and all that is young stays so
    pub young : KeepsNursery old new
    pub goes : YoungGoesOn old new

  -- What `flush` does, whatever it answers.
  pub record AnswersYoungFlush (old new : YoungEngine D F g) (result : Result Flushed EngineFault) : Type 0 where
    -- journal, space and copies stay, but for one page, and one event more was made
    pub flushes : OnOk result (Flushes (serving old) (serving new))
    -- the next page of the copy was written, and no other changed; or none was left
    pub flushed : IfOk result (IsFlushed (face old) (face new))
    -- whatever is answered the space stays
    pub view : (serving new).view ≡ (serving old).view
    -- why nothing was answered
    pub fails : IfErr result (FailsYoung old new)
    -- it is answered only while every call is, and then the next one is too
    pub running : OnOk result (IsRunning (halt_in old) (face old) (face new))
    pub runs : OnOk result (halt_in new ≡ None)
    -- a crash at any moment of the call leaves the last acknowledged copy
    pub leaves : LeavesCopy (face old) (face new)
    -- after want of memory nothing has changed but that the engine answers no more, and no page was written
    pub memory : IfErr result (IfMemory (StaysAsItWas (face old) (face new)))
    -- a fault comes only where something of the copy is left to be written
    pub fault : IfErr result (UnlessReopen (0 < left_of (serving old).saving.progress))
    -- where no copy is in progress the disk is not called
    pub idle : IsIdle (face old) (face new)
    -- one write is made at most, and no sync
    pub made : MadeAtMost 1 0 (g.made (disk_in old)) (g.made (disk_in new))
    -- no read is made past the end of what the disk told
    pub past : ReadsWithin (face old) (face new)
    -- there is room for as many entries
    pub room : room old ≤ room new
    -- whatever is answered nothing came in, and all that is young stays so
    pub young : KeepsNursery old new
    pub goes : YoungGoesOn old new
