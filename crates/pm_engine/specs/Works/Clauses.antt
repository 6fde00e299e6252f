-- Clauses of the calls of an engine, whichever engine it is, over what it serves, its disk and the pages on it.
use Rattle.std.specs.Prelude.{◌≡◌, ◌⊎◌, ℕ, ◌<◌, true, List, Option, None, Result, IfErr}
use Rattle.pm_types.specs.declared.command.Cmd.{Cmd}
use Rattle.pm_types.specs.declared.command.Cmd.TheVariants.{Unsave}
use Rattle.pm_types.specs.declared.event.Flushed.{Flushed}
use Rattle.pm_types.specs.declared.fault.EngineFault.{EngineFault}
use Rattle.pm_types.specs.declared.fault.EngineFault.TheVariants.{Memory, Disk, Reopen}
use Rattle.pm_types.specs.declared.reply.Reply.{Reply}
use Rattle.pm_types.specs.declared.reply.Reply.TheVariants.{Dropped, Saved}
use Rattle.pm_disk.specs.declared.disk.Disk.{Ghosts}
use Rattle.pm_disk.specs.Disk.{LeavesOnly}
use Rattle.pm_disk.specs.Made.{MadeAtMost, MadeMore}
use Rattle.pm_model.specs.Frames.{is_settle}
use Rattle.pm_shadow.specs.State.{State, abandoned_in}
use Rattle.pm_saving.specs.Paging.{left_of}
use Rattle.pm_saving.specs.Tied.{Settles}
use Rattle.pm_saving.specs.Progress.{cars_or_none}
use Rattle.pm_save.specs.Progress.Answers as save
use Rattle.pm_save.specs.Writer.Settling.{settling_syncs, settling_writes}
use Rattle.pm_saving.specs.Serving.{Serving, world}
use Rattle.pm_saving.specs.Images as images
use Rattle.pm_saving.specs.Images.{IsTold}
use Rattle.pm_engine.specs.declared.works.start.Start.{Start}
use Rattle.pm_engine.specs.declared.works.works.Works.{Works}
use Rattle.pm_engine.specs.Works.Copies.{MayStand}
use Rattle.pm_engine.specs.Works.Seen.{disk_then, seen}
use Rattle.pm_engine.specs.Works.Working.{disk_at, room_in, state_in}

-- ---- faults

-- the fault is none of the disk
abbrev pub IsNoDisk : EngineFault → Type 0
IsNoDisk (Memory _) = Unit {0}
IsNoDisk (Disk before after) = ⊥
IsNoDisk (Reopen count) = Unit {0}

-- P holds where memory ran out
abbrev pub IfMemory : Type 0 → EngineFault → Type 0
IfMemory P (Memory _) = P
IfMemory P (Disk before after) = Unit {0}
IfMemory P (Reopen count) = Unit {0}

-- P holds, unless an earlier call had answered that the disk failed
abbrev pub UnlessReopen : Type 0 → EngineFault → Type 0
UnlessReopen P (Memory _) = P
UnlessReopen P (Disk before after) = P
UnlessReopen P (Reopen count) = Unit {0}

-- ---- what these clauses see of an engine

-- An engine, whichever it is: what it serves, its disk as it was opened and now, the pages on it, and so many entries more
-- take no memory.
pub record Face {D : Type 0} (g : Ghosts D) : Type 0 where
  pub serving : Serving
  pub opened : D
  pub disk : D
  pub pages : State
  pub room : ℕ

-- the engine of these parts
abbrev pub face_of : {D F : Type 0} {g : Ghosts D} → Start D F g → Option ℕ → Works D F g → Face g
face_of opening stopped works = record {
  serving = seen opening stopped works;
  opened = disk_then opening;
  disk = disk_at works;
  pages = state_in works;
  room = room_in works;
}

-- ---- clauses

module _ {D : Type 0} {g : Ghosts D} where
  -- no call had answered what halts the engine, and the disk failed in none of this call's
  pub record IsRunning {H : Type 0} (halt : Option H) (old new : Face g) : Type 0 where
    pub running : halt ≡ None
    pub count : g.count new.disk ≡ g.count old.disk

  -- no call of the disk was made, and no fault is one of it
  pub record CallsNoDisk {T : Type 0} (old new : Face g) (result : Result T EngineFault) : Type 0 where
    pub disk : new.disk ≡ old.disk
    pub none : IfErr result IsNoDisk

  -- of a disk that told its contents when it was opened, while no call had answered that it failed
  abbrev pub LeavesCopies : Cmd → Face g → Face g → Result Reply EngineFault → Type 0
  LeavesCopies cmd old new result =
      old.serving.stopped ≡ None → IsTold (g.contents old.opened)
      → LeavesOnly g.moment g.since old.disk new.disk (MayStand cmd old.serving result)

  abbrev pub LeavesCopy : Face g → Face g → Type 0
  LeavesCopy old new =
      old.serving.stopped ≡ None → IsTold (g.contents old.opened)
      → LeavesOnly g.moment g.since old.disk new.disk (images.IsSettledCopy (world old.serving))

  -- The copy of this number has settled: each image stands for it, and of the pages only those that were left of it and
  -- its header's were written, each on the lowest one that was free; by so many writes, and so many syncs.
  pub record HasSettled (old new : Face g) (number : ℕ) : Type 0 where
    pub number_is : (world new.serving).settled ≡ number
    pub now : IsTold (g.contents old.opened) → (left : List ℕ) → g.image new.disk left → images.IsSettledCopy (world new.serving) left
    pub settles : Settles old.serving.saving new.serving.saving (cars_or_none old.serving.frozen) old.pages new.pages (g.contents old.disk) (g.contents new.disk) number
    pub made : MadeMore (settling_writes old.serving.saving old.pages) (settling_syncs old.pages) 0 (g.made old.disk) (g.made new.disk)

  abbrev pub SettlesAs : Face g → Face g → Reply → Type 0
  SettlesAs old new (Saved number) = HasSettled old new number
  SettlesAs old new reply = Unit {0}

  -- the copy of this number was given up: the pages that were written for it are free, and the disk was not called
  pub record HasDropped (old new : Face g) : Type 0 where
    pub pages : new.pages ≡ abandoned_in old.pages
    pub disk : new.disk ≡ old.disk

  abbrev pub DropsPages : Face g → Face g → Reply → Type 0
  DropsPages old new (Dropped number) = HasDropped old new
  DropsPages old new reply = Unit {0}

  abbrev pub IsDropped : Cmd → Face g → Face g → Reply → Type 0
  IsDropped Unsave old new reply = DropsPages old new reply
  IsDropped cmd old new reply = Unit {0}

  -- no more writes and syncs were made than settle a copy
  abbrev pub CallsFew : Face g → Face g → Type 0
  CallsFew old new = MadeAtMost (settling_writes old.serving.saving old.pages) (settling_syncs old.pages) (g.made old.disk) (g.made new.disk)

  -- memory runs out in `settle` only where something of the copy was left to be written, and is, or no entry had room
  abbrev pub MayRunOut : Cmd → Face g → Face g → EngineFault → Type 0
  MayRunOut cmd old new (Memory _) = is_settle cmd ≡ true → ((0 < left_of old.serving.saving.progress) × (0 < left_of new.serving.saving.progress)) ⊎ (old.room ≡ 0)
  MayRunOut cmd old new (Disk before after) = Unit {0}
  MayRunOut cmd old new (Reopen count) = Unit {0}

  -- the next page of the copy was written, and no other changed; or none was left
  abbrev pub IsFlushed : Face g → Face g → Flushed → Type 0
  IsFlushed old new flushed = save.IsFlushed old.serving.saving new.serving.saving (cars_or_none old.serving.frozen) old.pages new.pages (g.contents old.disk) (g.contents new.disk) flushed

  -- where no copy is in progress the disk is the same value, on which no call was made
  abbrev pub IsIdle : Face g → Face g → Type 0
  IsIdle old new = old.serving.saving.progress ≡ None → new.disk ≡ old.disk

  -- no read was made past the end of what the disk told
  abbrev pub ReadsWithin : Face g → Face g → Type 0
  ReadsWithin old new = (g.made new.disk).past ≡ (g.made old.disk).past

  -- nothing has changed, and what the disk holds is the same
  pub record StaysAsItWas (old new : Face g) : Type 0 where
    pub serving : new.serving ≡ old.serving
    pub pages : new.pages ≡ old.pages
    pub contents : g.contents new.disk ≡ g.contents old.disk
