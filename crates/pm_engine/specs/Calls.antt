-- What the calls of an engine do, beside its journal.
use Rattle.std.specs.Prelude.{◌≡◌, ℕ, ◌+◌, ◌<◌, ◌≤◌, false, List, Option, Some, Result, MatchResult, IfOk, IfErr, OnOk}
use Rattle.std.specs.Borrow.{Bor}
use Rattle.std.specs.Fn.{Shared}
use Rattle.pm_types.specs.declared.command.Cmd.{Cmd}
use Rattle.pm_types.specs.Replies.{IsShortReply}
use Rattle.pm_types.specs.declared.event.Flushed.{Flushed}
use Rattle.pm_types.specs.declared.event.Step.{Step}
use Rattle.pm_types.specs.declared.fault.EngineFault.{EngineFault}
use Rattle.pm_types.specs.declared.fault.EngineFault.TheVariants.{Memory, Disk, Reopen}
use Rattle.pm_types.specs.declared.reply.Reply.{Reply}
use Rattle.pm_disk.specs.declared.disk.Disk.{Ghosts}
use Rattle.pm_disk.specs.Made.{MadeAtMost}
use Rattle.pm_model.specs.Frames.{is_settle, saves}
use Rattle.pm_view.specs.Events.{next_row}
use Rattle.pm_view.specs.Work.{work}
use Rattle.pm_view.specs.Bounded.{KeepsWatches}
use Rattle.pm_law_collect.specs.Work.Raises.{raises}
use Rattle.pm_evac.specs.Steps.{IsMade, TakesMemory}
use Rattle.pm_saving.specs.Paging.{left_of}
use Rattle.pm_saving.specs.Events.{Collects, FailsAs, Flushes, Serves}
use Rattle.pm_engine.specs.declared.engine.Engine.{Engine}
use Rattle.pm_engine.specs.declared.unmade.Unmade.{Unmade}
use Rattle.pm_engine.specs.declared.unmade.Unmade.TheVariants.{OfClient, OfCollector, OfFlusher}
use Rattle.pm_engine.specs.Works.Acting.{ChangesSpace}
use Rattle.pm_engine.specs.Works.Clauses.{CallsFew, CallsNoDisk, IfMemory, IsDropped, IsFlushed, IsIdle, IsRunning, LeavesCopies, LeavesCopy, MayRunOut, ReadsWithin, SettlesAs, StaysAsItWas, UnlessReopen}
use Rattle.pm_engine.specs.Works.Copies.{KeepsCopies}
use Rattle.pm_engine.specs.Shown.{AddsEntry, KeepsEntries, chooser, disk_in, face, room, serving, unmade_in}

-- At want of memory this event is noted, and nothing else notes any.
abbrev pub Notes : Unmade → Option Unmade → Option Unmade → EngineFault → Type 0
Notes event old new (Memory _) = new ≡ Some event
Notes event old new (Disk before after) = new ≡ old
Notes event old new (Reopen count) = new ≡ old

module _ {D : Type 0} {F : Type 0} {g : Ghosts D} where
  -- where the engine was stopped nothing at all changed
  abbrev pub StaysWhole : Engine D F g → Engine D F g → EngineFault → Type 0
  StaysWhole old new (Memory _) = Unit {0}
  StaysWhole old new (Disk before after) = Unit {0}
  StaysWhole old new (Reopen count) = new ≡ old

  -- What `client` does, whatever it answers.
  pub record AnswersClient (client : ℕ) (cmd : Cmd) (old new : Engine D F g) (result : Result Reply EngineFault) : Type 0 where
    -- the reply and the next world are those of the world, and one entry is appended
    pub serves : IfOk result (Serves client cmd (serving old) (serving new))
    -- why nothing was answered; world and journal stay
    pub fails : IfErr result (FailsAs (serving old) (serving new) (g.count (disk_in old)) (g.count (disk_in new)))
    -- it is answered only while no call has answered that the disk failed
    pub running : OnOk result (IsRunning (serving old).stopped (face old) (face new))
    -- and else all stays
    pub reopen : IfErr result (StaysWhole old new)
    -- but for `settle` the disk is not called
    pub still : is_settle cmd ≡ false → CallsNoDisk (face old) (face new) result
    -- a crash at any moment of the call leaves the last acknowledged copy, or, of `settle`, that in progress
    pub leaves : LeavesCopies cmd (face old) (face new) result
    -- once a copy settled each image stands for it, and nothing was written but what was left of it and its header
    pub settled : IfOk result (SettlesAs (face old) (face new))
    -- once a copy was given up its pages are free
    pub dropped : IfOk result (IsDropped cmd (face old) (face new))
    -- no more writes and syncs are made than settle a copy
    pub made : CallsFew (face old) (face new)
    -- memory runs out in `settle` only where something of the copy was left to be written, and is, or no entry had room
    pub short : IfErr result (MayRunOut cmd (face old) (face new))
    -- a reply shows at most an object's bytes
    pub shown : IfOk result IsShortReply
    -- a command that neither begins, settles nor drops a copy leaves the copies as they were
    pub copies : saves cmd ≡ false → OnOk result (KeepsCopies (serving old) (serving new))
    -- after want of memory of a command other than `settle` nothing has changed
    pub lasts : is_settle cmd ≡ false → IfErr result (IfMemory (serving new ≡ serving old))
    -- where no copy is in progress the disk is not called
    pub idle : IsIdle (face old) (face new)
    -- no read is made past the end of what the disk told
    pub past : ReadsWithin (face old) (face new)
    -- a command on the space does its row, and every other one leaves the space as it is; none completes a collection
    pub space : IfOk result (ChangesSpace client cmd (serving old).view (serving new).view)
    -- little is added to the work that is left of a collection
    pub work : work (serving new).view ≤ work (serving old).view + raises cmd
    -- what fits stays, the rank has not risen, and sunk sets stay so, whatever is answered: each watch keeps its bound
    pub bound : KeepsWatches (serving old).view (serving new).view
    -- an entry takes the room of one
    pub room : MatchResult result (λ _. room old ≤ room new + 1) (λ _. room old ≤ room new)
    -- at want of memory it is noted that this client's command was not made, and nothing else is
    pub unmade : MatchResult result (λ _. unmade_in new ≡ unmade_in old) (Notes (OfClient client) (unmade_in old) (unmade_in new))
    -- no entry is let go, and that of the command is the last of those that are kept
    pub kept : MatchResult result (AddsEntry client cmd old new) (λ _. KeepsEntries old new)

  -- What `flush` does, whatever it answers.
  pub record AnswersFlush (old new : Engine D F g) (result : Result Flushed EngineFault) : Type 0 where
    -- journal, space and copies stay, but for one page, and one event more was made
    pub flushes : OnOk result (Flushes (serving old) (serving new))
    -- the next page of the copy was written, and no other changed; or none was left
    pub flushed : IfOk result (IsFlushed (face old) (face new))
    -- whatever is answered the space stays, and with it rank, sunk sets and work
    pub view : (serving new).view ≡ (serving old).view
    -- why nothing was answered; space and journal stay
    pub fails : IfErr result (FailsAs (serving old) (serving new) (g.count (disk_in old)) (g.count (disk_in new)))
    -- it is answered only while no call has answered that the disk failed
    pub running : OnOk result (IsRunning (serving old).stopped (face old) (face new))
    -- and else all stays
    pub reopen : IfErr result (StaysWhole old new)
    -- a crash at any moment of the call leaves the last acknowledged copy
    pub leaves : LeavesCopy (face old) (face new)
    -- after want of memory nothing has changed, and no page was written
    pub memory : IfErr result (IfMemory (StaysAsItWas (face old) (face new)))
    -- a fault comes only where something of the copy is left to be written
    pub fault : IfErr result (UnlessReopen (0 < left_of (serving old).saving.progress))
    -- where no copy is in progress the disk is not called
    pub idle : IsIdle (face old) (face new)
    -- one write is made at most, and no sync
    pub made : MadeAtMost 1 0 (g.made (disk_in old)) (g.made (disk_in new))
    -- no read is made past the end of what the disk told
    pub past : ReadsWithin (face old) (face new)
    -- there is room for as many entries
    pub room : room old ≤ room new
    -- at want of memory it is noted that an event of the flusher was not made, and nothing else is
    pub unmade : MatchResult result (λ _. unmade_in new ≡ unmade_in old) (Notes OfFlusher (unmade_in old) (unmade_in new))
    -- no entry is let go, and none is added
    pub kept : KeepsEntries old new

  -- What `collect` does, whatever it answers. The calls are those of the chooser.
  pub record AnswersCollect (calls : Shared F (Bor (List ℕ) × Unit {0}) ℕ) (old new : Engine D F g) (result : Result Step EngineFault) : Type 0 where
    -- the next event was made, with the chooser's pick; it moves one object at most, and lowers the work that is left
    pub event : IfOk result (IsMade calls (chooser old) (serving old).view (serving new).view)
    -- journal, watches and copies stay, and with them the world; one event more was made, by the collector
    pub collects : OnOk result (Collects (serving old) (serving new))
    -- why nothing was answered
    pub fails : IfErr result (FailsAs (serving old) (serving new) (g.count (disk_in old)) (g.count (disk_in new)))
    -- it is answered only while no call has answered that the disk failed
    pub running : OnOk result (IsRunning (serving old).stopped (face old) (face new))
    -- and else all stays
    pub reopen : IfErr result (StaysWhole old new)
    -- the disk is not called
    pub still : CallsNoDisk (face old) (face new) result
    -- what fits stays, the rank has not risen, and sunk sets stay so, whatever is answered: each watch keeps its bound
    pub bound : KeepsWatches (serving old).view (serving new).view
    -- after want of memory nothing has changed, and the event may take memory
    pub memory : IfErr result (IfMemory (serving new ≡ serving old))
    pub short : IfErr result (IfMemory (TakesMemory (next_row (serving old).view)))
    -- there is room for as many entries
    pub room : room old ≤ room new
    -- at want of memory it is noted that an event of the collector was not made, and nothing else is
    pub unmade : MatchResult result (λ _. unmade_in new ≡ unmade_in old) (Notes OfCollector (unmade_in old) (unmade_in new))
    -- no entry is let go, and none is added
    pub kept : KeepsEntries old new
