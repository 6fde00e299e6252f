-- What `client` and `give` of an engine with a nursery do.
use Rattle.std.specs.Prelude.{◌≡◌, ℕ, ◌+◌, ◌≤◌, true, false, List, ◌++◌, Some, None, Result, MatchResult, IfOk, IfErr, OnOk, is_some}
use Rattle.std.specs.FinMap.{get}
use Rattle.pm_types.specs.Replies.{IsShortReply}
use Rattle.pm_types.specs.declared.command.Cmd.{Cmd}
use Rattle.pm_types.specs.declared.fault.EngineFault.{EngineFault}
use Rattle.pm_types.specs.declared.fault.EngineFault.TheVariants.{Memory, Disk, Reopen}
use Rattle.pm_types.specs.declared.reply.Reply.{Reply}
use Rattle.pm_disk.specs.declared.disk.Disk.{Ghosts}
use Rattle.pm_model.specs.Frames.{is_settle, saves}
use Rattle.pm_saving.specs.Events.{Serves, StaysBegun}
use Rattle.pm_saving.specs.Serving.{KeepsOpening, Serving, world}
use Rattle.pm_engine.specs.Works.Clauses.{CallsFew, CallsNoDisk, IsDropped, IsIdle, IsRunning, LeavesCopies, MayRunOut, ReadsWithin, SettlesAs}
use Rattle.pm_engine.specs.Works.Copies.{KeepsCopies}
use Rattle.pm_nursery.specs.Escaping.{AreEscaping, young_then}
use Rattle.pm_nursery.specs.Sweeping.{among}
use Rattle.pm_nursery.specs.Young.{no_nursery}
use Rattle.pm_young.specs.declared.engine.YoungEngine.{YoungEngine}
use Rattle.pm_young.specs.Calls.{HaltsForDisk, HaltsForMemory, WasHalted, YoungGoesOn}
use Rattle.pm_young.specs.Entering.{IsPresent}
use Rattle.pm_young.specs.Parts.{AreFirstEscaping}
use Rattle.pm_young.specs.Seen.{KeepsNursery, entered_in, face, halt_in, room, serving, young_in}

-- No entry was added: journal, course, watches and copies stay, and no event was made. More pages of the copy in progress
-- may have been written. Of the space nothing is said.
pub record AddsNoEntry (old new : Serving) : Type 0 where
  pub opening : KeepsOpening old new
  pub frozen : new.frozen ≡ old.frozen
  pub settled : new.saving.settled ≡ old.saving.settled
  pub progress : StaysBegun old.saving.progress new.saving.progress
  pub journal : new.journal ≡ old.journal
  pub course : new.course ≡ old.course
  pub watches : new.watches ≡ old.watches
  pub events : new.events ≡ old.events
  pub steps : new.steps ≡ old.steps

module _ {D : Type 0} {F : Type 0} {g : Ghosts D} where
  -- What escapes at the command entered, ascending, and each of it is in a car; and what is young then is what stays so, or
  -- is born.
  pub record LetsEnter (client : ℕ) (cmd : Cmd) (old new : YoungEngine D F g) : Type 0 where
    pub ids : List ℕ
    pub escaping : ∥ AreEscaping (world (serving old)) (young_in old) client cmd ids ∥₁
    pub entered : entered_in new ≡ entered_in old ++ ids
    pub here : (id : ℕ) → among ids id ≡ true → IsPresent (serving new).view id
    pub young : (id : ℕ) → is_some (get (young_in new).objects id) ≡ young_then (world (serving old)) (young_in old) client cmd ids id

  -- Memory ran out: what entered is a first part of what would have escaped, and each of it is in a car. Nothing is young
  -- any more, no entry was added, and from now on the engine answers no more.
  pub record RunsOutAt (client : ℕ) (cmd : Cmd) (old new : YoungEngine D F g) : Type 0 where
    pub halts : HaltsForMemory old new
    pub nothing : AddsNoEntry (serving old) (serving new)
    pub ids : List ℕ
    pub first : ∥ AreFirstEscaping (world (serving old)) (young_in old) client cmd ids ∥₁
    pub entered : entered_in new ≡ entered_in old ++ ids
    pub here : (id : ℕ) → among ids id ≡ true → IsPresent (serving new).view id
    pub young : young_in new ≡ no_nursery

  -- the disk failed, in `settle` alone: nothing came in, and what is young stays so
  pub record FailsAtDisk (cmd : Cmd) (old new : YoungEngine D F g) (before after : ℕ) : Type 0 where
    pub settles : is_settle cmd ≡ true
    pub halts : HaltsForDisk old new before after
    pub nursery : KeepsNursery old new

  -- why nothing was answered
  abbrev pub FailsClient : ℕ → Cmd → YoungEngine D F g → YoungEngine D F g → EngineFault → Type 0
  FailsClient client cmd old new (Memory _) = RunsOutAt client cmd old new
  FailsClient client cmd old new (Disk before after) = FailsAtDisk cmd old new before after
  FailsClient client cmd old new (Reopen count) = WasHalted old new count

  -- What `client` and `give` do, whatever they answer.
  pub record AnswersYoungClient (client : ℕ) (cmd : Cmd) (old new : YoungEngine D F g) (result : Result Reply EngineFault) : Type 0 where
    -- the reply and the next world are those of the world, and one entry is appended
    pub serves : IfOk result (Serves client cmd (serving old) (serving new))
    -- just what escapes at it entered, and what is young then is what stays so or is born
    pub enters : OnOk result (LetsEnter client cmd old new)
    -- why nothing was answered
    pub fails : IfErr result (FailsClient client cmd old new)
    -- it is answered only while every call is, and then the next one is too
    pub running : OnOk result (IsRunning (halt_in old) (face old) (face new))
    pub runs : OnOk result (halt_in new ≡ None)
    -- but for `settle` the disk is not called
    pub still : is_settle cmd ≡ false → CallsNoDisk (face old) (face new) result
    -- a crash at any moment of the call leaves the last acknowledged copy, or, of `settle`, that in progress
    pub leaves : LeavesCopies cmd (face old) (face new) result
    -- once a copy settled each image stands for it, and nothing was written but what was left of it and its header
    pub settled : IfOk result (SettlesAs (face old) (face new))
    -- once a copy was given up its pages are free
    pub dropped : IfOk result (IsDropped cmd (face old) (face new))
    -- no more writes and syncs are made than settle a copy
    pub made : CallsFew (face old) (face new)
    -- memory runs out in `settle` only where something of the copy was left to be written, and is, or no entry had room
    pub short : IfErr result (MayRunOut cmd (face old) (face new))
    -- a reply shows at most an object's bytes
    pub shown : IfOk result IsShortReply
    -- a command that neither begins, settles nor drops a copy leaves the copies as they were
    pub copies : saves cmd ≡ false → OnOk result (KeepsCopies (serving old) (serving new))
    -- where no copy is in progress the disk is not called
    pub idle : IsIdle (face old) (face new)
    -- no read is made past the end of what the disk told
    pub past : ReadsWithin (face old) (face new)
    -- an entry takes the room of one
    pub room : MatchResult result (λ _. room old ≤ room new + 1) (λ _. room old ≤ room new)
    -- what died young stays out
    pub goes : YoungGoesOn old new
