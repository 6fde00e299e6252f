-- What events do over an engine, one behind another: what is answered, and what becomes of engine and disk.
use Rattle.std.specs.Prelude.{◌≡◌, ℕ, ◌+◌, ◌<◌, ◌≤◌, true, List, [], ◌∷◌, ◌++◌, Contains, length, Option, None}
use Rattle.pm_types.specs.Counts.{greatest_count, capped, raised}
use Rattle.pm_types.specs.declared.limits.TheConstants.{CLIENTS}
use Rattle.pm_types.specs.declared.command.Cmd.{Cmd}
use Rattle.pm_types.specs.declared.entry.Entry.{Entry}
use Rattle.pm_types.specs.Replies.{IsShortReply}
use Rattle.pm_disk.specs.declared.disk.Disk.{Ghosts}
use Rattle.pm_disk.specs.Disk.{LeavesOnly}
use Rattle.pm_model.specs.declared.request.Request.{Request}
use Rattle.pm_model.specs.Frames.{is_settle}
use Rattle.pm_model.specs.Journal.{chain, requests_of}
use Rattle.pm_model.specs.World.{Copy}
use Rattle.pm_saving.specs.Paging.{left_of}
use Rattle.pm_saving.specs.Serving.{Serving, made_now, opening}
use Rattle.pm_saving.specs.Images.{IsLast, IsOfRun, IsTold}
use Rattle.pm_engine.specs.declared.engine.Engine.{Engine}
use Rattle.pm_engine.specs.Shown.{KeepsStart, disk_in, opened_disk, past_of, room, serving}
use Rattle.pm_engine.specs.declared.events.stop.Stop.{Stop}
use Rattle.pm_engine.specs.Events.Causes.{CountsDisk, IsDone, IsOfDisk, OnMemory}

-- an entry's text is one line: who asked is a client, and what the reply shows is no longer than an object
abbrev pub FitsLine : Entry → Type 0
FitsLine entry = (entry.client < CLIENTS) × IsShortReply entry.reply

-- An entry of this request was put at the journal's end, whose reply fits a line, and what had been made before it at the
-- end of the course; one event more was made, which is none of the collector.
pub record Adds (client : ℕ) (cmd : Cmd) (old new : Serving) : Type 0 where
  pub entry : Entry
  pub journal : new.journal ≡ old.journal ++ entry ∷ []
  pub client_is : entry.client ≡ client
  pub cmd_is : entry.cmd ≡ cmd
  pub short : IsShortReply entry.reply
  pub course : new.course ≡ old.course ++ made_now old ∷ []
  pub events : new.events ≡ raised old.events
  pub steps : new.steps ≡ old.steps

-- nothing was answered, and no event was made
pub record KeepsCounts (old new : Serving) : Type 0 where
  pub journal : new.journal ≡ old.journal
  pub course : new.course ≡ old.course
  pub events : new.events ≡ old.events
  pub steps : new.steps ≡ old.steps

-- What a part of a run answers of what it is asked, by why the run stops in it, if it does.
pub record AnswersPart (asked : List Request) (count of_them : ℕ) (old new : Serving) (stop : Option Stop) : Type 0 where
  -- a first part of it was answered, behind what had been
  pub rest : List Request
  pub served : requests_of new.journal ++ rest ≡ requests_of old.journal ++ asked
  -- where the run does not stop, it is all, and so many events were made, so many of them by the collector
  pub all : IsDone stop → requests_of new.journal ≡ requests_of old.journal ++ asked
  pub events : IsDone stop → old.events ≤ greatest_count → new.events ≡ capped (old.events + count)
  pub steps : IsDone stop → old.steps ≤ greatest_count → new.steps ≡ capped (old.steps + of_them)

-- something of a copy in progress is left to be written
abbrev pub IsUnfinished : Serving → Type 0
IsUnfinished it = 0 < left_of it.saving.progress

-- where memory ran out in a command no event was made, and in `settle` something of the copy is left to be written
abbrev pub IsShort : Cmd → Serving → Serving → Option Stop → Type 0
IsShort cmd old new stop = OnMemory stop ((new.events ≡ old.events) × (is_settle cmd ≡ true → IsUnfinished new))

-- ---- the engine

-- where no command is answered still
pub record WasIdle {D : Type 0} (old new : Serving) (before after : D) : Type 0 where
  -- none was before
  pub none : old.journal ≡ []
  -- and where no copy was in progress, none is, and the disk was not called
  pub still : old.saving.progress ≡ None → new.saving.progress ≡ None
  pub disk : old.saving.progress ≡ None → after ≡ before

module _ {D : Type 0} {F : Type 0} {g : Ghosts D} where
  -- What a part of a run does to engine and disk, by why the run stops in it, if it does.
  pub record EngineGoesOn (old new : Engine D F g) (stop : Option Stop) : Type 0 where
    pub start : KeepsStart old new
    -- no entry was let go
    pub entries : past_of new ≡ past_of old
    -- each entry takes the room of one
    pub room : room old + length (serving old).journal ≤ room new + length (serving new).journal
    -- what was acknowledged stays so
    pub grows : (kept : ℕ × Copy) → Contains (chain (opening (serving old)) (serving old).journal) kept → Contains (chain (opening (serving new)) (serving new).journal) kept
    -- at each moment a crash leaves a copy that was acknowledged; where the disk failed, or the one in progress
    pub leaves : IsTold (g.contents (opened_disk old)) → LeavesOnly g.moment g.since (disk_in old) (disk_in new) (IsOfRun (serving new))
    -- where it failed, that is the last acknowledged one
    pub last : IsOfDisk stop → IsTold (g.contents (opened_disk old)) → (left : List ℕ) → g.image (disk_in new) left → IsLast (serving new) left
    -- the engine is stopped only where the disk failed
    pub going : (IsOfDisk stop → ⊥) → (serving new).stopped ≡ None
    -- whose count of failed calls rose
    pub cause : CountsDisk stop (g.count (disk_in old)) (g.count (disk_in new))
    -- no read reached past the end of what the disk told
    pub past : (g.made (disk_in new)).past ≡ (g.made (disk_in old)).past
    -- where no command is answered still
    pub idle : (serving new).journal ≡ [] → WasIdle (serving old) (serving new) (disk_in old) (disk_in new)
