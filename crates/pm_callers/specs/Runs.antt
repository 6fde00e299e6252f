-- What a whole run comes to.
use Rattle.std.specs.Prelude.{◌≡◌, ◌⊎◌, ℕ, ◌+◌, ◌≤◌, ◌<◌, List, ◌∷◌, ◌++◌, length, Option, Some, None}
use Rattle.std.specs.List.{AllByRecursion}
use Rattle.pm_types.specs.Counts.{Rose}
use Rattle.pm_types.specs.declared.limits.TheConstants.{CLIENTS}
use Rattle.pm_types.specs.declared.command.Cmd.{Cmd}
use Rattle.pm_types.specs.declared.entry.Entry.{Entry}
use Rattle.pm_types.specs.declared.fault.EngineFault.TheVariants.{Memory, Disk, Reopen}
use Rattle.pm_disk.specs.declared.disk.Disk.{Ghosts}
use Rattle.pm_model.specs.Journal.{IsFirstPart, commands_of, part}
use Rattle.pm_script.specs.declared.line.Line.{Line}
use Rattle.pm_script.specs.Parted.Asked.{events_asked, flushes_asked, requests_asked, steps_asked}
use Rattle.pm_saving.specs.Serving.{Serving}
use Rattle.pm_engine.specs.declared.engine.Engine.{Engine}
use Rattle.pm_engine.specs.Events.Events.{EngineGoesOn, FitsLine}
use Rattle.pm_engine.specs.Shown.{KeepsStart, disk_in, past_of, room, serving}
use Rattle.pm_lock.specs.Crew.Whole.{MakesAllOf}
use Rattle.pm_seats.specs.declared.fault.SeatFault.{SeatFault}
use Rattle.pm_seats.specs.declared.fault.SeatFault.TheVariants.{Engine as Answered, Spent}
use Rattle.pm_seats.specs.declared.limits.TheConstants.{LAST_EVENT}
use Rattle.pm_turns.specs.declared.limits.TheConstants.{WORKERS}
use Rattle.pm_callers.specs.declared.task.Task.{Task}
use Rattle.pm_callers.specs.Tasks.{AreApart, IsDone, IsTask, SomeLeft, calls_left, collects_left, flushes_left}
use Rattle.pm_callers.specs.Faults.{stop_met}

-- something that the lines ask is not among what was answered and made: a client's command, an event of the collector, or
-- a flush event
abbrev pub LeavesSome : List Line → List Entry → ℕ → ℕ → Type 0
LeavesSome lines journal steps events =
    ((client : ℕ) × (cmd : Cmd) × (rest : List Cmd)
    × (part client journal ++ cmd ∷ rest ≡ commands_of client (requests_asked lines)))
    ⊎ ((steps < steps_asked lines)
    ⊎ (events < length journal + steps + flushes_asked lines))

-- the same of an engine
abbrev pub IsLeft : List Line → Serving → Type 0
IsLeft lines it = LeavesSome lines it.journal it.steps it.events

module _ {D : Type 0} {F : Type 0} {g : Ghosts D} where
  -- an engine is as it was but for its room
  pub record KeepsEngine (old new : Engine D F g) : Type 0 where
    pub serving_is : serving new ≡ serving old
    pub disk : disk_in new ≡ disk_in old
    pub start : KeepsStart old new
    pub entries : past_of new ≡ past_of old
    pub room : room old ≤ room new

  -- What a fault says of the run. Memory: something is left, or nothing was begun. Disk and Reopen: the disk's count rose.
  -- Spent never comes.
  abbrev pub Says : List Line → Engine D F g → Engine D F g → Option SeatFault → Type 0
  Says lines old new None = MakesAllOf lines (serving new)
  Says lines old new (Some (Answered (Memory _))) = KeepsEngine old new ⊎ IsLeft lines (serving new)
  Says lines old new (Some (Answered (Disk _ _))) = Rose (g.count (disk_in old)) (g.count (disk_in new))
  Says lines old new (Some (Answered (Reopen _))) = Rose (g.count (disk_in old)) (g.count (disk_in new))
  Says lines old new (Some (Spent events)) = ⊥

  -- The lines were asked of an engine by workers, each with a pass of its own, and this fault was the worst.
  pub record RunsCalls (lines : List Line) (old new : Engine D F g) (fault : Option SeatFault) : Type 0 where
    -- each client's part of the journal is a first part of its commands
    pub parts : (client : ℕ) → IsFirstPart (part client (serving new).journal) (commands_of client (requests_asked lines))
    -- no more events of the collector were made, and no more flush events, than are asked
    pub steps : (serving new).steps ≤ steps_asked lines
    pub flushes : (serving new).events ≤ length (serving new).journal + (serving new).steps + flushes_asked lines
    -- so few events were made that no count came to its end
    pub few : (serving new).events < LAST_EVENT
    -- each entry's text is a line
    pub lines_are : AllByRecursion FitsLine (serving new).journal
    -- the engine went on as a run does that stops for this fault
    pub goes : ∥ EngineGoesOn old new (stop_met fault) ∥₁
    -- what the fault says, and where there is none that all was made
    pub says : Says lines old new fault

-- the tasks of all that lines ask: each client's commands in one task, and all events of the two other kinds
pub record AreAsked (lines : List Line) (tasks : List Task) : Type 0 where
  pub ten : length tasks ≡ WORKERS
  pub are : AllByRecursion IsTask tasks
  pub apart : AreApart tasks
  pub calls : (client : ℕ) → calls_left client tasks ≡ commands_of client (requests_asked lines)
  pub collects : collects_left tasks ≡ steps_asked lines
  pub flushes : flushes_left tasks ≡ flushes_asked lines
  pub few : events_asked lines < LAST_EVENT

-- where no fault is told nothing is left, and where Memory is something is
abbrev pub Leaves : List Task → Option SeatFault → Type 0
Leaves left None = AllByRecursion IsDone left
Leaves left (Some (Answered (Memory _))) = SomeLeft left
Leaves left (Some (Answered (Disk _ _))) = Unit {0}
Leaves left (Some (Answered (Reopen _))) = Unit {0}
Leaves left (Some (Spent _)) = Unit {0}

-- what a fault says of the engine's end
abbrev pub Shows : Serving → ℕ → ℕ → Option SeatFault → Type 0
Shows it before after None = Unit {0}
Shows it before after (Some (Answered (Memory _))) = Unit {0}
Shows it before after (Some (Answered (Disk _ _))) = Rose before after
Shows it before after (Some (Answered (Reopen _))) = Rose before after
Shows it before after (Some (Spent _)) = LAST_EVENT ≤ it.events

-- These tasks were asked of an engine that was just opened, by workers, each with a pass of its own.
pub record RunsTasks {D : Type 0} {F : Type 0} {g : Ghosts D} (tasks : List Task) (old new : Engine D F g)
    (fault : Option SeatFault) : Type 0 where
  pub left : List Task
  pub leaves : Leaves left fault
  pub parts : (client : ℕ) → part client (serving new).journal ++ calls_left client left ≡ calls_left client tasks
  pub steps : (serving new).steps + collects_left left ≡ collects_left tasks
  pub events : (serving new).events + flushes_left left
      ≡ length (serving new).journal + (serving new).steps + flushes_left tasks
  pub clients : AllByRecursion (λ entry. entry.client < CLIENTS) (serving new).journal
  pub lines_are : AllByRecursion FitsLine (serving new).journal
  pub goes : ∥ EngineGoesOn old new (stop_met fault) ∥₁
  pub shows : Shows (serving new) (g.count (disk_in old)) (g.count (disk_in new)) fault
