-- What the type of a book keeps.
use Rattle.std.specs.Prelude.{◌≡◌, ℕ, ◌+◌, ◌^◌, ◌<◌, ◌≤◌, true, List, [], ◌∷◌, ◌++◌, length, Option, Some, None, option_map}
use Rattle.std.specs.List.{AllByRecursion}
use Rattle.pm_types.specs.Counts.{ShowsRise}
use Rattle.pm_types.specs.declared.command.Cmd.{Cmd}
use Rattle.pm_types.specs.declared.fault.EngineFault.{EngineFault}
use Rattle.pm_types.specs.declared.fault.EngineFault.TheVariants.{Memory, Disk, Reopen}
use Rattle.pm_disk.specs.declared.disk.Disk.{Ghosts}
use Rattle.pm_model.specs.Frames.{is_settle}
use Rattle.pm_model.specs.Journal.{commands_of, part}
use Rattle.pm_script.specs.declared.line.Line.{Line}
use Rattle.pm_script.specs.Script.{AreLines}
use Rattle.pm_script.specs.Parted.Asked.{events_asked, flushes_asked, requests_asked, steps_asked}
use Rattle.pm_script.specs.Parted.Lists.{count_left, list_of}
use Rattle.pm_saving.specs.Serving.{Serving}
use Rattle.pm_engine.specs.declared.engine.Engine.{Engine}
use Rattle.pm_engine.specs.Shown.{disk_in, opened_count, past_of, room, serving, unmade_in}
use Rattle.pm_engine.specs.declared.unmade.Unmade.{Unmade}
use Rattle.pm_engine.specs.declared.unmade.Unmade.TheVariants.{OfClient, OfCollector, OfFlusher}
use Rattle.pm_engine.specs.declared.events.stop.Stop.{Stop}
use Rattle.pm_engine.specs.Events.Causes.{stop_of}
use Rattle.pm_engine.specs.Events.Events.{EngineGoesOn, FitsLine, IsUnfinished}

-- What is left of a script, beside what an engine has answered and made of it.
pub record KeepsScript (lines : List Line) (it : Serving) (lists : List (List Cmd)) (collects flushes : ℕ) : Type 0 where
  -- the lines are those of a script
  pub lines_are : AreLines lines
  -- each client's part of the journal, and behind it the list that is left, are its commands in the script
  pub parts : (client : ℕ) → part client it.journal ++ list_of lists client ≡ commands_of client (requests_asked lines)
  -- the commands that were answered and those that are left are together as many as are asked
  pub answered : length it.journal + count_left lists ≡ length (requests_asked lines)
  -- and so are the collector's events that were made and those that are left
  pub steps : it.steps + collects ≡ steps_asked lines
  -- and the flush events: those that were made are the events that are neither an entry nor the collector's
  pub events : it.events + flushes ≡ length it.journal + it.steps + flushes_asked lines
  -- all together they are so few that no count has stopped at its end
  pub few : events_asked lines < 2 ^ 50
  -- each entry's text is a line
  pub told : AllByRecursion FitsLine it.journal

-- why the run stops, where this fault is kept
abbrev pub stop_kept : Option EngineFault → Option Stop
stop_kept fault = option_map stop_of fault

-- with which count the engine is stopped, where this fault is kept
abbrev pub stopped_by : Option EngineFault → Option ℕ
stopped_by None = None
stopped_by (Some (Memory _)) = None
stopped_by (Some (Disk before after)) = Some after
stopped_by (Some (Reopen count)) = None

-- The cause of a kept Disk, by the counts at the opening, when the run began, and now: the count has risen since the run
-- began, as told, and was then what it had been at the opening, or more. Reopen is never kept.
abbrev pub HasCauseSince : Option EngineFault → ℕ → ℕ → ℕ → Type 0
HasCauseSince None opened first now = Unit {0}
HasCauseSince (Some (Memory _)) opened first now = Unit {0}
HasCauseSince (Some (Disk before after)) opened first now = (opened ≤ before) × ShowsRise before after first now
HasCauseSince (Some (Reopen count)) opened first now = ⊥

-- a command of this client is left; where it is to settle, something of the copy in progress is left to be written
pub record AwaitsClient (client : ℕ) (it : Serving) (lists : List (List Cmd)) : Type 0 where
  pub cmd : Cmd
  pub rest : List Cmd
  pub next : list_of lists client ≡ cmd ∷ rest
  pub unfinished : is_settle cmd ≡ true → IsUnfinished it

-- the event that was not made is left
abbrev pub AwaitsEvent : Option Unmade → Serving → List (List Cmd) → ℕ → ℕ → Type 0
AwaitsEvent None it lists collects flushes = ⊥
AwaitsEvent (Some (OfClient client)) it lists collects flushes = AwaitsClient client it lists
AwaitsEvent (Some OfCollector) it lists collects flushes = 0 < collects
AwaitsEvent (Some OfFlusher) it lists collects flushes = 0 < flushes

-- Where Memory is kept, the event for which the engine answered it is left. So it is no `settle` once all of the copy was
-- flushed.
abbrev pub HasLeft : Option EngineFault → Option Unmade → Serving → List (List Cmd) → ℕ → ℕ → Type 0
HasLeft None unmade it lists collects flushes = Unit {0}
HasLeft (Some (Memory _)) unmade it lists collects flushes = AwaitsEvent unmade it lists collects flushes
HasLeft (Some (Disk before after)) unmade it lists collects flushes = Unit {0}
HasLeft (Some (Reopen count)) unmade it lists collects flushes = Unit {0}

-- this holds, unless Memory is kept
abbrev pub UnlessMemory : Option EngineFault → Type 0 → Type 0
UnlessMemory None P = P
UnlessMemory (Some (Memory _)) P = Unit {0}
UnlessMemory (Some (Disk before after)) P = P
UnlessMemory (Some (Reopen count)) P = P

module _ {D : Type 0} {F : Type 0} {g : Ghosts D} where
  -- The engine of a book, beside the one that it was made of, by what is kept and what is left.
  pub record KeepsEngine (first now : Engine D F g) (fault : Option EngineFault) (lists : List (List Cmd)) (collects flushes : ℕ) : Type 0 where
    -- it went on from the first as a run does: what a crash leaves at each moment since, and how the disk's count moved
    pub goes : EngineGoesOn first now (stop_kept fault)
    -- no entry was let go, since it was opened
    pub whole : past_of now ≡ []
    -- it is stopped exactly where a Disk is kept, with the count of that
    pub stopped : (serving now).stopped ≡ stopped_by fault
    -- whose count rose, as told
    pub cause : HasCauseSince fault (opened_count first) (g.count (disk_in first)) (g.count (disk_in now))
    -- there is room for the entries of all commands that are left
    pub room : count_left lists ≤ room now
    -- where memory ran out, the event that the engine noted is left
    pub short : HasLeft fault (unmade_in now) (serving now) lists collects flushes
    -- where it did not, the engine noted none since
    pub unmade : UnlessMemory fault (unmade_in now ≡ unmade_in first)

  -- What a book keeps.
  pub record KeepsBook (lines : List Line) (first now : Engine D F g) (lists : List (List Cmd)) (collects flushes : ℕ) (fault : Option EngineFault) : Type 0 where
    -- of its script
    pub script : KeepsScript lines (serving now) lists collects flushes
    -- and of its engine
    pub engine : KeepsEngine first now fault lists collects flushes
