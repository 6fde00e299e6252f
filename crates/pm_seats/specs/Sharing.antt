-- What the calls of callers with passes do.
use Rattle.std.specs.Prelude.{◌≡◌, ◌⊎◌, ℕ, suc, ◌+◌, ◌≤◌, List, [], ◌∷◌, ◌++◌, map, length, None}
use base.Stored.{Coded}
use Rattle.atomic_table.specs.Seated.{TableId}
use Rattle.pm_types.specs.Counts.{Rose}
use Rattle.pm_types.specs.declared.command.Cmd.{Cmd}
use Rattle.pm_types.specs.declared.entry.Entry.{Entry}
use Rattle.pm_types.specs.declared.fault.EngineFault.TheVariants.{Memory, Disk, Reopen}
use Rattle.pm_types.specs.declared.reply.Reply.{Reply}
use Rattle.pm_disk.specs.declared.disk.Disk.{Ghosts}
use Rattle.pm_model.specs.Journal.{IsLegal}
use Rattle.pm_saving.specs.Serving.{opening}
use Rattle.pm_engine.specs.declared.engine.Engine.{Engine}
use Rattle.pm_engine.specs.Shown.{serving}
use Rattle.pm_passes.specs.declared.pass.Pass.{Pass}
use Rattle.pm_passes.specs.declared.view.View.{View}
use Rattle.pm_passes.specs.Numbering.{every}
use Rattle.pm_passes.specs.Passes.{IsAmong, view_of}
use Rattle.pm_passes.specs.Views.{StartsWith, IsOf, calls_by}
use Rattle.pm_seats.specs.declared.events.Seen.{Seen}
use Rattle.pm_seats.specs.declared.fault.SeatFault.{SeatFault}
use Rattle.pm_seats.specs.declared.fault.SeatFault.TheVariants.{Engine as Answered, Spent}
use Rattle.pm_seats.specs.declared.limits.TheConstants.{LAST_EVENT}
use Rattle.pm_seats.specs.declared.logbook.Logbook.{Logbook}
use Rattle.pm_seats.specs.Shown.{first_in, log_in, numbers_in}
use Rattle.pm_seats.specs.declared.shared.Shared.{Shared}

-- the entries of a log, without their callers
abbrev pub entries_of : List (ℕ × Entry) → List Entry
entries_of log = map (λ x. x.1) log

-- the entry of a command
abbrev pub entry_of : ℕ → Cmd → Reply → Entry
entry_of client cmd reply = record { client = client; cmd = cmd; reply = reply }

-- The first pass: it has seen and made nothing, and has all shares. It was told of the disk's count.
pub record OpensPass (base : ℕ) (w : View Entry) : Type 0 where
  pub number : w.number ≡ 0
  pub front : w.front ≡ []
  pub mine : w.mine ≡ []
  pub ended : w.ended ≡ []
  pub shares : w.shares ≡ every
  pub made : w.made ≡ 0
  pub flushed : w.flushed ≡ 0
  pub struck : w.struck ≡ 0
  pub faults : w.faults ≡ base
  pub events : w.events ≡ 0

-- A pass that has looked at the log, and is else as it was. What it knew of the value while it had it, is of no use.
abbrev pub looked : View Entry → View Entry → View Entry
looked v w = record v { front = w.front; all = w.all; next = w.next; was = w.was }

-- A command was answered: the front is the old one, entries of others, and this entry, at this place. Its own entries
-- have one more, this one, and it is else as it was.
pub record SeesEntry (client : ℕ) (cmd : Cmd) (v w : View Entry) (seen : Seen) : Type 0 where
  pub before : List (ℕ × Entry)
  pub starts : StartsWith before v.front
  pub front : w.front ≡ before ++ (v.number, entry_of client cmd seen.reply) ∷ []
  pub place : seen.place ≡ length before
  pub view : w ≡ record (looked v w) { mine = v.mine ++ entry_of client cmd seen.reply ∷ [] }

-- An event of the collector was made: it has one more, and is else as it was.
pub record SeesMade (v w : View Entry) : Type 0 where
  pub starts : StartsWith w.front v.front
  pub view : w ≡ record (looked v w) { made = suc v.made }

-- A flush event was made: it has one more, and is else as it was.
pub record SeesFlush (v w : View Entry) : Type 0 where
  pub starts : StartsWith w.front v.front
  pub view : w ≡ record (looked v w) { flushed = suc v.flushed }

-- What a fault tells a pass, where the disk had this count at first. Memory: nothing. Disk: one call more was answered
-- so, and the count rose in it. Reopen: the count has risen since the first. Spent: so many events were made.
abbrev pub TellsFault : ℕ → View Entry → View Entry → SeatFault → Type 0
TellsFault base v w (Answered (Memory _)) = w ≡ looked v w
TellsFault base v w (Answered (Disk before after)) =
    (v.faults ≤ before) × Rose before after × (v.events ≤ w.events)
    × (w ≡ record (looked v w) { struck = suc v.struck; faults = after; events = w.events })
TellsFault base v w (Answered (Reopen count)) =
    Rose base count × (v.faults ≤ count) × (v.events ≤ w.events)
    × (w ≡ record (looked v w) { faults = count; events = w.events })
TellsFault base v w (Spent events) =
    (events ≡ LAST_EVENT) × (v.faults ≤ w.faults) × (v.events ≤ events)
    × (w ≡ record (looked v w) { faults = w.faults; events = events })

-- A fault was answered: the pass has seen all of the log, and was told what the fault tells.
pub record FailsPass (base : ℕ) (v w : View Entry) (fault : SeatFault) : Type 0 where
  pub starts : StartsWith w.front v.front
  pub told : TellsFault base v w fault

-- the fault is none of the disk
abbrev pub IsNoDiskFault : SeatFault → Type 0
IsNoDiskFault (Answered (Memory _)) = Unit {0}
IsNoDiskFault (Answered (Disk before after)) = ⊥
IsNoDiskFault (Answered (Reopen count)) = Unit {0}
IsNoDiskFault (Spent events) = Unit {0}

module _ {D : Type 0} {F : Type 0} {g : Ghosts D} where
  -- the engine that `open` took, as it was
  abbrev pub first_engine : Shared D F g → Engine D F g
  first_engine shared = first_in shared.home.table.shared.key.value

  -- the table in which the logbook lies, by which passes know whose they are
  abbrev pub table_of : Shared D F g → TableId
  table_of shared = shared.home.table.shared.table_id

  -- The pass was made by the `open` that gave this `Shared`, or split off since, and what it has seen is legal.
  pub record IsPassOf (coded : Coded (Engine D F g)) (shared : Shared D F g) (pass : Pass Entry) : Type 0 where
    pub among : IsAmong (table_of shared) (coded.code (first_engine shared)) pass
    pub legal : IsLegal (opening (serving (first_engine shared))) (entries_of (view_of pass).front)

  -- An event of the engine was made while the pass had the logbook, which is made of this first engine: it was `old`,
  -- with all that the pass had seen, and became `new`, all of which the pass has seen then.
  pub record HasEvent (first : Engine D F g) (Does : Logbook D F g → Logbook D F g → Type 0) (v w : View Entry)
      : Type 0 where
    pub old : Logbook D F g
    pub new : Logbook D F g
    pub does : Does old new
    pub tied : first_in old ≡ first
    pub starts : StartsWith (log_in old) v.front
    pub front : w.front ≡ log_in new
    pub faults : v.faults ≤ (numbers_in old).faults
    pub events : v.events ≤ (numbers_in old).events

  -- nothing of the engine is another's: what it has is what the pass has seen and counted
  pub record IsWholeEngine (v : View Entry) (now : Engine D F g) : Type 0 where
    pub journal : (serving now).journal ≡ entries_of v.front
    pub steps : (serving now).steps ≡ v.made
    pub events : (serving now).events ≡ length (serving now).journal + v.made + v.flushed
    pub struck : (serving now).stopped ≡ None → v.struck ≡ 0
    pub stopped : v.struck ≡ 0 → (serving now).stopped ≡ None
    pub covers : (n : ℕ) → (calls_by n v.front ≡ []) ⊎ IsOf v n
