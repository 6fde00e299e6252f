-- What an event of a logbook does.
use Rattle.std.specs.Prelude.{◌≡◌, ℕ, suc, ◌<◌, List, [], ◌∷◌, ◌++◌, length, Option, Some, None, Result, Ok, Err}
use Rattle.std.specs.Borrow.{Bor}
use Rattle.std.specs.Fn.{Shared}
use Rattle.pm_types.specs.Counts.{Rose}
use Rattle.pm_types.specs.declared.command.Cmd.{Cmd}
use Rattle.pm_types.specs.declared.event.Flushed.{Flushed}
use Rattle.pm_types.specs.declared.event.Step.{Step}
use Rattle.pm_types.specs.declared.fault.EngineFault.{EngineFault}
use Rattle.pm_types.specs.declared.fault.EngineFault.TheVariants.{Memory, Disk, Reopen}
use Rattle.pm_disk.specs.declared.disk.Disk.{Ghosts}
use Rattle.pm_engine.specs.Shown.{KeepsStart}
use Rattle.pm_engine.specs.Calls.{AnswersClient, AnswersCollect, AnswersFlush}
use Rattle.pm_passes.specs.Numbering.{last_number}
use Rattle.pm_seats.specs.declared.events.Seen.{Seen}
use Rattle.pm_seats.specs.declared.fault.SeatFault.{SeatFault}
use Rattle.pm_seats.specs.declared.fault.SeatFault.TheVariants.{Engine, Spent}
use Rattle.pm_seats.specs.declared.logbook.Logbook.{Logbook}
use Rattle.pm_seats.specs.Shown.{callers_in, engine_in, first_in, log_in, next_in, numbers_in}

-- what is known of the calls of a chooser
abbrev pub Calls : Type 0 → Type 1
Calls F = Shared F (Bor (List ℕ) × Unit {0}) ℕ

module _ {D : Type 0} {F : Type 0} {g : Ghosts D} where
  -- the logbook but for the number of the next pass stays
  pub record KeepsBook (old new : Logbook D F g) : Type 0 where
    pub engine : engine_in new ≡ engine_in old
    pub first : first_in new ≡ first_in old
    pub callers : callers_in new ≡ callers_in old

  -- the number was drawn; or none is left, and nothing changed
  abbrev pub DrawsNumber : Logbook D F g → Logbook D F g → Option ℕ → Type 0
  DrawsNumber old new (Some number) = KeepsBook old new × (number ≡ next_in old) × (next_in new ≡ suc number)
  DrawsNumber old new None = (new ≡ old) × (next_in old ≡ last_number)

  -- What a fault of the engine does to what is counted. Memory: nothing. Disk: one call more was answered with a fault
  -- of the disk, whose count rose as told. Reopen: the logbook is the same value, and the count is the disk's.
  abbrev pub Strikes : Logbook D F g → Logbook D F g → EngineFault → Type 0
  Strikes old new (Memory _) = numbers_in new ≡ numbers_in old
  Strikes old new (Disk before after) =
      (before ≡ (numbers_in old).faults) × Rose before after
      × (numbers_in new ≡ record (numbers_in old) { struck = suc (numbers_in old).struck; faults = after })
  Strikes old new (Reopen count) = (new ≡ old) × (count ≡ (numbers_in old).faults)

  -- The engine answered this fault, of which its own record tells. The log stays.
  pub record FailsEvent (Call : EngineFault → Type 0) (last : ℕ) (old new : Logbook D F g) (fault : EngineFault)
      : Type 0 where
    pub within : (numbers_in old).events < last
    pub call : Call fault
    pub log : log_in new ≡ log_in old
    pub strikes : Strikes old new fault

  -- As many events were made as may be. The engine was not asked.
  pub record IsSpent (last : ℕ) (old new : Logbook D F g) (events : ℕ) : Type 0 where
    pub told : events ≡ last
    pub reached : (numbers_in old).events ≡ last
    pub same : new ≡ old

  -- A command was answered, of which the engine's own record tells: the log has one entry more of this caller, at this
  -- place. One event more was made.
  pub record SeesReply (last number client : ℕ) (cmd : Cmd) (old new : Logbook D F g) (seen : Seen) : Type 0 where
    pub within : (numbers_in old).events < last
    pub call : AnswersClient client cmd (engine_in old) (engine_in new) (Ok seen.reply)
    pub log : log_in new ≡ log_in old ++ (number, record { client = client; cmd = cmd; reply = seen.reply }) ∷ []
    pub place : seen.place ≡ length (log_in old)
    pub numbers : numbers_in new ≡ record (numbers_in old) { events = suc (numbers_in old).events }

  -- An event of the collector was made, of which the engine's own record tells. The log stays.
  pub record SeesStep (calls : Calls F) (last : ℕ) (old new : Logbook D F g) (step : Step) : Type 0 where
    pub within : (numbers_in old).events < last
    pub call : AnswersCollect calls (engine_in old) (engine_in new) (Ok step)
    pub log : log_in new ≡ log_in old
    pub numbers : numbers_in new
        ≡ record (numbers_in old) { made = suc (numbers_in old).made; events = suc (numbers_in old).events }

  -- A flush event was made, of which the engine's own record tells. The log stays.
  pub record SeesFlushed (last : ℕ) (old new : Logbook D F g) (flushed : Flushed) : Type 0 where
    pub within : (numbers_in old).events < last
    pub call : AnswersFlush (engine_in old) (engine_in new) (Ok flushed)
    pub log : log_in new ≡ log_in old
    pub numbers : numbers_in new
        ≡ record (numbers_in old) { flushed = suc (numbers_in old).flushed; events = suc (numbers_in old).events }

  -- what stays in each event: what the engine was opened with, its chooser, the first engine and the next number
  pub record StaysTied (old new : Logbook D F g) : Type 0 where
    pub start : KeepsStart (engine_in old) (engine_in new)
    pub first : first_in new ≡ first_in old
    pub next : next_in new ≡ next_in old

  abbrev pub DoesClient : ℕ → ℕ → ℕ → Cmd → Logbook D F g → Logbook D F g → Result Seen SeatFault → Type 0
  DoesClient last number client cmd old new (Ok seen) = SeesReply last number client cmd old new seen
  DoesClient last number client cmd old new (Err (Engine fault)) =
      FailsEvent (λ f. AnswersClient client cmd (engine_in old) (engine_in new) (Err f)) last old new fault
  DoesClient last number client cmd old new (Err (Spent events)) = IsSpent last old new events

  abbrev pub DoesCollect : Calls F → ℕ → Logbook D F g → Logbook D F g → Result Step SeatFault → Type 0
  DoesCollect calls last old new (Ok step) = SeesStep calls last old new step
  DoesCollect calls last old new (Err (Engine fault)) =
      FailsEvent (λ f. AnswersCollect calls (engine_in old) (engine_in new) (Err f)) last old new fault
  DoesCollect calls last old new (Err (Spent events)) = IsSpent last old new events

  abbrev pub DoesFlush : ℕ → Logbook D F g → Logbook D F g → Result Flushed SeatFault → Type 0
  DoesFlush last old new (Ok flushed) = SeesFlushed last old new flushed
  DoesFlush last old new (Err (Engine fault)) =
      FailsEvent (λ f. AnswersFlush (engine_in old) (engine_in new) (Err f)) last old new fault
  DoesFlush last old new (Err (Spent events)) = IsSpent last old new events

  -- What `client` does, asked by the caller of this number, where so many events may be made.
  pub record CallsClient (last number client : ℕ) (cmd : Cmd) (old new : Logbook D F g) (result : Result Seen SeatFault)
      : Type 0 where
    pub tied : StaysTied old new
    pub does : DoesClient last number client cmd old new result

  -- What `collect` does. The calls are those of the chooser.
  pub record CallsCollect (calls : Calls F) (last : ℕ) (old new : Logbook D F g) (result : Result Step SeatFault)
      : Type 0 where
    pub tied : StaysTied old new
    pub does : DoesCollect calls last old new result

  -- What `flush` does.
  pub record CallsFlush (last : ℕ) (old new : Logbook D F g) (result : Result Flushed SeatFault) : Type 0 where
    pub tied : StaysTied old new
    pub does : DoesFlush last old new result
