-- What a turn does to a book.
use Rattle.std.specs.Prelude.{◌≡◌, ◌≢◌, ◌⊎◌, ◌↔◌, ℕ, ◌+◌, ◌<◌, List, [], ◌∷◌, Some, None, IsSome, Ok, Err}
use Rattle.std.specs.Borrow.{Bor}
use Rattle.std.specs.Fn.{Shared}
use Rattle.pm_types.specs.declared.limits.TheConstants.{CLIENTS}
use Rattle.pm_types.specs.declared.command.Cmd.{Cmd}
use Rattle.pm_types.specs.declared.event.Flushed.{Flushed}
use Rattle.pm_types.specs.declared.event.Step.{Step}
use Rattle.pm_types.specs.declared.fault.EngineFault.{EngineFault}
use Rattle.pm_types.specs.declared.reply.Reply.{Reply}
use Rattle.pm_disk.specs.declared.disk.Disk.{Ghosts}
use Rattle.pm_script.specs.Parted.Lists.{count_left, list_of}
use Rattle.pm_turns.specs.declared.turn.Turn.{Turn}
use Rattle.pm_turns.specs.declared.turn.Turn.TheVariants.{Made, Finished, Stopped}
use Rattle.pm_engine.specs.Shown.{KeepsStart}
use Rattle.pm_engine.specs.Calls.{AnswersClient, AnswersCollect, AnswersFlush}
use Rattle.pm_lock.specs.declared.book.Book.{Book}
use Rattle.pm_lock.specs.declared.workers.TheConstants.{COLLECTOR, FLUSHER}
use Rattle.pm_lock.specs.Shown.{collects_in, engine_in, fault_in, first_in, flushes_in, left_in, lines_in}

module _ {D : Type 0} {F : Type 0} {g : Ghosts D} where
  -- this worker has nothing left: no command of a client, no event of the collector, no flush event
  pub record HasNothing (who : ℕ) (book : Book D F g) : Type 0 where
    pub client : who < CLIENTS → list_of (left_in book) who ≡ []
    pub collector : who ≡ COLLECTOR → collects_in book ≡ 0
    pub flusher : who ≡ FLUSHER → flushes_in book ≡ 0

  -- The first command of this client's list was answered, and is in it no more. All else that is left stays.
  pub record MakesClient (who : ℕ) (old new : Book D F g) : Type 0 where
    pub cmd : Cmd
    pub reply : Reply
    pub call : AnswersClient who cmd (engine_in old) (engine_in new) (Ok reply)
    pub next : list_of (left_in old) who ≡ cmd ∷ list_of (left_in new) who
    pub others : (other : ℕ) → other ≢ who → list_of (left_in new) other ≡ list_of (left_in old) other
    pub fewer : count_left (left_in new) + 1 ≡ count_left (left_in old)
    pub collects : collects_in new ≡ collects_in old
    pub flushes : flushes_in new ≡ flushes_in old

  -- An event of the collector was made, with the chooser's calls, and one fewer is left. All else that is left stays.
  pub record MakesCollect (calls : Shared F (Bor (List ℕ) × Unit {0}) ℕ) (old new : Book D F g) : Type 0 where
    pub step : Step
    pub call : AnswersCollect calls (engine_in old) (engine_in new) (Ok step)
    pub fewer : collects_in new + 1 ≡ collects_in old
    pub lists : left_in new ≡ left_in old
    pub flushes : flushes_in new ≡ flushes_in old

  -- A flush event was made, and one fewer is left. All else that is left stays.
  pub record MakesFlush (old new : Book D F g) : Type 0 where
    pub flushed : Flushed
    pub call : AnswersFlush (engine_in old) (engine_in new) (Ok flushed)
    pub fewer : flushes_in new + 1 ≡ flushes_in old
    pub lists : left_in new ≡ left_in old
    pub collects : collects_in new ≡ collects_in old

  -- An event of this worker was made, and no fault is kept.
  pub record MakesTurn (calls : Shared F (Bor (List ℕ) × Unit {0}) ℕ) (who : ℕ) (old new : Book D F g) : Type 0 where
    pub before : fault_in old ≡ None
    pub after : fault_in new ≡ None
    pub client : who < CLIENTS → MakesClient who old new
    pub collector : who ≡ COLLECTOR → MakesCollect calls old new
    pub flusher : who ≡ FLUSHER → MakesFlush old new

  -- the first command of this client's list was asked, and the engine answered this fault
  pub record FailsClient (who : ℕ) (old new : Book D F g) (fault : EngineFault) : Type 0 where
    pub cmd : Cmd
    pub rest : List Cmd
    pub next : list_of (left_in old) who ≡ cmd ∷ rest
    pub call : AnswersClient who cmd (engine_in old) (engine_in new) (Err fault)

  -- The engine was asked for an event of this worker, which had one left, and answered the fault that is kept from now
  -- on. All that was left is.
  pub record FailsTurn (calls : Shared F (Bor (List ℕ) × Unit {0}) ℕ) (who : ℕ) (old new : Book D F g) : Type 0 where
    pub fault : EngineFault
    pub before : fault_in old ≡ None
    pub after : fault_in new ≡ Some fault
    pub lists : left_in new ≡ left_in old
    pub collects : collects_in new ≡ collects_in old
    pub flushes : flushes_in new ≡ flushes_in old
    pub client : who < CLIENTS → FailsClient who old new fault
    pub collector : who ≡ COLLECTOR → (0 < collects_in old) × AnswersCollect calls (engine_in old) (engine_in new) (Err fault)
    pub flusher : who ≡ FLUSHER → (0 < flushes_in old) × AnswersFlush (engine_in old) (engine_in new) (Err fault)

  -- what the turn did, by what it says
  abbrev pub DoesTurn : Shared F (Bor (List ℕ) × Unit {0}) ℕ → ℕ → Book D F g → Book D F g → Turn → Type 0
  DoesTurn calls who old new Made = MakesTurn calls who old new
  DoesTurn calls who old new Finished = new ≡ old
  DoesTurn calls who old new Stopped = (IsSome (fault_in old) × (new ≡ old)) ⊎ FailsTurn calls who old new

  -- A turn of a worker.
  pub record StepsBook (calls : Shared F (Bor (List ℕ) × Unit {0}) ℕ) (who : ℕ) (old new : Book D F g) (turn : Turn) : Type 0 where
    -- what the book was made of stays
    pub first : first_in new ≡ first_in old
    pub lines : lines_in new ≡ lines_in old
    -- and so do the opening and the chooser of its engine
    pub start : KeepsStart (engine_in old) (engine_in new)
    -- one event of the worker was made; or nothing; or the engine answered a fault
    pub does : DoesTurn calls who old new turn
    -- it has finished exactly where no fault is kept and the worker has nothing left
    pub finished : (turn ≡ Finished) ↔ ((fault_in old ≡ None) × HasNothing who old)
    -- it is stopped exactly where a fault is kept
    pub stopped : (turn ≡ Stopped) ↔ IsSome (fault_in new)
