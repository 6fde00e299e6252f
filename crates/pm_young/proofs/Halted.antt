-- What is told of a call where an earlier one had halted the engine, and what halts it.
use Rattle.std.proofs.Common.{◌≡◌, inl, inr, ℕ, List, Option, Some, None, Result, Ok, Err, refl, ap, subst, ◌∙◌, arith}
use Rattle.std.specs.Borrow.{Bor}
use Rattle.std.specs.Fn.{Shared}
use Rattle.pm_types.specs.Counts.{Rose, ShowsRise}
use Rattle.pm_types.specs.declared.command.Cmd.{Cmd}
use Rattle.pm_types.specs.declared.event.Flushed.{Flushed}
use Rattle.pm_types.specs.declared.event.Step.{Step}
use Rattle.pm_types.specs.declared.fault.EngineFault.{EngineFault}
use Rattle.pm_types.specs.declared.fault.EngineFault.TheVariants.{Memory, Disk, Reopen}
use Rattle.pm_types.specs.declared.reply.Reply.{Reply}
use Rattle.pm_disk.specs.declared.disk.Disk.{Ghosts}
use Rattle.pm_engine.proofs.WorksLemmas.Asking.{leaves_settled, stored}
use Rattle.pm_engine.proofs.WorksLemmas.Kept.{none_made, spares_still}
use Rattle.pm_young.specs.declared.engine.YoungEngine.{YoungEngine}
use Rattle.pm_young.specs.declared.halt.Halt.{Halt}
use Rattle.pm_young.specs.declared.halt.HaltCause.{HaltCause}
use Rattle.pm_young.specs.AnyCall.{IsCalled, IsOkOrMemory, fault_of}
use Rattle.pm_young.specs.Calls.{AnswersYoungCollect, AnswersYoungFlush, HaltsForDisk, HaltsForMemory, Sweeps, WasHalted, YoungGoesOn}
use Rattle.pm_young.specs.Clients.{AnswersYoungClient}
use Rattle.pm_young.specs.Halts.{IsForMemory, count_of, stopped_by}
use Rattle.pm_young.specs.Seen.{disk_in, halt_in}
use Rattle.pm_young.proofs.GoesOn.{goes_nowhere}

module _ {D : Type 0} {F : Type 0} {g : Ghosts D} (it : YoungEngine D F g) (halt : Halt) (is : it.halted ≡ Some halt) where
  was_halted : WasHalted it it halt.count
  was_halted = record { halt = halt; was = is; count_is = refl; whole = refl }

  pub collect_reopens : (calls : Shared F (Bor (List ℕ) × Unit {0}) ℕ) → AnswersYoungCollect calls it it (Err (Reopen halt.count))
  collect_reopens calls = record {
    event = tt;
    collects = tt;
    fails = was_halted;
    running = tt;
    runs = tt;
    still = record { disk = refl; none = tt };
    pages = refl;
    memory = tt;
    short = tt;
    room = omega arith;
    young = record { young = refl; entered = refl };
    goes = goes_nowhere it;
  }

  -- after want of memory the last acknowledged copy stands still
  pub flush_reopens : ((bytes : List ℕ) → g.since (disk_in it) (g.moment (disk_in it)) bytes → g.image (disk_in it) bytes) → AnswersYoungFlush it it (Err (Reopen halt.count))
  flush_reopens only_now = record {
    flushes = tt;
    flushed = tt;
    view = refl;
    fails = was_halted;
    running = tt;
    runs = tt;
    leaves = λ none. let stopped = stopped_by it.halted in
        leaves_settled it.opening stopped it.works none it.safe it.works (spares_still it.works it.works only_now refl (stored it.opening stopped it.works none it.safe).tied.sound);
    memory = tt;
    fault = tt;
    idle = λ _. refl;
    made = none_made 1 0 (g.made (disk_in it));
    past = refl;
    room = omega arith;
    young = record { young = refl; entered = refl };
    goes = goes_nowhere it;
  }

-- ---- what a halt says

pub memory_none : (halt : Option Halt) → IsForMemory halt → stopped_by halt ≡ None
memory_none None is = absurd is
memory_none (Some halt) is = ap (λ (cause : HaltCause). count_of cause halt.count) is

-- ---- any call

no_both : {A : Type 0} (o : Option A) (one : A) → o ≡ None → o ≡ Some one → ⊥
no_both o one none is = cc (none, is)

same_one : {A : Type 0} (o : Option A) (one other : A) → o ≡ Some one → o ≡ Some other → one ≡ other
same_one o one other is also = cc (is, also)

module _ {D : Type 0} {F : Type 0} {g : Ghosts D} (calls : Shared F (Bor (List ℕ) × Unit {0}) ℕ) (old new : YoungEngine D F g) where
  -- what each answer says of halts
  abbrev pub Told : Option EngineFault → Type 0
  Told None = halt_in old ≡ None
  Told (Some (Memory refused)) = HaltsForMemory old new
  Told (Some (Disk before after)) = HaltsForDisk old new before after
  Told (Some (Reopen count)) = WasHalted old new count

  sweep_tells : (result : Result (Unit {0}) EngineFault) → Sweeps old new result → Told (fault_of result)
  sweep_tells (Ok done) is = is.ok.running
  sweep_tells (Err (Memory refused)) is = record { running = is.fails.running; halts = is.fails.halts; count = ap g.count is.still }
  sweep_tells (Err (Disk before after)) is = absurd is.fails
  sweep_tells (Err (Reopen count)) is = is.fails

  collect_tells : (result : Result Step EngineFault) → AnswersYoungCollect calls old new result → Told (fault_of result)
  collect_tells (Ok step) is = is.running.running
  collect_tells (Err (Memory refused)) is = is.fails
  collect_tells (Err (Disk before after)) is = is.fails
  collect_tells (Err (Reopen count)) is = is.fails

  flush_tells : (result : Result Flushed EngineFault) → AnswersYoungFlush old new result → Told (fault_of result)
  flush_tells (Ok flushed) is = is.running.running
  flush_tells (Err (Memory refused)) is = is.fails
  flush_tells (Err (Disk before after)) is = is.fails
  flush_tells (Err (Reopen count)) is = is.fails

  client_tells : (client : ℕ) (cmd : Cmd) (result : Result Reply EngineFault) → AnswersYoungClient client cmd old new result → Told (fault_of result)
  client_tells client cmd (Ok reply) is = is.running.running
  client_tells client cmd (Err (Memory refused)) is = is.fails.halts
  client_tells client cmd (Err (Disk before after)) is = is.fails.halts
  client_tells client cmd (Err (Reopen count)) is = is.fails

  pub tells : (fault : Option EngineFault) → IsCalled calls old new fault → Told fault
  tells fault (inl swept) = subst Told swept.2 (sweep_tells swept.0 swept.1)
  tells fault (inr (inl made)) = subst Told made.2 (collect_tells made.0 made.1)
  tells fault (inr (inr (inl flushed))) = subst Told flushed.2 (flush_tells flushed.0 flushed.1)
  tells fault (inr (inr (inr asked))) = subst Told asked.4 (client_tells asked.0 asked.1 asked.2 asked.3)

  halted_reopens : (halt : Halt) (fault : Option EngineFault) → halt_in old ≡ Some halt → Told fault → (fault ≡ Some (Reopen halt.count)) × (new ≡ old)
  halted_reopens halt None is told = absurd (no_both (halt_in old) halt told is)
  halted_reopens halt (Some (Memory refused)) is told = absurd (no_both (halt_in old) halt told.running is)
  halted_reopens halt (Some (Disk before after)) is told = absurd (no_both (halt_in old) halt told.running is)
  halted_reopens halt (Some (Reopen count)) is told = (
    ap (λ (n : ℕ). Some (Reopen n)) (told.count_is ∙ ap (λ (h : Halt). h.count) (same_one (halt_in old) told.halt halt told.was is)),
    told.whole,
  )

  pub after_halt : (halt : Halt) (fault : Option EngineFault) → halt_in old ≡ Some halt → IsCalled calls old new fault → (fault ≡ Some (Reopen halt.count)) × (new ≡ old)
  after_halt halt fault is called = halted_reopens halt fault is (tells fault called)

  rose_of : (before after : ℕ) → ShowsRise before after (g.count (disk_in old)) (g.count (disk_in new)) → Rose (g.count (disk_in old)) (g.count (disk_in new))
  rose_of before after shows = subst (λ (n : ℕ). Rose n (g.count (disk_in new))) shows.0 (subst (λ (n : ℕ). Rose before n) shows.1 shows.2)

  running_answers : (fault : Option EngineFault) → halt_in old ≡ None → (Rose (g.count (disk_in old)) (g.count (disk_in new)) → ⊥) → Told fault → IsOkOrMemory fault
  running_answers None none still told = tt
  running_answers (Some (Memory refused)) none still told = tt
  running_answers (Some (Disk before after)) none still told = still (rose_of before after told.rose)
  running_answers (Some (Reopen count)) none still told = absurd (no_both (halt_in old) told.halt none told.was)

  pub while_running : (fault : Option EngineFault) → halt_in old ≡ None → (Rose (g.count (disk_in old)) (g.count (disk_in new)) → ⊥) → IsCalled calls old new fault → IsOkOrMemory fault
  while_running fault none still called = running_answers fault none still (tells fault called)

  pub called_goes : (fault : Option EngineFault) → IsCalled calls old new fault → YoungGoesOn old new
  called_goes fault (inl swept) = swept.1.goes
  called_goes fault (inr (inl made)) = made.1.goes
  called_goes fault (inr (inr (inl flushed))) = flushed.1.goes
  called_goes fault (inr (inr (inr asked))) = asked.3.goes
