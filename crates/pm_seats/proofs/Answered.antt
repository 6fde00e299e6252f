-- What an event tells of the logbook, for the pass that gives it back.
use Rattle.std.proofs.Common.{◌≡◌, ℕ, ◌+◌, ◌<◌, ◌≤◌, ◌^◌, List, [], ◌∷◌, length, map, zip, Some, Option as Opt, Err, arith, refl, ap, sym, subst, ⊎_elim}
use Rattle.std.proofs.Math.Logic.{∥∥₁_map}
use Rattle.pm_types.specs.Counts.{Rose}
use Rattle.pm_types.specs.declared.command.Cmd.{Cmd}
use Rattle.pm_types.specs.declared.entry.Entry.{Entry}
use Rattle.pm_types.specs.declared.event.Flushed.{Flushed}
use Rattle.pm_types.specs.declared.event.Step.{Step}
use Rattle.pm_types.specs.declared.fault.EngineFault.TheVariants.{Memory, Disk, Reopen}
use Rattle.pm_disk.specs.declared.disk.Disk.{Ghosts}
use Rattle.pm_model.specs.Journal.{IsLegal}
use Rattle.pm_model.specs.World.{World}
use Rattle.pm_saving.specs.Serving.{KeepsOpening, Serving, opening}
use Rattle.pm_engine.specs.declared.engine.Engine.{Engine}
use Rattle.pm_engine.specs.declared.events.stop.Stop.{Stop}
use Rattle.pm_engine.specs.Shown.{serving}
use Rattle.pm_engine.specs.Events.Events.{EngineGoesOn}
use Rattle.pm_engine.proofs.WorksLemmas.Asking.{splits_legal}
use Rattle.pm_passes.specs.declared.view.Numbers.{Numbers}
use Rattle.pm_passes.specs.Numbering.{NotLess}
use Rattle.pm_seats.specs.declared.events.Seen.{Seen}
use Rattle.pm_seats.specs.declared.fault.SeatFault.{SeatFault}
use Rattle.pm_seats.specs.declared.fault.SeatFault.TheVariants.{Engine as Answered, Spent}
use Rattle.pm_seats.specs.declared.limits.TheConstants.{LAST_EVENT}
use Rattle.pm_seats.specs.declared.logbook.Logbook.{Logbook}
use Rattle.pm_seats.specs.Kept.{StopsNow}
use Rattle.pm_seats.specs.Shown.{callers_in, engine_in, first_in, log_in, numbers_in}
use Rattle.pm_seats.specs.Events.{Calls, DoesClient, DoesCollect, DoesFlush, IsSpent, SeesFlushed, SeesReply, SeesStep, Strikes}
use Rattle.pm_seats.specs.Sharing.{entries_of}
use Rattle.pm_seats.proofs.Pairs.{zip_long}

module _ {X Y : Type 0} where
  -- pairs have their second parts
  pub second_parts : (xs : List X) (ys : List Y) → length xs ≡ length ys → map (λ (p : X × Y). p.1) (zip xs ys) ≡ ys
  second_parts [] [] same = refl
  second_parts [] (y ∷ ys) same = absurd (omega (arith, same))
  second_parts (x ∷ xs) [] same = absurd (omega (arith, same))
  second_parts (x ∷ xs) (y ∷ ys) same = ap (λ l. y ∷ l) (second_parts xs ys (omega (arith, same)))

rose_less : (before after : ℕ) → Rose before after → before ≤ after
rose_less before after rose = ⊎_elim (λ (p : before < after). omega (arith, p)) (λ (p : (before ≡ 18446744073709551615) × (after ≡ 18446744073709551615)). let a = p.0 in let b = p.1 in omega (arith, a, b)) rose

less_same : (n m : Numbers) → m ≡ n → NotLess n m
less_same n m is = subst (NotLess n) (sym is) (record { made = omega arith; flushed = omega arith; struck = omega arith; faults = omega arith; events = omega arith })

-- the world that was opened is the same
same_opening : (old new : Serving) → KeepsOpening old new → opening new ≡ opening old
same_opening old new keeps = λ i. opening (record old { number = keeps.number i; opened = keeps.opened i })

-- where the engine answered `Reopen` it is stopped with a count that rose
pub reopen_rose : (stopped : Opt ℕ) (count first now : ℕ) → stopped ≡ Some count → StopsNow stopped first now → Rose first count
reopen_rose stopped count first now is stops =
    let known = subst (λ (s : Opt ℕ). StopsNow s first now) is stops in
    subst (λ (n : ℕ). Rose first n) (sym known.0) known.1

module _ {D : Type 0} {F : Type 0} {g : Ghosts D} where
  -- the log is legal from the world of the first engine
  pub log_legal : (first : Engine D F g) (book : Logbook D F g) (stop : Opt Stop) → first_in book ≡ first → ∥ EngineGoesOn (first_in book) (engine_in book) stop ∥₁ → IsLegal (opening (serving (engine_in book))) (serving (engine_in book)).journal
      → length (callers_in book) ≡ length (serving (engine_in book)).journal → IsLegal (opening (serving first)) (entries_of (log_in book))
  log_legal first book stop tied goes legal each =
      let journal = (serving (engine_in book)).journal in
      let at_first : IsLegal (opening (serving (first_in book))) journal =
      splits_legal (opening (serving (first_in book))) journal
      (∥∥₁_map goes (λ on. subst (λ (w : World). IsLegal w journal) (same_opening (serving (first_in book)) (serving (engine_in book)) on.start.opening) legal)) in
      subst (λ (l : List Entry). IsLegal (opening (serving first)) l) (sym (second_parts (callers_in book) journal each)) (subst (λ (e : Engine D F g). IsLegal (opening (serving e)) journal) tied at_first)

  pub log_few : (book : Logbook D F g) → length (callers_in book) ≡ length (serving (engine_in book)).journal → length (serving (engine_in book)).journal + (serving (engine_in book)).steps ≤ (serving (engine_in book)).events → (serving (engine_in book)).events < 2 ^ 50
      → length (log_in book) < 2 ^ 50
  log_few book each counted few = let long = zip_long (callers_in book) (serving (engine_in book)).journal each in omega (arith, long, counted, few)

  -- where the engine answered `Reopen` it is stopped with that count
  abbrev pub IsStoppedAs : Logbook D F g → SeatFault → Type 0
  IsStoppedAs old (Answered (Memory _)) = Unit {0}
  IsStoppedAs old (Answered (Disk before after)) = Unit {0}
  IsStoppedAs old (Answered (Reopen count)) = (serving (engine_in old)).stopped ≡ Some count
  IsStoppedAs old (Spent events) = Unit {0}

  -- what a fault says of the logbook
  abbrev pub IsFaulted : Logbook D F g → Logbook D F g → SeatFault → Type 0
  IsFaulted old new (Answered fault) = (log_in new ≡ log_in old) × Strikes old new fault
  IsFaulted old new (Spent events) = IsSpent LAST_EVENT old new events

  pub client_faulted : (number client : ℕ) (cmd : Cmd) (old new : Logbook D F g) (fault : SeatFault) → DoesClient LAST_EVENT number client cmd old new (Err fault) → IsFaulted old new fault × IsStoppedAs old fault
  client_faulted number client cmd old new (Answered (Memory m)) does = ((does.log, does.strikes), tt)
  client_faulted number client cmd old new (Answered (Disk before after)) does = ((does.log, does.strikes), tt)
  client_faulted number client cmd old new (Answered (Reopen count)) does = ((does.log, does.strikes), does.call.fails.1)
  client_faulted number client cmd old new (Spent events) does = (does, tt)

  pub collect_faulted : (calls : Calls F) (old new : Logbook D F g) (fault : SeatFault) → DoesCollect calls LAST_EVENT old new (Err fault) → IsFaulted old new fault × IsStoppedAs old fault
  collect_faulted calls old new (Answered (Memory m)) does = ((does.log, does.strikes), tt)
  collect_faulted calls old new (Answered (Disk before after)) does = ((does.log, does.strikes), tt)
  collect_faulted calls old new (Answered (Reopen count)) does = ((does.log, does.strikes), does.call.fails.1)
  collect_faulted calls old new (Spent events) does = (does, tt)

  pub flush_faulted : (old new : Logbook D F g) (fault : SeatFault) → DoesFlush LAST_EVENT old new (Err fault) → IsFaulted old new fault × IsStoppedAs old fault
  flush_faulted old new (Answered (Memory m)) does = ((does.log, does.strikes), tt)
  flush_faulted old new (Answered (Disk before after)) does = ((does.log, does.strikes), tt)
  flush_faulted old new (Answered (Reopen count)) does = ((does.log, does.strikes), does.call.fails.1)
  flush_faulted old new (Spent events) does = (does, tt)

  -- what is counted has risen by an event
  pub reply_less : (number client : ℕ) (cmd : Cmd) (old new : Logbook D F g) (seen : Seen) → SeesReply LAST_EVENT number client cmd old new seen → NotLess (numbers_in old) (numbers_in new)
  reply_less number client cmd old new seen is = subst (NotLess (numbers_in old)) (sym is.numbers) (record { made = omega arith; flushed = omega arith; struck = omega arith; faults = omega arith; events = omega arith })

  pub step_less : (calls : Calls F) (old new : Logbook D F g) (step : Step) → SeesStep calls LAST_EVENT old new step → NotLess (numbers_in old) (numbers_in new)
  step_less calls old new step is = subst (NotLess (numbers_in old)) (sym is.numbers) (record { made = omega arith; flushed = omega arith; struck = omega arith; faults = omega arith; events = omega arith })

  pub flushed_less : (old new : Logbook D F g) (flushed : Flushed) → SeesFlushed LAST_EVENT old new flushed → NotLess (numbers_in old) (numbers_in new)
  flushed_less old new flushed is = subst (NotLess (numbers_in old)) (sym is.numbers) (record { made = omega arith; flushed = omega arith; struck = omega arith; faults = omega arith; events = omega arith })

  pub faulted_log : (old new : Logbook D F g) (fault : SeatFault) → IsFaulted old new fault → log_in new ≡ log_in old
  faulted_log old new (Answered fault) is = is.0
  faulted_log old new (Spent events) is = ap (λ (b : Logbook D F g). log_in b) is.same

  pub faulted_less : (old new : Logbook D F g) (fault : SeatFault) → IsFaulted old new fault → NotLess (numbers_in old) (numbers_in new)
  faulted_less old new (Answered (Memory _)) is = less_same (numbers_in old) (numbers_in new) is.1
  faulted_less old new (Answered (Disk before after)) is =
      let rose : (numbers_in old).faults ≤ after = subst (λ (n : ℕ). n ≤ after) is.1.0 (rose_less before after is.1.1) in
      subst (NotLess (numbers_in old)) (sym is.1.2) (record { made = omega arith; flushed = omega arith; struck = omega arith; faults = rose; events = omega arith })
  faulted_less old new (Answered (Reopen count)) is = less_same (numbers_in old) (numbers_in new) (ap (λ (b : Logbook D F g). numbers_in b) is.1.0)
  faulted_less old new (Spent events) is = less_same (numbers_in old) (numbers_in new) (ap (λ (b : Logbook D F g). numbers_in b) is.same)
