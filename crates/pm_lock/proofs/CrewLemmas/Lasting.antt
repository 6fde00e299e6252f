-- What turns leave of a book, one behind another.
use Rattle.std.proofs.Common.{◌≡◌, ⊎_elim, ℕ, ◌+◌, ◌<◌, arith, List, [], None, refl, ap, sym, subst, ◌∙◌}
use Rattle.std.specs.Borrow.{Bor}
use Rattle.std.specs.Fn.{Shared}
use Rattle.std.specs.Option.{IsSome}
use Rattle.std.proofs.lemmas.Bool.{cases_eq}
use native.Mathlib.Decide.{dec_lt}
use Rattle.pm_types.specs.declared.limits.TheConstants.{CLIENTS}
use Rattle.pm_types.specs.declared.command.Cmd.{Cmd}
use Rattle.pm_disk.specs.declared.disk.Disk.{Ghosts}
use Rattle.pm_script.specs.Parted.Lists.{count_left, list_of}
use Rattle.pm_turns.specs.declared.limits.TheConstants.{WORKERS}
use Rattle.pm_turns.specs.declared.turn.Turn.{Turn}
use Rattle.pm_turns.specs.declared.turn.Turn.TheVariants.{Made, Finished, Stopped}
use Rattle.pm_lock.specs.declared.book.Book.{Book}
use Rattle.pm_lock.specs.declared.workers.TheConstants.{COLLECTOR, FLUSHER}
use Rattle.pm_lock.specs.Shown.{collects_in, fault_in, flushes_in, left_in}
use Rattle.pm_lock.specs.Turns.{DoesTurn, FailsTurn, HasNothing, MakesClient, MakesCollect, MakesFlush, StepsBook}
use Rattle.pm_lock.specs.Crew.Whole.{LastsBook}
use Rattle.pm_lock.proofs.Turning.{none_some}

-- which worker it is
pub by_worker : {P : Type 0} (who : ℕ) → who < WORKERS → (who < CLIENTS → P) → (who ≡ COLLECTOR → P) → (who ≡ FLUSHER → P) → P
by_worker {P = P} who below client collector flusher = by (dec_lt who CLIENTS)
  where
    by : Dec (who < CLIENTS) → P
    by (yes less) = client less
    by (no not) = ⊎_elim collector (λ apart. flusher (omega (arith, below, not, apart))) (cases_eq who COLLECTOR)

module _ {D : Type 0} {F : Type 0} {g : Ghosts D} where
  pub lasts_then : (old mid new : Book D F g) → LastsBook old mid → LastsBook mid new → LastsBook old new
  lasts_then old mid new one two = record {
    first = two.first ∙ one.first;
    lines_are = two.lines_are ∙ one.lines_are;
    chooser = two.chooser ∙ one.chooser;
    fault = λ none. one.fault (two.fault none);
    nothing = λ who nothing. two.nothing who (one.nothing who nothing);
  }

  -- ---- who has nothing left

  still_none : (old new : Book D F g) → left_in new ≡ left_in old → collects_in new ≡ collects_in old → flushes_in new ≡ flushes_in old → (who : ℕ) → HasNothing who old → HasNothing who new
  still_none old new lists collects flushes who nothing = record {
    client = λ below. ap (λ (l : List (List Cmd)). list_of l who) lists ∙ nothing.client below;
    collector = λ is. collects ∙ nothing.collector is;
    flusher = λ is. flushes ∙ nothing.flusher is;
  }

  none_after_client : (old new : Book D F g) (asker : ℕ) → asker < CLIENTS → MakesClient asker old new → (who : ℕ) → HasNothing who old → HasNothing who new
  none_after_client old new asker within made who nothing = record {
    client = λ below.
        ⊎_elim
        (λ (same : who ≡ asker).
        let none : list_of (left_in old) asker ≡ [] = subst (λ (k : ℕ). list_of (left_in old) k ≡ []) same (nothing.client below) in
        let next = made.next in
        absurd (cc (none, next)))
        (λ apart. made.others who apart ∙ nothing.client below)
        (cases_eq who asker);
    collector = λ is. made.collects ∙ nothing.collector is;
    flusher = λ is. made.flushes ∙ nothing.flusher is;
  }

  none_after_collect : (calls : Shared F (Bor (List ℕ) × Unit {0}) ℕ) (old new : Book D F g) → MakesCollect calls old new → (who : ℕ) → HasNothing who old → HasNothing who new
  none_after_collect calls old new made who nothing = record {
    client = λ below. ap (λ (l : List (List Cmd)). list_of l who) made.lists ∙ nothing.client below;
    collector = λ is. let none = nothing.collector is in let fewer = made.fewer in absurd (omega (arith, none, fewer));
    flusher = λ is. made.flushes ∙ nothing.flusher is;
  }

  none_after_flush : (old new : Book D F g) → MakesFlush old new → (who : ℕ) → HasNothing who old → HasNothing who new
  none_after_flush old new made who nothing = record {
    client = λ below. ap (λ (l : List (List Cmd)). list_of l who) made.lists ∙ nothing.client below;
    collector = λ is. made.collects ∙ nothing.collector is;
    flusher = λ is. let none = nothing.flusher is in let fewer = made.fewer in absurd (omega (arith, none, fewer));
  }

  module _ (calls : Shared F (Bor (List ℕ) × Unit {0}) ℕ) (who : ℕ) (below : who < WORKERS) (old new : Book D F g) where
    nothing_after : (turn : Turn) → DoesTurn calls who old new turn → (one : ℕ) → HasNothing one old → HasNothing one new
    nothing_after Made made one nothing =
        by_worker who below (λ client. none_after_client old new who client (made.client client) one nothing) (λ is. none_after_collect calls old new (made.collector is) one nothing) (λ is. none_after_flush old new (made.flusher is) one nothing)
    nothing_after Finished same one nothing = subst (HasNothing one) (sym same) nothing
    nothing_after Stopped does one nothing =
        ⊎_elim (λ (again : IsSome (fault_in old) × (new ≡ old)). subst (HasNothing one) (sym again.1) nothing) (λ (fails : FailsTurn calls who old new). still_none old new fails.lists fails.collects fails.flushes one nothing) does

    fault_before : (turn : Turn) → DoesTurn calls who old new turn → fault_in new ≡ None → fault_in old ≡ None
    fault_before Made made none = made.before
    fault_before Finished same none = ap fault_in (sym same) ∙ none
    fault_before Stopped does none = ⊎_elim (λ (again : IsSome (fault_in old) × (new ≡ old)). ap fault_in (sym again.1) ∙ none) (λ (fails : FailsTurn calls who old new). fails.before) does

    -- a turn
    pub lasts_turn : (turn : Turn) → StepsBook calls who old new turn → LastsBook old new
    lasts_turn turn steps =
        record { first = steps.first; lines_are = steps.lines; chooser = steps.start.chooser; fault = fault_before turn steps.does; nothing = nothing_after turn steps.does }

    -- less is left after each event
    pub less_left : StepsBook calls who old new Made → count_left (left_in new) + collects_in new + flushes_in new < count_left (left_in old) + collects_in old + flushes_in old
    less_left steps =
        by_worker who below
        (λ client. let made = steps.does.client client in let fewer = made.fewer in let collects = made.collects in let flushes = made.flushes in omega (arith, fewer, collects, flushes))
        (λ is. let made = steps.does.collector is in let fewer = made.fewer in let lists = ap count_left made.lists in let flushes = made.flushes in omega (arith, fewer, lists, flushes))
        (λ is. let made = steps.does.flusher is in let fewer = made.fewer in let lists = ap count_left made.lists in let collects = made.collects in omega (arith, fewer, lists, collects))

    -- a worker that has finished has nothing left
    pub none_finished : StepsBook calls who old new Finished → HasNothing who new
    none_finished steps = subst (HasNothing who) (sym steps.does) (steps.finished.0 refl).1

    -- and where the book is stopped a fault is kept
    pub fault_stopped : StepsBook calls who old new Stopped → fault_in new ≡ None → HasNothing who new
    fault_stopped steps none = absurd (none_some (fault_in new) none (steps.stopped.0 refl))
