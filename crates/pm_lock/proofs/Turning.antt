-- What turns say.
use Rattle.std.proofs.Math.Logic.{∥∥₁_prop}
use Rattle.std.proofs.Common.{◌≡◌, ℕ, ◌<◌, arith, true, false, List, Option, None, refl, ap, sym, ◌∙◌}
use Rattle.std.specs.Borrow.{Bor}
use Rattle.std.specs.Fn.{Shared}
use Rattle.std.specs.Option.{IsSome, is_some}
use Rattle.pm_types.specs.declared.limits.TheConstants.{CLIENTS}
use Rattle.pm_types.specs.declared.fault.EngineFault.{EngineFault}
use Rattle.pm_disk.specs.declared.disk.Disk.{Ghosts}
use Rattle.pm_turns.specs.declared.turn.Turn.TheVariants.{Finished}
use Rattle.pm_engine.proofs.EventsLemmas.Going.{same_start}
use Rattle.pm_lock.specs.declared.book.Book.{Book}
use Rattle.pm_lock.specs.declared.workers.TheConstants.{COLLECTOR, FLUSHER}
use Rattle.pm_script.specs.Parted.Left.{lists_in}
use Rattle.pm_lock.specs.Kept.{KeepsBook}
use Rattle.pm_lock.specs.Shown.{engine_in, fault_in}
use Rattle.pm_lock.specs.Turns.{HasNothing, StepsBook}

-- clients, collector and flusher have different numbers
pub not_collector : (who : ℕ) → who < CLIENTS → who ≡ COLLECTOR → ⊥
not_collector who below is = omega (arith, below, is)

pub not_flusher : (who : ℕ) → who < CLIENTS → who ≡ FLUSHER → ⊥
not_flusher who below is = omega (arith, below, is)

pub none_some : (fault : Option EngineFault) → fault ≡ None → IsSome fault → ⊥
none_some fault none some = let never : false ≡ true = sym (ap is_some none) ∙ some in cc never

module _ {D : Type 0} {F : Type 0} {g : Ghosts D} (old : Book D F g) (kept : ∥ KeepsBook old.script.value old.first.value old.engine (lists_in old.parts) old.collects old.flushes old.fault ∥₁) where
  -- a book is told by its fields: what its type keeps adds nothing
  pub same_book : record old { kept = kept } ≡ old
  same_book = λ i. record old { kept = ∥∥₁_prop kept old.kept i }

  module _ (calls : Shared F (Bor (List ℕ) × Unit {0}) ℕ) (who : ℕ) where
    -- nothing was left to be done
    pub steps_finished : fault_in old ≡ None → HasNothing who old → StepsBook calls who old (record old { kept = kept }) Finished
    steps_finished none nothing = record {
      first = refl;
      lines = refl;
      start = same_start (engine_in old);
      does = same_book;
      finished = (λ _. (none, nothing), λ _. refl);
      stopped = (λ is. absurd (cc is), λ some. absurd (none_some (fault_in old) none some));
    }
