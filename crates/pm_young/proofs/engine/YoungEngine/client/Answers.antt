use Rattle.std.proofs.Common.{◌≡◌, ℕ, true, false, List, [], Option, None, Some, Err, ap, refl, sym, subst, ◌∙◌, arith, append-nil}
use Rattle.pm_types.specs.Memory.{no_memory}
use Rattle.pm_types.specs.declared.fault.EngineFault.TheVariants.{Memory}
use Rattle.pm_save.specs.Writer.Settling.{settling_syncs, settling_writes}
use Rattle.pm_space.specs.Shown.{view}
use Rattle.pm_saving.specs.Serving.{world}
use Rattle.pm_engine.specs.Works.Seen.{IsCrashSafe, seen}
use Rattle.pm_engine.specs.Works.Working.{disk_at, saving_in, state_in, view_in}
use Rattle.pm_engine.proofs.WorksLemmas.Asking.{at_none, stored}
use Rattle.pm_engine.proofs.WorksLemmas.Crashing.{settled_alone}
use Rattle.pm_engine.proofs.WorksLemmas.Kept.{none_made, spares_still}
use Rattle.pm_law_saving.proofs.ServingLemmas.Kept.{stays_same}
use Rattle.pm_nursery.specs.Young.{NurseryView}
use Rattle.pm_young.specs.declared.halt.HaltCause.TheVariants as causes
use Rattle.pm_young.specs.Entering.{KeepsEntered}
use Rattle.pm_young.specs.Halts.{stopped_by}
use Rattle.pm_young.proofs.Reopened.{client_reopens}
use Rattle.pm_young.proofs.Told.{first_nothing, goes_dropped, keeps_dropped}
use Rattle.pm_young.proofs.engine.YoungEngine.client.Goals as goal

pub returns-in-Some-clause-call : goal.returns-in-Some-clause-call
returns-in-Some-clause-call g c = client_reopens c.args.self.now c.in-Some.halt c.in-Some.is (g.met.D.Disk.only_now (disk_at c.args.self.now.works)) c.args.client c.args.cmd.now

-- memory ran out before anything was asked
pub invariant_of-self : goal.invariant_of-self
invariant_of-self g c =
    let it = c.args.self.now in
    record {
      safe = at_none it.opening (stopped_by it.halted) it.works (ap stopped_by c.in-None.is) it.safe;
      within = λ never. absurd (cc never);
      comes_in = subst (λ (n : NurseryView). ∥ KeepsEntered (view it.opening.space.value.parts) (view_in it.works) n it.entered.items ∥₁) (sym c.drop_all.ensures)
          (keeps_dropped (view it.opening.space.value.parts) (view_in it.works) (view_in it.works) it.nursery it.entered.items refl it.comes_in);
      counted = it.counted;
      whole = it.whole;
    }

pub returns-in-Err-clause-call : goal.returns-in-Err-clause-call
returns-in-Err-clause-call g c =
    let it = c.args.self.now in
    let stopped = stopped_by it.halted in
    record {
      serves = tt;
      enters = tt;
      fails = record {
        halts = record { running = c.in-None.is; halts = ap (λ (count : ℕ). Some (record { cause = causes.Memory; count = count })) c.faults.ensures; count = refl };
        nothing = record {
          opening = record { number = refl; opened = refl };
          frozen = refl;
          settled = refl;
          progress = stays_same (saving_in it.works).progress (saving_in it.works).progress refl;
          journal = refl;
          course = refl;
          watches = refl;
          events = refl;
          steps = refl;
        };
        ids = [];
        first = ∣ first_nothing (world (seen it.opening stopped it.works)) it.nursery c.args.client c.args.cmd.now ∣₁;
        entered = sym (append-nil it.entered.items);
        here = λ id never. absurd (cc never);
        young = c.drop_all.ensures;
      };
      running = tt;
      runs = tt;
      still = λ _. record { disk = refl; none = tt };
      leaves = λ none. settled_alone it.opening stopped it.works none it.safe it.works c.args.cmd.now (Err (Memory no_memory)) (spares_still it.works it.works (g.met.D.Disk.only_now (disk_at it.works)) refl (stored it.opening stopped it.works none it.safe).tied.sound);
      settled = tt;
      dropped = tt;
      made = none_made (settling_writes (saving_in it.works) (state_in it.works)) (settling_syncs (state_in it.works)) (g.D.Disk.made (disk_at it.works));
      short = λ settles. absurd (true_false (sym settles ∙ c.in-Err.ensures.short));
      shown = tt;
      copies = λ _. tt;
      idle = λ _. refl;
      past = refl;
      room = omega arith;
      goes = goes_dropped it _ refl refl refl c.drop_all.ensures;
    }
  where
    true_false : true ≡ false → ⊥
    true_false is = cc is
