use Rattle.std.proofs.Common.{refl}
use Rattle.pm_engine.proofs.WorksLemmas.Asking.{kept_journal}
use Rattle.pm_engine.proofs.WorksLemmas.Whole.{same_journal}
use Rattle.pm_young.specs.Halts.{stopped_by}
use Rattle.pm_young.proofs.Opened.{within_kept}
use Rattle.pm_young.proofs.engine.YoungEngine.reserve_entries.Goals as goal

pub invariant_of-self : goal.invariant_of-self
invariant_of-self g c =
    let it = c.args.self.now in
    let later = record it.works { journal = c.reserve.new.self } in
    record {
      safe = kept_journal it.opening (stopped_by it.halted) it.works later (same_journal it.works later refl c.reserve.ensures.items) refl refl refl refl refl refl refl it.safe;
      within = λ running. within_kept it.opening it.works it.nursery c.reserve.new.self c.reserve.ensures.items (it.within running);
      comes_in = it.comes_in;
      counted = it.counted;
      whole = it.whole;
    }
