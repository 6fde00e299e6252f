use Rattle.std.proofs.Common.{refl}
use Rattle.pm_engine.specs.Works.Working.{journal_in}
use Rattle.pm_engine.proofs.engine.Engine.reserve_entries.Goals as goal
use Rattle.pm_engine.proofs.WorksLemmas.Asking.{kept_journal}
use Rattle.pm_engine.proofs.WorksLemmas.Whole.{same_journal}
use Rattle.pm_engine.proofs.Bounding.{bounds_kept}
use Rattle.pm_engine.proofs.Standing.{safe, sound_kept}
use Rattle.pm_engine.proofs.Past.{past_kept}
use Rattle.pm_engine.specs.Works.Seen.{seen}

pub invariant_of-self : goal.invariant_of-self
invariant_of-self g c =
    let it = c.args.self.now in
    let old = it.works in
    let new = record old { journal = c.reserve.new.self } in
    let same = same_journal old new refl c.reserve.ensures.items in
    record {
      sound = sound_kept it.opening it.stopped old new it.sound it.stopped (kept_journal it.opening it.stopped old new same refl refl refl refl refl refl refl (safe it.sound)) same refl;
      bounded = bounds_kept it.opening it.stopped it.stopped old new same refl refl it.bounded;
      counted = it.counted;
      past = past_kept (seen it.opening it.stopped old) (journal_in new) same it.past;
    }
