use Rattle.std.proofs.Common.{None, sym, ap, ◌∙◌}
use Rattle.std.proofs.Math.Logic.{∥∥₁_elim, ∥∥₁_map, ∥∥₁_prop}
use Rattle.pm_saving.specs.Serving.{Serving}
use Rattle.pm_engine.specs.Works.Seen.{seen}
use Rattle.pm_engine.specs.Works.Working.{disk_at}
use Rattle.pm_engine.proofs.engine.Engine.open_store.Goals as goal
use Rattle.pm_engine.proofs.Bounding.{bounds_begun}
use Rattle.pm_engine.proofs.Past.{past_begun}
use Rattle.pm_engine.proofs.WorksLemmas.Counts.{counted_first}

pub invariant_of-result : goal.invariant_of-result
invariant_of-result g c =
    let begun = c.in_ok-opening in
    record {
      sound = ∥∥₁_elim begun.ensures.safe ∥∥₁_prop (λ it. ∥∥₁_map begun.ensures.represents (λ stands. record { safe = it; represents = stands }));
      bounded = bounds_begun begun.opening None begun.works (ap (λ (it : Serving). it.watches) begun.ensures.begins);
      counted = counted_first begun.opening.count (g.D.Disk.count (disk_at begun.works)) (begun.ensures.count.1 ∙ sym begun.ensures.count.0);
      past = past_begun (seen begun.opening None begun.works) (seen begun.opening None begun.works).opened.next begun.ensures.fresh begun.ensures.idle (sym begun.ensures.begins);
    }
