use Rattle.std.proofs.Common.{sym, subst, ◌∙◌}
use Rattle.std.specs.BinaryHeap.{heap_items}
use Rattle.pm_snap.specs.Freed.{IsLeastOf}
use Rattle.pm_snap.proofs.KeySets.{least_of, contains_set, first_key}
use Rattle.pm_snap.proofs.freed.Freed.least.Goals as goal

pub returns-in-Some-clause-some : goal.returns-in-Some-clause-some
returns-in-Some-clause-some c =
    let items = heap_items c.self.inside.heap in
    let top = c.in-Some.top.now in
    subst (λ f. IsLeastOf f.keys top.0) c.self.view_is (record {
      among = contains_set items top.0 ∙ first_key top items c.in-Some.ensures.item.3.0 c.in-Some.ensures.lookup;
      least = λ q there. least_of top items (c.in-Some.ensures.greatest c.self.invariant.heap) q (sym (contains_set items q) ∙ there);
    })
