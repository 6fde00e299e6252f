use Rattle.std.proofs.Common.{◌<◌, ap, sym, subst, ◌∙◌, arith}
use Rattle.std.specs.FinSet as set
use Rattle.std.specs.BinaryHeap.{heap_items}
use Rattle.pm_snap.proofs.KeySets.{pushed, pushed_set}
use Rattle.pm_snap.proofs.freed.Freed.put.Goals as goal

pub unreachable-requires : goal.unreachable-requires
unreachable-requires c =
    let room = subst (λ f. 0 < f.room) (sym c.self.view_is) c.requires.room in
    let ok = c.in_default.ensures.succeeds (omega arith) in
    grind (arith, ok)

pub invariant_of-self : goal.invariant_of-self
invariant_of-self c =
    pushed c.args.key (heap_items c.self.inside.heap) (heap_items c.push.new.self) c.self.invariant
    (ap (λ f. set.contains f.keys c.args.key) c.self.view_is ∙ c.requires.new) c.in-Ok.ensures.permutation (c.in-Ok.ensures.heap_order c.self.invariant.heap)

pub returns-clause-keys : goal.returns-clause-keys
returns-clause-keys c =
    pushed_set c.args.key (heap_items c.self.inside.heap) (heap_items c.push.new.self) c.in-Ok.ensures.permutation
    ∙ ap (λ f. set.insert f.keys c.args.key) c.self.view_is
