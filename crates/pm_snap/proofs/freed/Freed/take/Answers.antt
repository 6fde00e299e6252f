use Rattle.std.proofs.Common.{ℕ, ap, ◌∙◌, nat_eq, not, rules}
use Rattle.std.specs.declared.cmp.Reverse.{Reverse}
use Rattle.std.specs.FinSet as set
use Rattle.std.specs.BinaryHeap.{heap_items}
use Rattle.std.proofs.lemmas.Fn.{filter_same}
use Rattle.pm_snap.specs.Freed.{key_set}
use Rattle.pm_snap.proofs.KeySets.{popped, popped_set, kept, kept_set}
use Rattle.pm_snap.proofs.freed.Freed.take.Goals as goal

pub invariant_of-self : goal.invariant_of-self
invariant_of-self c =
    popped c.in-Some.field-0 (heap_items c.self.inside.heap) (heap_items c.pop.new.self) c.self.invariant
    c.in-Some.ensures.permutation (c.in-Some.ensures.heap_order c.self.invariant.heap).0

pub returns-in-Some-clause-keys : goal.returns-in-Some-clause-keys
returns-in-Some-clause-keys c =
    let old = heap_items c.self.inside.heap in
    let top = c.in-Some.field-0 in
    popped_set top old (heap_items c.pop.new.self) c.self.invariant c.in-Some.ensures.permutation
    ∙ ap (λ (r : Reverse ℕ). set.remove (key_set old) r.0) c.in-Some.ensures.top
    ∙ ap (set.remove (key_set old)) (c.starts_with.ensures.first top c.if-starts_with.true)
    ∙ ap (λ f. set.remove f.keys c.args.key) c.self.view_is

pub invariant_of-self-else-starts_with : goal.invariant_of-self-else-starts_with
invariant_of-self-else-starts_with c =
    let left = c.retain.ensures.filtered in
    kept c.args.key (heap_items c.self.inside.heap) left.0 (heap_items c.retain.new.self) c.self.invariant
    (filter_same _ (λ r. not (nat_eq r.0 c.args.key)) _ (λ x b f' k. search rules) _ _ left.1) left.2 c.retain.ensures.heap_order

pub returns-else-starts_with-clause-keys : goal.returns-else-starts_with-clause-keys
returns-else-starts_with-clause-keys c =
    let left = c.retain.ensures.filtered in
    kept_set c.args.key (heap_items c.self.inside.heap) left.0 (heap_items c.retain.new.self)
    (filter_same _ (λ r. not (nat_eq r.0 c.args.key)) _ (λ x b f' k. search rules) _ _ left.1) left.2
    ∙ ap (λ f. set.remove f.keys c.args.key) c.self.view_is
