use Rattle.std.proofs.Common.{◌++◌, List, ℕ, sym, subst, ap, ◌∙◌}
use Rattle.std.specs.declared.ops.Bound.TheVariants.{Included, Unbounded}
use Rattle.std.specs.BTreeSet.{IsKeyRangeOf}
use Rattle.std.specs.Map.Iter.{deref}
use Rattle.std.proofs.lemmas.Map.Iter.{rest_all}
use Rattle.pm_types.specs.Orders.{place_cmp}
use Rattle.pm_model.proofs.Members.{in_none}
use Rattle.pm_nursery.proofs.Beside.{NoneLeft, past_none, pushing_ends, pushing_goes_on}
use Rattle.pm_nursery.proofs.walk.push_holders.Goals as goal

pub returns-then-held-id : goal.returns-then-held-id
returns-then-held-id c =
    let r = c.into_iter-held-iterator.result in
    let between = c.into_iter-held-iterator.ensures.into_iter_gives ∙ c.range-held-items.ensures.between tt in
    let part = subst (IsKeyRangeOf place_cmp (Included (c.args.id, 0)) Unbounded c.args.holders.now) (sym c.into_iter-held-iterator.ensures.into_iter_gives) (c.range-held-items.ensures.in_range tt) in
    let all = c.loop-held.invariant in
    let none = past_none c.args.holders.now c.args.id r between part c.range-held-items.ensures.ordered all.so_far c.next.new.self c.in-Some.field-0.now
    (all.parted ∙ ap (λ (xs : List (ℕ × ℕ)). all.so_far ++ xs) c.in-Some.ensures.steps) c.if-held-id.true in
    pushing_ends c.args.holders.now c.args.id r between part c.range-held-items.ensures.ordered c.args.pending.now.items c.loop-held.pending.items c.loop-held.held-iterator
    (subst (NoneLeft c.args.id) (sym c.in-Some.ensures.steps) none) all

pub loop-held-preserved : goal.loop-held-preserved
loop-held-preserved c =
    pushing_goes_on c.args.id c.args.pending.now.items c.loop-held.pending.items c.push.new.self.items c.into_iter-held-iterator.result c.loop-held.held-iterator c.in-Some.field-0.now c.next.new.self
    c.in-Some.ensures.steps c.if-held-id.false c.in_ok-push.ensures.items c.loop-held.invariant

pub returns : goal.returns
returns c =
    let r = c.into_iter-held-iterator.result in
    let between = c.into_iter-held-iterator.ensures.into_iter_gives ∙ c.range-held-items.ensures.between tt in
    let part = subst (IsKeyRangeOf place_cmp (Included (c.args.id, 0)) Unbounded c.args.holders.now) (sym c.into_iter-held-iterator.ensures.into_iter_gives) (c.range-held-items.ensures.in_range tt) in
    pushing_ends c.args.holders.now c.args.id r between part c.range-held-items.ensures.ordered c.args.pending.now.items c.loop-held.pending.items c.loop-held.held-iterator
    (subst (NoneLeft c.args.id) (sym (rest_all deref _ _ _ c.in-None.is c.next.ensures.steps)) (λ other within. in_none (c.args.id, other) within)) c.loop-held.invariant
