use Rattle.std.proofs.Common.{◌≡◌, sym, ap, subst, ◌∙◌, Some, None, rules}
use Rattle.std.specs.declared.ops.Bound.TheVariants.{Included, Unbounded}
use Rattle.std.specs.FinMap.{get}
use Rattle.std.specs.BTreeMap.{is_at}
use Rattle.std.specs.BTreeMap as tree
use Rattle.std.specs.BTreeSet.{IsKeyRangeOf}
use Rattle.std.specs.Map.Iter.{deref}
use Rattle.std.proofs.lemmas.Map.Iter.{rest_all}
use Rattle.pm_types.specs.declared.source.RefSource.{RefSource}
use Rattle.pm_types.specs.declared.source.RefSource.TheVariants.{Root}
use Rattle.pm_types.specs.contracts.source.RefSourceOrd.TheImpl.{ghosts}
use Rattle.pm_remset.specs.Grouped.{group_name}
use Rattle.pm_remset.specs.Indexed.{pair_cmp}
use Rattle.pm_remset.specs.Remembered.{AppendsSources}
use Rattle.pm_remset.proofs.Collects.{collects_begins, collects_on, collects_past, collects_ends, collects_stops, nothing_in, part_sorted, part_from, in_part}
use Rattle.pm_remset.proofs.Groups.{answered}
use Rattle.pm_remset.proofs.Least.{at, has_group}
use Rattle.pm_remset.proofs.trees.SourceTrees.of_slot.Goals as goal

pub loop-found-init : goal.loop-found-init
loop-found-init c =
    let r = c.into_iter-found-iterator.result in
    let between = c.into_iter-found-iterator.ensures.into_iter_gives ∙ c.range-found-items.ensures.between tt in
    let part = subst (IsKeyRangeOf pair_cmp (Included (c.args.slot, Root 0)) Unbounded c.self.inside.index) (sym c.into_iter-found-iterator.ensures.into_iter_gives) (c.range-found-items.ensures.in_range tt) in
    let ordered = c.range-found-items.ensures.ordered in
    collects_begins c.args.self.now c.args.slot c.args.out.now.items r (part_sorted c.self.inside.index c.args.slot r between part ordered) (part_from c.self.inside.index c.args.slot r between part ordered)
    (λ source is. in_part c.self.inside.index c.args.slot r between part ordered (group_name source) (has_group c.self.inside.groups c.self.inside.index c.self.inside.count c.self.invariant c.args.self.now c.self.view_is c.args.slot source is))

pub returns-then-found-slot-clause-ok : goal.returns-then-found-slot-clause-ok
returns-then-found-slot-clause-ok c =
    collects_stops c.args.self.now c.args.slot c.args.out.now.items c.loop-found.out.items c.loop-found.found-iterator c.in-Some.field-0.now c.next.new.self c.in-Some.ensures.steps c.if-found-slot.true c.loop-found.invariant

pub returns-clause-ok : goal.returns-clause-ok
returns-clause-ok c =
    let none = rest_all deref _ _ _ c.in-None.is c.next.ensures.steps in
    collects_ends c.args.self.now c.args.slot c.args.out.now.items c.loop-found.out.items c.loop-found.found-iterator (λ source look. nothing_in (is_at (pair_cmp (c.args.slot, group_name source))) _ none look) c.loop-found.invariant

pub loop-found-preserved-in_default-of_slot : goal.loop-found-preserved-in_default-of_slot
loop-found-preserved-in_default-of_slot c =
    let m = c.self.inside.groups in
    let p = c.in-Some.field-0.now in
    let l = c.in-Some-get.list.now in
    let is : tree.get ghosts.cmp m p.1 ≡ Some l = sym (search rules) in
    let got : (q : RefSource) → group_name q ≡ p.1 → get c.args.self.now q ≡ get l q
    = λ q it. at m c.self.inside.index c.self.inside.count c.self.invariant c.args.self.now c.self.view_is q ∙ ap (λ h. answered (tree.get ghosts.cmp m h) q) it ∙ ap (λ found. answered found q) is in
    let more : AppendsSources l c.args.slot c.loop-found.out.items c.of_slot.new.out.items = search rules in
    collects_on c.args.self.now c.args.slot c.args.out.now.items c.loop-found.out.items c.loop-found.found-iterator p c.next.new.self c.in-Some.ensures.steps c.if-found-slot.false c.loop-found.invariant
    l got (c.self.invariant.in_group p.1 l is) c.of_slot.new.out.items more

pub loop-found-preserved : goal.loop-found-preserved
loop-found-preserved c =
    let m = c.self.inside.groups in
    let p = c.in-Some.field-0.now in
    let none : tree.get ghosts.cmp m p.1 ≡ None = sym (search rules) in
    collects_past c.args.self.now c.args.slot c.args.out.now.items c.loop-found.out.items c.loop-found.found-iterator p c.next.new.self c.in-Some.ensures.steps c.if-found-slot.false c.loop-found.invariant
    (λ q it. at m c.self.inside.index c.self.inside.count c.self.invariant c.args.self.now c.self.view_is q ∙ ap (λ h. answered (tree.get ghosts.cmp m h) q) it ∙ ap (λ found. answered found q) none)
