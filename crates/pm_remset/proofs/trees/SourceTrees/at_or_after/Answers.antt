use Rattle.std.proofs.Common.{◌≡◌, true, false, ap, ◌∙◌, rules}
use Rattle.std.specs.declared.ops.Bound.TheVariants.{Included, Unbounded}
use Rattle.std.specs.Ordering.{is_le, ordering_reverse}
use Rattle.std.specs.BTreeMap.Range.{entries_between}
use Rattle.std.specs.Map.Iter.{deref_pair}
use Rattle.std.proofs.lemmas.Map.Iter.{rest_all}
use Rattle.pm_types.specs.contracts.source.RefSourceOrd.TheImpl.{ghosts}
use Rattle.pm_types.specs.Orders.{source_cmp}
use Rattle.pm_types.proofs.Orders.{sources_total}
use Rattle.pm_remset.specs.Grouped.{group_name}
use Rattle.pm_remset.proofs.Searches.{left_from, left_goes_on, left_finds, left_ends}
use Rattle.pm_remset.proofs.trees.SourceTrees.at_or_after.Goals as goal

pub loop-name-init : goal.loop-name-init
loop-name-init c =
    let between : c.into_iter-name-iterator.result ≡ entries_between ghosts.cmp (Included (group_name c.args.from)) Unbounded c.self.inside.groups.entries
    = c.into_iter-name-iterator.ensures.into_iter_gives ∙ c.range-name-items.ensures.between tt ∙ ap (λ g. entries_between ghosts.cmp (Included g) Unbounded c.self.inside.groups.entries) c.group_of.ensures in
    left_from c.args.self.now (λ source _. is_le (source_cmp c.args.from source) ≡ false) c.self.inside.groups c.self.inside.index c.self.inside.count c.self.invariant c.self.view_is c.args.from
    (λ q n less. ap is_le (sources_total.antisymm c.args.from q ∙ ap ordering_reverse less)) _ between

pub returns-in-Some-at_or_after : goal.returns-in-Some-at_or_after
returns-in-Some-at_or_after c =
    left_finds c.args.self.now (λ source _. is_le (source_cmp c.args.from source) ≡ false) _ _ c.next.new.self c.in-Some.ensures.steps c.loop-name.invariant
    (λ source _. is_le (source_cmp c.args.from source) ≡ true) _ _ c.in-Some-at_or_after.ensures

pub loop-name-preserved : goal.loop-name-preserved
loop-name-preserved c =
    left_goes_on c.args.self.now (λ source _. is_le (source_cmp c.args.from source) ≡ false) _ _ c.next.new.self c.in-Some.ensures.steps c.loop-name.invariant (search rules)

pub returns : goal.returns
returns c = left_ends c.args.self.now (λ source _. is_le (source_cmp c.args.from source) ≡ false) _ (rest_all deref_pair _ _ _ c.in-None.is c.next.ensures.steps) c.loop-name.invariant
