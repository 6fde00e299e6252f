use Rattle.std.proofs.Common.{◌≡◌, sym, subst, ap, ◌∙◌, length, map-id, rules}
use Rattle.std.specs.List.{flat_map}
use Rattle.std.specs.Vec.Iter.{into_iter_items, into_iter_len}
use Rattle.std.specs.BTreeSet.{IsFromIterResult}
use Rattle.std.proofs.lemmas.Iterator.{items_from_drains}
use Rattle.std.proofs.lemmas.Iterator.Adapters.{YieldsList-from_vec}
use Rattle.std.proofs.lemmas.List.{take_all}
use Rattle.pm_types.specs.Orders.{place_cmp}
use Rattle.pm_nursery.proofs.Paired.{pairs_are_held, pairs_of}
use Rattle.pm_nursery.proofs.pairs.held_beside_holder.Goals as goal

pub returns : goal.returns
returns c =
    let ran = c.in_ok-sorted.ensures.ran in
    let items : into_iter_items c.into_iter.result ≡ c.loop-id.pairs.items = search rules in
    let len : into_iter_len c.into_iter.result ≡ length c.loop-id.pairs.items = search rules in
    let taken : ran.0 ≡ c.loop-id.pairs.items = sym (map-id ran.0) ∙ items_from_drains ran.0 ran.1 (YieldsList-from_vec c.loop-id.pairs.items items len) in
    let took : IsFromIterResult place_cmp c.loop-id.pairs.items c.in_ok-sorted.sorted = subst (λ xs. IsFromIterResult place_cmp xs c.in_ok-sorted.sorted) taken ran.2 in
    let all : c.loop-id.pairs.items ≡ flat_map pairs_of c.as_slice-young.result.now = c.loop-id.invariant ∙ ap (flat_map pairs_of) (take_all c.loop-id.id-index c.as_slice-young.result.now (search rules)) in
    pairs_are_held c.args.objects.now c.as_slice-young.result.now c.loop-id.pairs.items c.in_ok-sorted.sorted c.as_slice-young.ensures all took.0
