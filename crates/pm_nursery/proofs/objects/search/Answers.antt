use Rattle.std.proofs.Common.{◌≡◌, ◌-◌, ◌<◌, ℕ, length, Some, rules}
use Rattle.std.specs.List.{slice_get}
use Rattle.std.specs.Cmp.{nat_cmp_total}
use Rattle.std.specs.FinMap.{nat_cmp-IsAntisymmetric}
use Rattle.std.proofs.lemmas.List.Sorted.{answers_always}
use Rattle.pm_model.specs.Heap.{Object}
use Rattle.pm_nursery.proofs.Rows.{behind_entries, below_is_less, searched_entries}
use Rattle.pm_nursery.proofs.objects.search.Goals as goal

pub returns-clause-found : goal.returns-clause-found
returns-clause-found c =
    let facts = c.binary_search_by_key.ensures in
    let by_key = facts.position (λ (e : ℕ × Object). e.0) (answers_always _ _ _ (λ f a r g called. search rules)) in
    (searched_entries nat_cmp_total nat_cmp-IsAntisymmetric c.args.young.now c.requires c.args.id _ facts.bound by_key).0

pub returns-clause-absent : goal.returns-clause-absent
returns-clause-absent c =
    let facts = c.binary_search_by_key.ensures in
    let by_key = facts.position (λ (e : ℕ × Object). e.0) (answers_always _ _ _ (λ f a r g called. search rules)) in
    (searched_entries nat_cmp_total nat_cmp-IsAntisymmetric c.args.young.now c.requires c.args.id _ facts.bound by_key).1

pub returns-then-last-id-clause-absent : goal.returns-then-last-id-clause-absent
returns-then-last-id-clause-absent c =
    let last : slice_get c.args.young.now (length c.args.young.now - 1) ≡ Some c.in-Some.last.now = search rules in
    let below : c.in-Some.last.now.0 < c.args.id = search rules in
    behind_entries nat_cmp_total nat_cmp-IsAntisymmetric c.args.young.now c.requires c.args.id c.in-Some.last.now last (below_is_less c.in-Some.last.now.0 c.args.id below)
