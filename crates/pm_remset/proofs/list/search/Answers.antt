use Rattle.std.proofs.Common.{◌≡◌, ◌-◌, length, true, Some, sym, ◌∙◌, rules}
use Rattle.std.specs.Ordering.{is_lt}
use Rattle.std.specs.List.{slice_get}
use Rattle.pm_types.specs.contracts.source.RefSourceOrd.TheImpl.{ghosts}
use Rattle.pm_types.proofs.Orders.{source_cmp_is}
use Rattle.std.proofs.lemmas.List.Sorted.{answers_always}
use Rattle.pm_remset.specs.Listed.{Entry}
use Rattle.pm_remset.proofs.Lists.{searched, gap_behind, lesser}
use Rattle.pm_remset.proofs.list.search.Goals as goal

pub returns-clause-found : goal.returns-clause-found
returns-clause-found c =
    let facts = c.binary_search_by_key.ensures in
    let by_key = facts.position (λ (e : Entry). e.0) (answers_always _ _ _ (λ f a r g called. search rules)) in
    (searched c.args.entries.now c.requires c.args.source _ facts.bound by_key).0

pub returns-clause-absent : goal.returns-clause-absent
returns-clause-absent c =
    let facts = c.binary_search_by_key.ensures in
    let by_key = facts.position (λ (e : Entry). e.0) (answers_always _ _ _ (λ f a r g called. search rules)) in
    (searched c.args.entries.now c.requires c.args.source _ facts.bound by_key).1

pub returns-then-lt-clause-absent : goal.returns-then-lt-clause-absent
returns-then-lt-clause-absent c =
    let last : slice_get c.args.entries.now (length c.args.entries.now - 1) ≡ Some c.in-Some.last.now = search rules in
    let lt : is_lt (ghosts.cmp c.in-Some.last.now.0 c.args.source) ≡ true = search rules in
    gap_behind c.args.entries.now c.requires c.args.source c.in-Some.last.now last (sym (source_cmp_is c.in-Some.last.now.0 c.args.source) ∙ lesser _ lt)
