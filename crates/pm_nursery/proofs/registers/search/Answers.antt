use Rattle.std.proofs.Common.{ℕ, rules}
use Rattle.std.proofs.lemmas.List.Sorted.{answers_always}
use Rattle.pm_types.proofs.Orders.{places_total, places_antisymmetric}
use Rattle.pm_nursery.proofs.Rows.{searched_entries}
use Rattle.pm_nursery.proofs.registers.search.Goals as goal

pub returns-clause-found : goal.returns-clause-found
returns-clause-found c =
    let facts = c.binary_search_by_key.ensures in
    let by_key = facts.position (λ (e : (ℕ × ℕ) × ℕ). e.0) (answers_always _ _ _ (λ f a r g called. search rules)) in
    (searched_entries places_total places_antisymmetric c.args.held.now c.requires c.args.place _ facts.bound by_key).0

pub returns-clause-absent : goal.returns-clause-absent
returns-clause-absent c =
    let facts = c.binary_search_by_key.ensures in
    let by_key = facts.position (λ (e : (ℕ × ℕ) × ℕ). e.0) (answers_always _ _ _ (λ f a r g called. search rules)) in
    (searched_entries places_total places_antisymmetric c.args.held.now c.requires c.args.place _ facts.bound by_key).1
