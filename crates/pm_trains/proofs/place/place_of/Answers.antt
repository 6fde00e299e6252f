use Rattle.std.proofs.Common.{rules, subst}
use Rattle.std.specs.List.Sorted.{IsSearchInRange}
use Rattle.std.proofs.lemmas.List.Sorted.{answers_always}
use Rattle.pm_trains.proofs.Order.{found}
use Rattle.pm_trains.proofs.place.place_of.Goals as goal

-- the closure gives a train's number
pub returns : goal.returns
returns c =
    let facts = c.binary_search_by_key.ensures in
    let by_number = facts.position (λ t. t.number) (answers_always _ _ _ (λ f a r g called. search rules)) in
    let bound = subst (IsSearchInRange c.binary_search_by_key.result) c.args.trains.now.ok.0 facts.bound in
    rw c.ok.ensures.value (found 0 c.args.trains.now.items c.args.number c.binary_search_by_key.result c.requires bound by_number)
