use Rattle.std.proofs.Common.{rules, refl}
use Rattle.std.proofs.lemmas.List.Sorted.{answers_always}
use Rattle.pm_dump.specs.declared.parts.Place.{Place}
use Rattle.pm_dump.proofs.Search.{searched}
use Rattle.pm_dump.proofs.dangling.is_listed.Goals as goal

pub returns-in-Ok : goal.returns-in-Ok
returns-in-Ok c =
    let facts = c.binary_search_by_key.ensures in
    let by_key = facts.position (λ (p : Place). p.id) (answers_always _ _ _ (λ f a r g called. search rules)) in
    let it = searched c.args.places.now c.requires c.args.id c.binary_search_by_key.result facts.bound by_key in
    (λ yes_. it.0 c.in-Ok.field-0 c.in-Ok.is, λ among. refl)

pub returns-in-Err : goal.returns-in-Err
returns-in-Err c =
    let facts = c.binary_search_by_key.ensures in
    let by_key = facts.position (λ (p : Place). p.id) (answers_always _ _ _ (λ f a r g called. search rules)) in
    let it = searched c.args.places.now c.requires c.args.id c.binary_search_by_key.result facts.bound by_key in
    (λ is. cc is, λ among. absurd (it.1 c.in-Err.field-0 c.in-Err.is among))
