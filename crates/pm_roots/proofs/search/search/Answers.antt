use Rattle.std.proofs.Common.{◌≡◌, ◌∙◌, refl, ap}
use Rattle.pm_types.specs.Orders.{name_cmp}
use Rattle.pm_roots.proofs.Calls.{answers_each}
use Rattle.pm_roots.proofs.Places.{searched}
use Rattle.pm_roots.proofs.search.search.Goals as goal

-- the closure compares with the name that it captured
pub returns : goal.returns
returns c =
    let facts = c.binary_search_by.ensures in
    let by_name = facts.position (λ e. name_cmp e.0 c.args.name.now)
    (answers_each _ _ (λ f. f.0.now ≡ c.args.name.now) (λ f a r f' keeps called. (called.met.1 ∙ ap (name_cmp a.0.now.0) keeps, ap (λ b. b.now) called.met.0 ∙ keeps)) _ refl) in
    searched c.args.names.now c.requires c.args.name.now c.binary_search_by.result facts.bound by_name
