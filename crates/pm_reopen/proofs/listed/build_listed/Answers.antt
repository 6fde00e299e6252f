use Rattle.std.proofs.Common.{[], ℕ, List, None, sym, ap, subst, ◌∙◌}
use Rattle.std.specs.List.{AllByRecursion}
use Rattle.pm_types.specs.declared.address.Addr.{Addr}
use Rattle.pm_image.specs.declared.settled.KeptPage.{KeptPage}
use Rattle.pm_image.specs.Graphs.{images_of}
use Rattle.pm_copies.specs.Accepted.{IsAcceptedCar}
use Rattle.pm_copies.specs.Opened.{listed_in}
use Rattle.pm_copies.specs.Built.{Placed, MayBuild, IsBuiltOf, opening_cars}
use Rattle.pm_space.specs.Shown.{view}
use Rattle.pm_reopen.specs.Listing.{listed_on}
use Rattle.pm_reopen.specs.Rebuild.Lists.{NamesDiffer}
use Rattle.pm_reopen.proofs.ListLaws.{cars_listed, roots_listed}
use Rattle.pm_reopen.proofs.NameLaws.{ascend_differ}
use Rattle.pm_reopen.proofs.listed.build_listed.Goals as goal

pub open_cars-requires : goal.open_cars-requires
open_cars-requires g c = record {
  cars = subst (λ (kept : List KeptPage). AllByRecursion IsAcceptedCar (images_of kept)) (sym c.into_parts-cars.ensures.cars) (subst (AllByRecursion IsAcceptedCar) c.requires.paired c.requires.accepted.cars);
}

pub build-requires-clause-may : goal.build-requires-clause-may
build-requires-clause-may g c =
    let es = c.args.entries.now in
    let kept = c.args.cars in
    let leads = c.into_parts-cars.result.1 in
    let listed = listed_in es (images_of kept) in
    let cars = c.in_ok-opened.ensures ∙ ap (λ (ks : List KeptPage). listed_on leads [] None (listed_in es (images_of ks))) c.into_parts-cars.ensures.cars ∙ cars_listed kept es c.requires.paired c.requires.accepted.cars leads c.into_parts-cars.ensures.leads in
    let roots = c.in_ok-roots.ensures ∙ roots_listed kept es c.requires.paired c.requires.accepted.cars leads c.into_parts-cars.ensures.leads in
    subst (λ (placed : List Placed). MayBuild placed c.in_ok-roots.roots c.args.next) (sym cars)
    (subst (λ (named : List (List ℕ × Addr)). MayBuild (opening_cars listed) named c.args.next) (sym roots)
    (c.opening_builds_a_space.ensures.may listed es c.args.next c.requires.accepted))

pub build-requires-clause-names : goal.build-requires-clause-names
build-requires-clause-names g c = subst NamesDiffer (sym c.in_ok-roots.ensures) (ascend_differ c.into_parts-cars.result.1 None c.args.entries.now c.requires.accepted.names)

pub returns-clause-view : goal.returns-clause-view
returns-clause-view g c =
    let es = c.args.entries.now in
    let kept = c.args.cars in
    let leads = c.into_parts-cars.result.1 in
    let listed = listed_in es (images_of kept) in
    let cars = c.in_ok-opened.ensures ∙ ap (λ (ks : List KeptPage). listed_on leads [] None (listed_in es (images_of ks))) c.into_parts-cars.ensures.cars ∙ cars_listed kept es c.requires.paired c.requires.accepted.cars leads c.into_parts-cars.ensures.leads in
    let roots = c.in_ok-roots.ensures ∙ roots_listed kept es c.requires.paired c.requires.accepted.cars leads c.into_parts-cars.ensures.leads in
    c.opening_builds_a_space.ensures.opened listed es c.args.next _ c.requires.accepted
    (subst (λ (named : List (List ℕ × Addr)). IsBuiltOf (opening_cars listed) named c.args.next (view c.in_ok-space.space.parts)) roots
    (subst (λ (placed : List Placed). IsBuiltOf placed c.in_ok-roots.roots c.args.next (view c.in_ok-space.space.parts)) cars c.in_ok-space.ensures.view))
