use Rattle.std.proofs.Common.{◌≡◌, ℕ, List, sym, subst, ◌∙◌}
use Rattle.std.specs.List.{flat_map, AllByRecursion}
use Rattle.std.proofs.lemmas.Result.{err_from_is_err_and}
use Rattle.pm_types.specs.declared.limits.TheConstants.{CAR_HEAD_BYTES}
use Rattle.pm_image.specs.declared.catalog_kind.TheConstants.{ENTRIES}
use Rattle.pm_image.specs.declared.catalog.CatalogPage.{CatalogPage}
use Rattle.pm_image.specs.declared.settled.KeptPage.{KeptPage}
use Rattle.pm_image.specs.Graphs.{Catalog, images_of, linked, record_sites, root_sites, sites_of}
use Rattle.pm_graphs.specs.Linking.{Leads, lead_cars, linked_by}
use Rattle.pm_graphs.specs.Reading.{IsMeasured}
use Rattle.pm_graphs.proofs.LinkingLaws.{all_ascending, linked_same}
use Rattle.pm_graphs.proofs.Walks.{both_linked, front_fails, led_place}
use Rattle.pm_graphs.proofs.links.check_links.Goals as goal

-- by a map and cars that are lent addresses lead where the definition says
followed : (leads : Leads) (lent cars : List KeptPage) (catalog : Catalog) → leads ≡ lead_cars cars → lent ≡ cars → AllByRecursion IsMeasured cars → linked_by leads (sites_of catalog lent) ≡ linked (images_of cars) (sites_of catalog cars)
followed leads lent cars catalog are same measured = (λ i. linked_by (are i) (sites_of catalog (same i))) ∙ linked_same cars (sites_of catalog cars) (all_ascending cars measured)

pub check_cars-requires : goal.check_cars-requires
check_cars-requires c = subst (AllByRecursion IsMeasured) (sym c.as_slice.ensures) c.requires.cars

pub returns-in_err-check_cars : goal.returns-in_err-check_cars
returns-in_err-check_cars c =
    let leads = c.leads-leads.result.now in
    let lent = c.as_slice.result.now in
    let catalog = c.args.catalog.now in
    let p = err_from_is_err_and c.from_residual.result c.from_residual.ensures.1 in
    rw (p.1, p.2) (sym (sym (followed leads lent c.args.cars.now catalog c.leads-leads.ensures c.as_slice.ensures c.requires.cars)
    ∙ front_fails leads (flat_map (λ (kept : KeptPage). record_sites kept.page CAR_HEAD_BYTES kept.image.slots) lent) (flat_map (λ (page : ℕ × CatalogPage). root_sites page.0 ENTRIES page.1.entries) catalog) (led_place c.in_err-check_cars.field-0.0) (sym c.in_err-check_cars.ensures)))

pub returns : goal.returns
returns c =
    let leads = c.leads-leads.result.now in
    let lent = c.as_slice.result.now in
    let catalog = c.args.catalog.now in
    c.check_catalog.ensures
    ∙ sym (both_linked leads (flat_map (λ (kept : KeptPage). record_sites kept.page CAR_HEAD_BYTES kept.image.slots) lent) (flat_map (λ (page : ℕ × CatalogPage). root_sites page.0 ENTRIES page.1.entries) catalog) (sym c.in_ok-check_cars.ensures))
    ∙ followed leads lent c.args.cars.now catalog c.leads-leads.ensures c.as_slice.ensures c.requires.cars
