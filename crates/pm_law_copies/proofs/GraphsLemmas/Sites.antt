-- Each address of a graph stands at its place, and that of a fault too.
use Rattle.std.proofs.Common.{◌≡◌, inl, inr, ℕ, ◌+◌, true, List, [], ◌∷◌, map, Result, Ok, Err, refl, sym, ap, subst, ◌∙◌, arith, slice_range}
use Rattle.std.specs.Prelude.{Contains}
use Rattle.std.specs.List.{AllByRecursion, flat_map}
use Rattle.std.specs.FinSet as set
use Rattle.std.proofs.lemmas.List.Elements.{Contains-append_left, Contains-append_right}
use Rattle.pm_types.specs.declared.limits.TheConstants.{CAR_HEAD_BYTES}
use Rattle.pm_types.specs.declared.fault.OpenFault.{OpenFault}
use Rattle.pm_layout.specs.declared.header.Header.{Header}
use Rattle.pm_layout.specs.Headers.{most_fields}
use Rattle.pm_types.specs.Results.{◌>>=◌}
use Rattle.pm_image.specs.declared.catalog_kind.TheConstants.{ENTRIES}
use Rattle.pm_image.specs.declared.catalog.CatalogPage.{CatalogPage}
use Rattle.pm_image.specs.declared.settled.KeptPage.{KeptPage}
use Rattle.pm_image.specs.CatalogPages.{IsCatalogInRange}
use Rattle.pm_image.specs.Opening.{is_placed}
use Rattle.pm_image.specs.Graphs.{Catalog, Graph, Pages, Site, cars_from, entries_of, graph_of, images_of, linked, record_sites, root_sites, sites_of, used_pages}
use Rattle.pm_copies.specs.Places.{AreRead, IsOfFirstAstray, StandsAtPlace}
use Rattle.pm_copies.specs.Spelled.{AreWhole, IsCarSpelled, IsCatalogSpelled}
use Rattle.pm_law_copies.proofs.GraphsLemmas.Lists.{all_back, all_both, all_follow}
use Rattle.pm_law_copies.proofs.GraphsLemmas.Places.{IsAt, car_places, catalog_places}
use Rattle.pm_law_copies.proofs.GraphsLemmas.Faults.{first_astray}
use Rattle.pm_law_copies.proofs.GraphsLemmas.Cars.{are_spelled, cars_found}
use Rattle.pm_law_copies.proofs.GraphsLemmas.Order.{IsPlaced}
use Rattle.pm_law_copies.proofs.GraphsLemmas.Whole.{numbers_of}
use Rattle.pm_law_copies.proofs.GraphsLemmas.Found.{pages_below, catalog_whole, same_pages}
use Rattle.pm_types.proofs.Results.{either_fails}

module _ (pages : Pages) (graph : Graph) (all : AreWhole pages) where
  -- an address that stands in the bytes of a page that is used
  at_place : (page : ℕ) (site : Site) → Contains (used_pages graph) page → IsAt (pages.page page) page site → StandsAtPlace pages graph site
  at_place page site used is = record {
    used = subst (Contains (used_pages graph)) (sym is.of_page) used;
    spelled = ap (λ (number : ℕ). slice_range (pages.page number) site.at (site.at + 12)) is.of_page ∙ is.spelled;
  }

  car_sites_stand : (most : ℕ) (cars : List KeptPage) → ((page : ℕ) → Contains (map (λ (kept : KeptPage). kept.page) cars) page → Contains (used_pages graph) page)
      → AllByRecursion (IsPlaced pages.count) (map (λ (kept : KeptPage). kept.page) cars) → AllByRecursion (IsCarSpelled pages most) cars
      → AllByRecursion (StandsAtPlace pages graph) (flat_map (λ (kept : KeptPage). record_sites kept.page CAR_HEAD_BYTES kept.image.slots) cars)
  car_sites_stand most [] used placed spelled = tt
  car_sites_stand most (kept ∷ cars) used placed spelled =
      let here = used kept.page (Contains-append_left (kept.page ∷ []) (map (λ (kept : KeptPage). kept.page) cars) kept.page (0, omega arith, refl)) in
      let sites = car_places (pages.page kept.page) kept.page kept.image (all kept.page placed.0.1).0 spelled.0.spelled in
      all_both (StandsAtPlace pages graph) (record_sites kept.page CAR_HEAD_BYTES kept.image.slots) (flat_map (λ (kept : KeptPage). record_sites kept.page CAR_HEAD_BYTES kept.image.slots) cars)
      (all_follow (IsAt (pages.page kept.page) kept.page) (StandsAtPlace pages graph) (record_sites kept.page CAR_HEAD_BYTES kept.image.slots) (λ site is. at_place kept.page site here is) sites)
      (car_sites_stand most cars (λ page in_. used page (Contains-append_right (kept.page ∷ []) (map (λ (kept : KeptPage). kept.page) cars) page in_)) placed.1 spelled.1)

  catalog_sites_stand : (catalog : Catalog) → ((page : ℕ) → Contains (numbers_of catalog) page → Contains (used_pages graph) page)
      → AllByRecursion (IsPlaced pages.count) (numbers_of catalog) → AllByRecursion (IsCatalogSpelled pages) catalog → AllByRecursion (λ (page : ℕ × CatalogPage). IsCatalogInRange page.1) catalog
      → AllByRecursion (StandsAtPlace pages graph) (flat_map (λ (page : ℕ × CatalogPage). root_sites page.0 ENTRIES page.1.entries) catalog)
  catalog_sites_stand [] used placed spelled range = tt
  catalog_sites_stand (first ∷ catalog) used placed spelled range =
      let here = used first.0 (Contains-append_left (first.0 ∷ []) (numbers_of catalog) first.0 (0, omega arith, refl)) in
      let sites = catalog_places (pages.page first.0) first.0 first.1 (all first.0 placed.0.1).0 range.0 spelled.0.spelled in
      all_both (StandsAtPlace pages graph) (root_sites first.0 ENTRIES first.1.entries) (flat_map (λ (page : ℕ × CatalogPage). root_sites page.0 ENTRIES page.1.entries) catalog)
      (all_follow (IsAt (pages.page first.0) first.0) (StandsAtPlace pages graph) (root_sites first.0 ENTRIES first.1.entries) (λ site is. at_place first.0 site here is) sites)
      (catalog_sites_stand catalog (λ page in_. used page (Contains-append_right (first.0 ∷ []) (numbers_of catalog) page in_)) placed.1 spelled.1 range.1)

-- each address of what was read stands at its place
pub all_stand : (pages : Pages) (header : Header) (graph : Graph) → AreWhole pages → is_placed pages.count header ≡ true → AreRead pages header graph → AllByRecursion (StandsAtPlace pages graph) (sites_of graph.catalog graph.cars)
all_stand pages header graph all placed read =
    let most = most_fields header.version in
    let catalog = graph.catalog in
    let cars = graph.cars in
    let car_numbers : List ℕ = map (λ (kept : KeptPage). kept.page) cars in
    let there = catalog_whole pages header catalog all placed read.catalog in
    let found = cars_found most header.next pages set.empty (entries_of catalog) cars all (pages_below pages.count _ there.cars_placed) read.cars in
    let cars_placed = subst (AllByRecursion (IsPlaced pages.count)) (same_pages _ cars found.0) there.cars_placed in
    all_both (StandsAtPlace pages graph) (flat_map (λ (kept : KeptPage). record_sites kept.page CAR_HEAD_BYTES kept.image.slots) cars) (flat_map (λ (page : ℕ × CatalogPage). root_sites page.0 ENTRIES page.1.entries) catalog)
    (car_sites_stand pages graph all most cars (Contains-append_right (numbers_of catalog) car_numbers) cars_placed (are_spelled most header.next pages set.empty cars found.1))
    (catalog_sites_stand pages graph all catalog (Contains-append_left (numbers_of catalog) car_numbers) there.placed there.spelled there.range)

-- so does that of a fault
pub astray_stands : (pages : Pages) (header : Header) (graph : Graph) (fault : OpenFault) → AreWhole pages → is_placed pages.count header ≡ true → AreRead pages header graph
    → linked (images_of graph.cars) (sites_of graph.catalog graph.cars) ≡ Err fault → IsOfFirstAstray pages graph fault
astray_stands pages header graph fault all placed read is =
    let first = first_astray (images_of graph.cars) (sites_of graph.catalog graph.cars) fault is in
    let those = subst (AllByRecursion (StandsAtPlace pages graph)) first.parts (all_stand pages header graph all placed read) in
    record {
      before = first.before;
      astray = first.astray;
      after = first.after;
      parts = first.parts;
      lead = first.lead;
      leads_not = first.leads_not;
      told = first.told;
      stands = (all_back (StandsAtPlace pages graph) first.before (first.astray ∷ first.after) those).0;
    }

-- where the pages were read, and no graph is found, the fault is of an address
pub graph_astray : (pages : Pages) (header : Header) (graph : Graph) (fault : OpenFault) → AreWhole pages → is_placed pages.count header ≡ true → AreRead pages header graph
    → graph_of pages header ≡ Err fault → IsOfFirstAstray pages graph fault
unfolding graph_of
graph_astray pages header graph fault all placed read is =
    let most = most_fields header.version in
    let one = sym (ap (λ (r : Result Catalog OpenFault). r >>= λ catalog. cars_from most header.next pages set.empty (entries_of catalog) >>= λ cars. linked (images_of cars) (sites_of catalog cars) >>= λ is_linked. Ok (record { catalog = catalog; cars = cars })) read.catalog) ∙ is in
    let two = sym (ap (λ (r : Result (List KeptPage) OpenFault). r >>= λ cars. linked (images_of cars) (sites_of graph.catalog cars) >>= λ is_linked. Ok (record { catalog = graph.catalog; cars = cars })) read.cars) ∙ one in
    elim (either_fails (linked (images_of graph.cars) (sites_of graph.catalog graph.cars)) (λ is_linked. Ok (record { catalog = graph.catalog; cars = graph.cars })) fault two) [
      | inl links ↦ astray_stands pages header graph fault all placed read links
      | inr three ↦ absurd (never fault three.2)
    ]
  where
    never : (fault : OpenFault) → ◌≡◌ {A = Result Graph OpenFault} (Ok graph) (Err fault) → ⊥
    never fault is = cc
