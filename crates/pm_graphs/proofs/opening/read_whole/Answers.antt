use Rattle.std.proofs.Common.{◌≡◌, ◌≤◌, ℕ, List, Result, sym, ap, subst, ◌∙◌}
use Rattle.std.specs.List.{AllByRecursion}
use Rattle.std.specs.FinSet as set
use Rattle.std.proofs.lemmas.Result.{err_from_is_err_and}
use Rattle.pm_types.specs.declared.limits.TheConstants.{FIELDS, PAGE_BYTES}
use Rattle.pm_types.specs.declared.fault.OpenFault.{OpenFault}
use Rattle.pm_layout.specs.declared.header.Header.{Header}
use Rattle.pm_layout.specs.Headers.{most_fields}
use Rattle.pm_image.specs.declared.catalog.CatalogPage.{CatalogPage}
use Rattle.pm_image.specs.CatalogPages.{catalog_used}
use Rattle.pm_image.specs.declared.settled.KeptPage.{KeptPage}
use Rattle.pm_image.specs.Graphs.{images_of, Catalog, cars_from, entries_of, linked, sites_of}
use Rattle.pm_shadow.specs.State.{State}
use Rattle.pm_graphs.specs.declared.fault.ReadFault.TheVariants.{Malformed}
use Rattle.pm_graphs.specs.Reading.{Fails, store_of, IsEntryThere, IsCar, IsMeasured, AreRead}
use Rattle.pm_graphs.proofs.GraphLaws.{few_fields, catalog_fails, cars_fail, links_fail, graph_found}
use Rattle.pm_graphs.proofs.LookedLaws.{looked_then}
use Rattle.pm_graphs.proofs.Walks.{all_measured}
use Rattle.pm_graphs.proofs.opening.read_whole.Goals as goal

pub read_cars-requires-clause-most : goal.read_cars-requires-clause-most
read_cars-requires-clause-most g c = subst (λ (n : ℕ). n ≤ FIELDS) (sym c.most_fields-most.ensures) (few_fields c.header-header.result.now.version)

pub read_cars-requires-clause-pages : goal.read_cars-requires-clause-pages
read_cars-requires-clause-pages g c =
    let count = ap (λ (s : State). s.count) c.in_ok-chain.ensures.looked.same in
    subst (λ (n : ℕ). AllByRecursion (IsEntryThere n) (entries_of c.as_slice-listed.result.now)) (sym count)
    (subst (λ (ps : Catalog). AllByRecursion (IsEntryThere c.args.pages.now.count) (entries_of ps)) (sym c.as_slice-listed.ensures) c.in_ok-chain.ensures.sound.entries)

pub check_links-requires-clause-catalog : goal.check_links-requires-clause-catalog
check_links-requires-clause-catalog g c = subst (AllByRecursion (λ (page : ℕ × CatalogPage). catalog_used page.1.entries ≤ PAGE_BYTES)) (sym c.as_slice-listed.ensures) c.in_ok-chain.ensures.sound.fits

pub check_links-requires-clause-cars : goal.check_links-requires-clause-cars
check_links-requires-clause-cars g c = subst (AllByRecursion IsMeasured) (sym c.mapped.ensures) (all_measured c.read_chain.new.pages.count c.header-header.result.now.next c.in_ok-cars.cars c.in_ok-cars.ensures.cars)

pub returns-in_err-chain-clause-gives : goal.returns-in_err-chain-clause-gives
returns-in_err-chain-clause-gives g c bytes told =
    let p = err_from_is_err_and c.from_residual-in_err-chain.result c.from_residual-in_err-chain.ensures.1 in
    rw (p.1, p.2) (catalog_fails (store_of c.args.pages.now.count bytes) c.args.pages.now.header c.in_err-chain.field-0.0 (c.in_err-chain.ensures.gives bytes told))

-- the cars that the catalog lists, as they were asked for
asked : (count : ℕ) (bytes : List ℕ) (header : Header) (m n k : ℕ) (listed catalog : Catalog) → m ≡ most_fields header.version → n ≡ header.next → k ≡ count → listed ≡ catalog
    → cars_from m n (store_of k bytes) set.empty (entries_of listed) ≡ cars_from (most_fields header.version) header.next (store_of count bytes) set.empty (entries_of catalog)
asked count bytes header m n k listed catalog a b d e = λ i. cars_from (a i) (b i) (store_of (d i) bytes) set.empty (entries_of (e i))

pub returns-in_err-cars-clause-gives : goal.returns-in_err-cars-clause-gives
returns-in_err-cars-clause-gives g c bytes told =
    let p = err_from_is_err_and c.from_residual-in_err-cars.result c.from_residual-in_err-cars.ensures.1 in
    let fault = c.in_err-cars.field-0.0 in
    let header = c.args.pages.now.header in
    let same = asked c.args.pages.now.count bytes header c.most_fields-most.result c.header-header.result.now.next c.read_chain.new.pages.count c.as_slice-listed.result.now c.in_ok-chain.chain
    (c.most_fields-most.ensures ∙ ap (λ (h : Header). most_fields h.version) c.header-header.ensures) (ap (λ (h : Header). h.next) c.header-header.ensures) (ap (λ (s : State). s.count) c.in_ok-chain.ensures.looked.same) c.as_slice-listed.ensures in
    let given = subst (λ (r : Result (List KeptPage) OpenFault). Fails {X = List KeptPage} fault r) same (c.in_err-cars.ensures.gives bytes (c.in_ok-chain.ensures.looked.looks.told ∙ told)) in
    rw (p.1, p.2) (cars_fail (store_of c.args.pages.now.count bytes) header c.in_ok-chain.chain fault (c.in_ok-chain.ensures.gives bytes told) given)

pub returns-in_err-check_links-clause-gives : goal.returns-in_err-check_links-clause-gives
returns-in_err-check_links-clause-gives g c bytes told =
    let p = err_from_is_err_and c.from_residual-in_err-check_links.result c.from_residual-in_err-check_links.ensures.1 in
    let header = c.args.pages.now.header in
    let place = c.in_err-check_links.field-0.0 in
    let same = asked c.args.pages.now.count bytes header c.most_fields-most.result c.header-header.result.now.next c.read_chain.new.pages.count c.as_slice-listed.result.now c.in_ok-chain.chain
    (c.most_fields-most.ensures ∙ ap (λ (h : Header). most_fields h.version) c.header-header.ensures) (ap (λ (h : Header). h.next) c.header-header.ensures) (ap (λ (s : State). s.count) c.in_ok-chain.ensures.looked.same) c.as_slice-listed.ensures in
    let links = (λ i. linked (images_of (sym c.mapped.ensures i)) (sites_of (sym c.as_slice-listed.ensures i) (sym c.mapped.ensures i))) ∙ sym c.in_err-check_links.ensures in
    rw (p.1, p.2) (links_fail (store_of c.args.pages.now.count bytes) header c.in_ok-chain.chain c.in_ok-cars.cars (Malformed place.page place.at) (c.in_ok-chain.ensures.gives bytes told)
    (sym same ∙ c.in_ok-cars.ensures.gives bytes (c.in_ok-chain.ensures.looked.looks.told ∙ told)) links)

pub returns-clause-gives : goal.returns-clause-gives
returns-clause-gives g c bytes told =
    let header = c.args.pages.now.header in
    let same = asked c.args.pages.now.count bytes header c.most_fields-most.result c.header-header.result.now.next c.read_chain.new.pages.count c.as_slice-listed.result.now c.in_ok-chain.chain
    (c.most_fields-most.ensures ∙ ap (λ (h : Header). most_fields h.version) c.header-header.ensures) (ap (λ (h : Header). h.next) c.header-header.ensures) (ap (λ (s : State). s.count) c.in_ok-chain.ensures.looked.same) c.as_slice-listed.ensures in
    let links = (λ i. linked (images_of (sym c.mapped.ensures i)) (sites_of (sym c.as_slice-listed.ensures i) (sym c.mapped.ensures i))) ∙ sym c.in_ok-check_links.ensures in
    graph_found (store_of c.args.pages.now.count bytes) header c.in_ok-chain.chain c.in_ok-cars.cars (c.in_ok-chain.ensures.gives bytes told) (sym same ∙ c.in_ok-cars.ensures.gives bytes (c.in_ok-chain.ensures.looked.looks.told ∙ told)) links

pub returns-in_err-cars-clause-looked : goal.returns-in_err-cars-clause-looked
returns-in_err-cars-clause-looked g c = looked_then c.args.pages.now c.read_chain.new.pages c.read_cars.new.pages c.in_ok-chain.ensures.looked c.in_err-cars.ensures.looked

pub returns-in_err-check_links-clause-looked : goal.returns-in_err-check_links-clause-looked
returns-in_err-check_links-clause-looked g c = looked_then c.args.pages.now c.read_chain.new.pages c.read_cars.new.pages c.in_ok-chain.ensures.looked c.in_ok-cars.ensures.looked

pub returns-clause-looked : goal.returns-clause-looked
returns-clause-looked g c = looked_then c.args.pages.now c.read_chain.new.pages c.read_cars.new.pages c.in_ok-chain.ensures.looked c.in_ok-cars.ensures.looked

pub returns-clause-whole : goal.returns-clause-whole
returns-clause-whole g c =
    let count = ap (λ (s : State). s.count) c.in_ok-chain.ensures.looked.same in
    record {
      sound = c.in_ok-chain.ensures.sound;
      cars_are = subst (λ (h : Header). AllByRecursion (IsCar c.args.pages.now.count h.next) c.in_ok-cars.cars) c.header-header.ensures
          (subst (λ (n : ℕ). AllByRecursion (IsCar n c.header-header.result.now.next) c.in_ok-cars.cars) count c.in_ok-cars.ensures.cars);
      links = (λ i. linked (images_of (sym c.mapped.ensures i)) (sites_of (sym c.as_slice-listed.ensures i) (sym c.mapped.ensures i))) ∙ sym c.in_ok-check_links.ensures;
      follow = c.in_ok-chain.ensures.follow;
      most = c.most_fields-most.result;
      few = subst (λ (n : ℕ). n ≤ FIELDS) (sym c.most_fields-most.ensures) (few_fields c.header-header.result.now.version);
      reads = subst (λ (h : Header). AreRead c.most_fields-most.result h.next set.empty (entries_of c.in_ok-chain.chain) c.in_ok-cars.cars) c.header-header.ensures
          (subst (λ (ps : Catalog). AreRead c.most_fields-most.result c.header-header.result.now.next set.empty (entries_of ps) c.in_ok-cars.cars) c.as_slice-listed.ensures c.in_ok-cars.ensures.reads);
    }
