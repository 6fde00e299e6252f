-- A graph is found exactly where its pages spell it.
use Rattle.std.proofs.Common.{◌≡◌, inl, inr, ℕ, ◌*◌, ◌<◌, ◌≤◌, ◌^◌, Bool, true, false, ◌==◌, nat_lt, nat_le, List, [], ◌∷◌, ◌++◌, map, drop, Ok, refl, sym, ap, subst, ◌∙◌, arith, length-take, length-drop, if◌then◌else◌}
use Rattle.std.specs.List.{AllByRecursion}
use Rattle.std.specs.Ordering.{nat_cmp}
use Rattle.std.specs.FinSet as set
use Rattle.std.proofs.lemmas.Bool.{ltb-true, leb-true}
use Rattle.pm_types.specs.declared.limits.TheConstants.{FIELDS, OLD_FIELDS, OLD_VERSION, PAGE_BYTES}
use Rattle.pm_types.specs.declared.fault.OpenFault.TheVariants.{NotAStore}
use Rattle.pm_layout.specs.declared.header.Header.{Header}
use Rattle.pm_layout.specs.Headers.{most_fields}
use Rattle.pm_layout.proofs.Numbers.{IsBytes-drop, IsBytes-take}
use Rattle.pm_types.proofs.Results.{bind_ok, bound, ok_same}
use Rattle.pm_image.specs.declared.settled.KeptPage.{KeptPage}
use Rattle.pm_image.specs.Opening.{Current, current, is_placed, page_count}
use Rattle.pm_image.specs.CarAnswers.{AreBytes}
use Rattle.pm_image.specs.CatalogPages.{Met, nothing_met}
use Rattle.pm_image.specs.Graphs.{Catalog, Graph, Pages, cars_from, catalog_of, entries_of, graph_of, images_of, linked, most_pages, sites_of, used_pages}
use Rattle.pm_image.specs.Leading.{CarLeads, RootLeads}
use Rattle.pm_image.specs.Stands.{Opened, opened, pages_of}
use Rattle.pm_image.proofs.Results.{both_true}
use Rattle.pm_image.proofs.FrameLaws.{found_of, opened_as}
use Rattle.pm_image.proofs.LeadLaws.{graph_leads}
use Rattle.pm_image.proofs.RuleLaws.{catalog_fault, current_placed}
use Rattle.pm_copies.specs.Apart.{AreApart}
use Rattle.pm_copies.specs.Entries.{ListedCar, listed_cars, listed_pages}
use Rattle.pm_copies.specs.Spelled.{AreWhole, IsChain, Spells, identities_of, listed_as}
use Rattle.pm_law_copies.proofs.GraphsLemmas.Lists.{all_back, all_both, all_follow, all_front}
use Rattle.pm_law_copies.proofs.GraphsLemmas.Sets.{AreNew, apart_new, new_apart, new_more, new_others}
use Rattle.pm_law_copies.proofs.GraphsLemmas.Cars.{are_below, are_in_range, are_new, are_spelled, cars_again, cars_found, spelled_read}
use Rattle.pm_law_copies.proofs.GraphsLemmas.Order.{IsPlaced, entries_in_order, ordered_again}
use Rattle.pm_law_copies.proofs.GraphsLemmas.Chain.{IsReadOrLong, chain_again, chain_read}
use Rattle.pm_law_copies.proofs.GraphsLemmas.Whole.{IsWhole, numbers_of, later_pages, page_by_page, chain_whole}
use Rattle.pm_law_copies.proofs.GraphsLemmas.Leads.{all_linked}

-- what is met before the first page of a catalog: itself
abbrev pub begun : Header → Met
begun header = record nothing_met { pages = set.insert set.empty header.first }

pub placed_parts : (count : ℕ) (header : Header) → is_placed count header ≡ true → IsPlaced count header.first
placed_parts count header placed =
    let parts = both_true (nat_le 2 header.first) (nat_lt header.first count) placed in
    (leb-true 2 header.first parts.0, ltb-true header.first count parts.1)

-- the catalog that a header names, as a whole
pub catalog_whole : (pages : Pages) (header : Header) (catalog : Catalog) → AreWhole pages → is_placed pages.count header ≡ true → catalog_of pages header ≡ Ok catalog
    → IsWhole pages (begun header) header.first header.digest catalog
catalog_whole pages header catalog all placed is =
    chain_whole pages (begun header) header.first header.digest catalog (chain_read most_pages pages (begun header) header.first header.digest catalog all (placed_parts pages.count header placed) is)

pub pages_below : (count : ℕ) (pages : List ℕ) → AllByRecursion (IsPlaced count) pages → AllByRecursion (λ (page : ℕ). page < count) pages
pages_below count pages placed = all_follow (IsPlaced count) (λ (page : ℕ). page < count) pages (λ page is. is.1) placed

pages_of_cars : (cars : List KeptPage) → map (λ (car : ListedCar). car.page) (map listed_as cars) ≡ map (λ (kept : KeptPage). kept.page) cars
pages_of_cars [] = refl
pages_of_cars (kept ∷ cars) = ap (λ (rest : List ℕ). kept.page ∷ rest) (pages_of_cars cars)

-- the pages of the cars are those that are listed
pub same_pages : (entries_listed : List ListedCar) (cars : List KeptPage) → map listed_as cars ≡ entries_listed → map (λ (car : ListedCar). car.page) entries_listed ≡ map (λ (kept : KeptPage). kept.page) cars
same_pages entries_listed cars listed = sym (ap (map (λ (car : ListedCar). car.page)) listed) ∙ pages_of_cars cars

-- the pages that a graph stands on: the first, and the later ones
first_and_later : (named : ℕ) (catalog : Catalog) → 0 < named → (pages : Pages) (met : Met) (kept : List ℕ) → IsWhole pages met named kept catalog → numbers_of catalog ++ listed_pages (entries_of catalog) ≡ named ∷ later_pages catalog
first_and_later named [] some pages met kept is = let none = is.chain.0 in absurd (omega arith)
first_and_later named (page ∷ others) some pages met kept is = ap (λ (first : ℕ). first ∷ later_pages (page ∷ others)) is.chain.0

-- a graph that was found is spelled
pub graph_spelled : (pages : Pages) (header : Header) (graph : Graph) → AreWhole pages → is_placed pages.count header ≡ true → graph_of pages header ≡ Ok graph → Spells pages header graph
unfolding graph_of
graph_spelled pages header graph all placed is =
    let most = most_fields header.version in
    let lead = graph_leads pages header graph is in
    let one = bind_ok (catalog_of pages header) _ graph is in
    let catalog = one.0 in
    let two = bind_ok (cars_from most header.next pages set.empty (entries_of catalog)) _ graph one.2 in
    let cars = two.0 in
    let three = bind_ok (linked (images_of cars) (sites_of catalog cars)) _ graph two.2 in
    let made : Graph = record { catalog = catalog; cars = cars } in
    let same : made ≡ graph = ok_same made graph three.2 in
    let there = catalog_whole pages header catalog all placed one.1 in
    let read = cars_found most header.next pages set.empty (entries_of catalog) cars all (pages_below pages.count (listed_pages (entries_of catalog)) there.cars_placed) two.1 in
    let listed = same_pages (listed_cars (entries_of catalog)) cars read.0 in
    let named = placed_parts pages.count header placed in
    let apart : AreApart (header.first ∷ later_pages catalog) =
    new_apart (header.first ∷ later_pages catalog) (new_more set.empty header.first (later_pages catalog) (set.contains-empty nat_cmp header.first) there.new) in
    let low = named.0 in
    let used : header.first ∷ later_pages catalog ≡ used_pages made =
    sym (first_and_later header.first catalog (omega arith) pages (begun header) header.digest there) ∙ ap (λ (rest : List ℕ). numbers_of catalog ++ rest) listed in
    let lead_made = subst (λ (g : Graph). AllByRecursion (CarLeads (images_of g.cars)) (images_of g.cars) × AllByRecursion (RootLeads (images_of g.cars)) (entries_of g.catalog)) (sym same) lead in
    let spells : Spells pages header made = record {
      chain = there.chain;
      catalog = there.spelled;
      entries = entries_in_order (entries_of catalog) there.ordered;
      listed = read.0;
      cars = are_spelled most header.next pages set.empty cars read.1;
      own_identities = record { within = are_below most header.next pages set.empty cars read.1; apart = new_apart (identities_of cars) (are_new most header.next pages set.empty cars read.1) };
      own_pages = record {
        within = all_both (IsPlaced pages.count) (numbers_of catalog) (map (λ (kept : KeptPage). kept.page) cars) there.placed (subst (AllByRecursion (IsPlaced pages.count)) listed there.cars_placed);
        apart = subst AreApart used apart;
      };
      cars_lead = lead_made.0;
      roots_lead = lead_made.1;
      in_range = record { catalog = there.range; cars = are_in_range most header.next pages set.empty cars read.1 };
    } in
    subst (Spells pages header) same spells

few_fields : (version : ℕ) → most_fields version < 65536
few_fields version = by (version == OLD_VERSION)
  where
    by : (b : Bool) → (if b then OLD_FIELDS else FIELDS) < 65536
    by true = omega arith
    by false = omega arith

or_long : (pages : Pages) (header : Header) (catalog : Catalog) → pages.count ≤ 2 ^ 64 → is_placed pages.count header ≡ true → IsReadOrLong (catalog_of pages header) catalog → catalog_of pages header ≡ Ok catalog
or_long pages header catalog few placed (inl is) = is
or_long pages header catalog few placed (inr is) = absurd (catalog_fault pages header NotAStore few placed is)

-- the pages after the first are apart from it and from each other
later_new : (header : Header) (catalog : Catalog) → 0 < header.first → (pages : Pages) → IsChain pages header.first header.digest catalog → AreApart (numbers_of catalog ++ listed_pages (entries_of catalog)) → AreNew (begun header).pages (later_pages catalog)
later_new header [] some pages chain apart = let none = chain.0 in absurd (omega arith)
later_new header (page ∷ others) some pages chain apart =
    new_others set.empty header.first (later_pages (page ∷ others)) (apart_new (header.first ∷ later_pages (page ∷ others)) (subst (λ (first : ℕ). AreApart (first ∷ later_pages (page ∷ others))) chain.0 apart))

-- a graph that is spelled is found
pub graph_found : (pages : Pages) (header : Header) (graph : Graph) → pages.count ≤ 2 ^ 64 → is_placed pages.count header ≡ true → Spells pages header graph → graph_of pages header ≡ Ok graph
unfolding graph_of
graph_found pages header graph few placed spells =
    let most = most_fields header.version in
    let catalog = graph.catalog in
    let cars = graph.cars in
    let low = (placed_parts pages.count header placed).0 in
    let car_numbers : List ℕ = map (λ (kept : KeptPage). kept.page) cars in
    let listed = same_pages (listed_cars (entries_of catalog)) cars spells.listed in
    let numbers_placed = all_front (IsPlaced pages.count) (numbers_of catalog) car_numbers spells.own_pages.within in
    let cars_placed = subst (AllByRecursion (IsPlaced pages.count)) (sym listed) (all_back (IsPlaced pages.count) (numbers_of catalog) car_numbers spells.own_pages.within) in
    let apart : AreApart (numbers_of catalog ++ listed_pages (entries_of catalog)) = subst AreApart (ap (λ (rest : List ℕ). numbers_of catalog ++ rest) (sym listed)) spells.own_pages.apart in
    let new = later_new header catalog (omega arith) pages spells.chain apart in
    let there : IsWhole pages (begun header) header.first header.digest catalog = record {
      chain = spells.chain;
      spelled = spells.catalog;
      range = spells.in_range.catalog;
      placed = numbers_placed;
      cars_placed = cars_placed;
      ordered = ordered_again (entries_of catalog) spells.entries;
      new = new;
    } in
    let read = page_by_page pages (begun header) header.first header.digest catalog there in
    let catalog_read = or_long pages header catalog few placed (chain_again most_pages pages (begun header) header.first header.digest catalog (omega arith) read) in
    let cars_read = spelled_read most header.next pages set.empty cars spells.cars spells.in_range.cars spells.own_identities.within (apart_new (identities_of cars) spells.own_identities.apart) in
    bound _ _ catalog _ catalog_read
    (bound _ _ cars _ (cars_again most header.next pages set.empty (entries_of catalog) cars (few_fields header.version) spells.listed cars_read)
    (bound _ _ tt _ (all_linked catalog cars spells.cars_lead spells.roots_lead) refl))

-- pages spell one graph at most
pub one_graph : (pages : Pages) (header : Header) (first second : Graph) → pages.count ≤ 2 ^ 64 → is_placed pages.count header ≡ true → Spells pages header first → Spells pages header second → first ≡ second
one_graph pages header first second few placed one two = ok_same first second (sym (graph_found pages header first few placed one) ∙ graph_found pages header second few placed two)

-- ---- the pages of bytes

-- each page of bytes is whole
pub bytes_whole : (bytes : List ℕ) → AreBytes bytes → AreWhole (pages_of bytes)
bytes_whole bytes fits page there = (
  omega (arith, length-take PAGE_BYTES (drop (PAGE_BYTES * page) bytes), length-drop (PAGE_BYTES * page) bytes),
  IsBytes-take PAGE_BYTES (drop (PAGE_BYTES * page) bytes) (IsBytes-drop (PAGE_BYTES * page) bytes fits),
)

-- what opening finds is spelled by the pages of the bytes
pub opened_spelled : (bytes : List ℕ) (opening : Opened) → AreBytes bytes → opened bytes ≡ Ok opening → Spells (pages_of bytes) opening.current.header opening.graph
opened_spelled bytes opening fits is =
    let parts = found_of bytes opening is in
    graph_spelled (pages_of bytes) opening.current.header opening.graph (bytes_whole bytes fits) (current_placed bytes opening.current parts.0) parts.1

-- what the pages of the bytes spell behind the current header is what opening finds
pub spelled_opened : (bytes : List ℕ) (now : Current) (graph : Graph) → page_count bytes ≤ 2 ^ 64 → current bytes ≡ Ok now → Spells (pages_of bytes) now.header graph → opened bytes ≡ Ok (record { current = now; graph = graph })
spelled_opened bytes now graph few is spells = opened_as bytes now graph is (graph_found (pages_of bytes) now.header graph few (current_placed bytes now is) spells)
