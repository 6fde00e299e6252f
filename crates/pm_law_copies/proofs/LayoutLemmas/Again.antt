-- The pages that hold a plan spell its graph.
use Rattle.std.proofs.Common.{◌≡◌, ℕ, zero, suc, ◌<◌, ◌≤◌, ◌^◌, true, nat_le, nat_lt, ◌&&◌, List, [], ◌∷◌, ◌++◌, length, map, replicate, Ok, refl, sym, ap, subst, ◌∙◌, arith, lit≤}
use Rattle.std.specs.List.{AllByRecursion}
use Rattle.std.specs.FinSet as set
use Rattle.std.proofs.lemmas.Bool.Decides.{nat_tests}
use Rattle.sha2.specs.Sha256.{sha256}
use Rattle.sha2.proofs.Facts256.{length-sha256}
use Rattle.pm_types.specs.declared.limits.TheConstants.{FIELDS}
use Rattle.pm_types.specs.declared.object.Slot.{Slot}
use Rattle.pm_layout.specs.declared.header.Header.{Header}
use Rattle.pm_layout.specs.Headers.{most_fields}
use Rattle.pm_layout.specs.Spelling.{HasSpelling, IsWithinLimits}
use Rattle.pm_image.specs.declared.catalog.CatEntry.{CatEntry}
use Rattle.pm_image.specs.declared.car.CarImage.{CarImage}
use Rattle.pm_image.specs.declared.catalog.CatalogPage.{CatalogPage}
use Rattle.pm_image.specs.declared.settled.KeptPage.{KeptPage}
use Rattle.pm_image.specs.CarAnswers.{IsCarInRange}
use Rattle.pm_image.specs.CarPages.{Numbers, padded}
use Rattle.pm_image.specs.CatalogPages.{IsCatalogInRange, IsEntryInRange, catalog_spelling}
use Rattle.pm_image.specs.Graphs.{Pages, graph_of, images_of, with_identities}
use Rattle.pm_image.specs.Leading.{CarLeads, RootLeads}
use Rattle.pm_image.specs.Opening.{Current, current, is_placed, page_count}
use Rattle.pm_image.specs.Stands.{opened, pages_of}
use Rattle.pm_copies.specs.Listed.{images}
use Rattle.pm_copies.specs.Accepted.{HavePages}
use Rattle.pm_law_copies.proofs.Pages.{have_pages}
use Rattle.pm_copies.specs.Apart.{AreOwn}
use Rattle.pm_copies.specs.Entries.{AreInOrder, listed_cars}
use Rattle.pm_copies.specs.Spelled.{IsCatalogSpelled, IsChain, Spells, identities_of}
use Rattle.pm_law_copies.proofs.GraphsLemmas.Cars.{AreCarsRead, are_below, are_in_range, are_new, are_spelled}
use Rattle.pm_law_copies.proofs.GraphsLemmas.Found.{graph_found, spelled_opened}
use Rattle.pm_law_copies.proofs.GraphsLemmas.Lists.{all_back, all_front}
use Rattle.pm_law_copies.proofs.GraphsLemmas.Sets.{new_apart}
use Rattle.pm_copies.specs.Plans.{CarInTrain, CarPlan, PlannedPage, car_entry, cars_in, chain_of, digest_of, first_of, graph_of_plan, in_list, planned_cars, planned_list, planned_roots}
use Rattle.pm_copies.specs.Cutting.{Fit, joined}
use Rattle.pm_copies.specs.Laid.{HasFewFields, IsCarHeld, IsLaidBehind, IsPageHeld}
use Rattle.pm_law_copies.proofs.LayoutLemmas.Planned.{kept_of, parts_of, places_of, plan_entries, plan_pages, same_images}
use Rattle.pm_law_copies.proofs.LayoutLemmas.InOrder.{IsPlaceInRange, cars_listed, plan_ordered, plan_range}

-- ---- the catalog

zeros : (n : ℕ) → AllByRecursion (λ (byte : ℕ). byte ≡ 0) (replicate n 0)
zeros zero = tt
zeros (suc n) = (refl, zeros n)

chain_spelled : (pages : Pages) (catalog : List PlannedPage) → AllByRecursion Fit (parts_of catalog) → AllByRecursion (IsPageHeld pages) (chain_of catalog) → AllByRecursion (IsCatalogSpelled pages) (chain_of catalog)
chain_spelled pages [] fit held = tt
chain_spelled pages (first ∷ catalog) fit held = (record { fits = fit.0; spelled = held.0 }, chain_spelled pages catalog fit.1 held.1)

is_chain : (pages : Pages) (catalog : List PlannedPage) → AllByRecursion (IsPageHeld pages) (chain_of catalog) → IsChain pages (first_of (chain_of catalog)) (digest_of (chain_of catalog)) (chain_of catalog)
is_chain pages [] held = (refl, zeros 32)
is_chain pages (first ∷ catalog) held = (refl, ap sha256 held.0, is_chain pages catalog held.1)

-- a page number that has eight bytes
abbrev IsSmall : ℕ → Type 0
IsSmall page = page < 2 ^ 64

first_small : (catalog : List PlannedPage) → AllByRecursion IsSmall (places_of catalog) → first_of (chain_of catalog) < 2 ^ 64
first_small [] small = lit≤ tt
first_small (first ∷ catalog) small = small.0

digest_length : (catalog : List PlannedPage) → length (digest_of (chain_of catalog)) ≡ 32
digest_length [] = refl
digest_length (first ∷ catalog) = length-sha256 (padded (catalog_spelling (chain_first first catalog)))
  where
    chain_first : PlannedPage → List PlannedPage → CatalogPage
    chain_first first catalog = record { next = first_of (chain_of catalog); digest = digest_of (chain_of catalog); entries = first.entries }

chain_range : (catalog : List PlannedPage) → AllByRecursion IsSmall (places_of catalog) → AllByRecursion IsEntryInRange (joined (parts_of catalog)) → AllByRecursion (λ (page : ℕ × CatalogPage). IsCatalogInRange page.1) (chain_of catalog)
chain_range [] small range = tt
chain_range (first ∷ catalog) small range = (
  record { next = first_small catalog small.1; digest = digest_length catalog; entries = all_front IsEntryInRange first.entries (joined (parts_of catalog)) range },
  chain_range catalog small.1 (all_back IsEntryInRange first.entries (joined (parts_of catalog)) range),
)

-- a page of the store, behind the headers' two
abbrev IsPlaced : ℕ → ℕ → Type 0
IsPlaced count page = (2 ≤ page) × (page < count)

first_placed : (count : ℕ) (header : Header) (catalog : List PlannedPage) → 0 < length (parts_of catalog) → AllByRecursion (IsPlaced count) (places_of catalog) → header.first ≡ first_of (chain_of catalog) → is_placed count header ≡ true
first_placed count header [] some placed is = absurd (omega (arith, some))
first_placed count header (first ∷ catalog) some placed is = ap (λ (page : ℕ). nat_le 2 page && nat_lt page count) is ∙ within first.page placed.0.0 placed.0.1
  where
    within : (page : ℕ) → 2 ≤ page → page < count → (nat_le 2 page && nat_lt page count) ≡ true
    within page from below = grind (arith, nat_tests, from, below)

-- ---- the cars

few_spelled : (most : ℕ) (slots : List (ℕ × Slot)) → AllByRecursion (λ (entry : ℕ × Slot). HasSpelling FIELDS entry.1) slots → AllByRecursion (λ (entry : ℕ × Slot). IsWithinLimits most entry.1) slots
    → AllByRecursion (λ (entry : ℕ × Slot). HasSpelling most entry.1) slots
few_spelled most [] has few = tt
few_spelled most (entry ∷ slots) has few = (record { within = few.0; numbered = has.0.numbered }, few_spelled most slots has.1 few.1)

cars_read : (most next : ℕ) (pages : Pages) (met : Numbers) (cars : List CarInTrain) → HavePages FIELDS next met (images (map in_list cars)) → AllByRecursion (HasFewFields most) (kept_of cars)
    → AllByRecursion (λ (kept : KeptPage). IsCarInRange kept.image) (kept_of cars) → AllByRecursion (IsCarHeld pages) (kept_of cars) → AreCarsRead most next pages met (kept_of cars)
cars_read most next pages met [] have few range held = tt
cars_read most next pages met (car ∷ cars) have few range held =
    let here = have.0 in (
      record {
        digest = held.0.digest;
        spelled = held.0.spelled;
        has = record { fits = here.fits; ascend = here.ascend; free = here.free; slots = few_spelled most car.1.image.slots here.slots few.0 };
        range = range.0;
      },
      cars_read most next pages (with_identities met car.1.image.slots) cars have.1 few.1 range.1 held.1,
    )

digests_kept : (pages : Pages) (cars : List KeptPage) → AllByRecursion (IsCarHeld pages) cars → AllByRecursion IsSmall (map (λ (kept : KeptPage). kept.page) cars) → AllByRecursion IsPlaceInRange cars
digests_kept pages [] held small = tt
digests_kept pages (kept ∷ cars) held small =
    (record { page = small.0; digest = subst (λ (digest : List ℕ). length digest ≡ 32) held.0.digest (length-sha256 (pages.page kept.page)) }, digests_kept pages cars held.1 small.1)

-- ---- the graph

small_pages : (count : ℕ) (numbers : List ℕ) → count ≤ 2 ^ 64 → AllByRecursion (IsPlaced count) numbers → AllByRecursion IsSmall numbers
small_pages count [] few placed = tt
small_pages count (page ∷ numbers) few placed = (let below = placed.0.1 in omega (arith, below, few), small_pages count numbers few placed.1)

-- the entries of cars lead nowhere
roots_lead : (images : List CarImage) (cars : List CarInTrain) (roots : List CatEntry) → AllByRecursion (RootLeads images) roots → AllByRecursion (RootLeads images) (map car_entry cars ++ roots)
roots_lead images [] roots lead = lead
roots_lead images (car ∷ cars) roots lead = (tt, roots_lead images cars roots lead)

pub laid_spells : (pages : Pages) (header : Header) (plan : CarPlan) → pages.count ≤ 2 ^ 64 → IsLaidBehind pages header plan → Spells pages header (graph_of_plan plan)
laid_spells pages header plan few laid =
    let most = most_fields header.version in
    let next = header.next in
    let of_store = laid.of_store in
    let accepted = of_store.accepted in
    let held = laid.held in
    let cars = planned_cars plan in
    let car_places : List ℕ = map (λ (kept : KeptPage). kept.page) cars in
    let placed = held.own_pages.within in
    let small_catalog = small_pages pages.count (places_of plan.catalog) few (all_front (IsPlaced pages.count) (places_of plan.catalog) car_places placed) in
    let small_cars = small_pages pages.count car_places few (all_back (IsPlaced pages.count) (places_of plan.catalog) car_places placed) in
    let read = cars_read most next pages set.empty (cars_in plan) (have_pages (planned_list plan) (planned_roots plan) next accepted) of_store.fields of_store.in_range.cars held.cars in
    let range = plan_range next most plan of_store (digests_kept pages cars held.cars small_cars) in
    let same = same_images (cars_in plan) in
    let entries = plan_entries plan laid.listed in
    let chain = is_chain pages plan.catalog held.catalog in
    record {
      chain = subst (λ (first : ℕ). IsChain pages first header.digest (chain_of plan.catalog)) (sym laid.header_of.first)
          (subst (λ (digest : List ℕ). IsChain pages (first_of (chain_of plan.catalog)) digest (chain_of plan.catalog)) (sym laid.header_of.digest) chain);
      catalog = chain_spelled pages plan.catalog laid.listed.fit held.catalog;
      entries = subst AreInOrder (sym entries) (plan_ordered next most plan of_store);
      listed = cars_listed (cars_in plan) plan.roots ∙ ap listed_cars (sym entries);
      cars = are_spelled most next pages set.empty cars read;
      own_identities = record { within = are_below most next pages set.empty cars read; apart = new_apart (identities_of cars) (are_new most next pages set.empty cars read) };
      own_pages = subst (AreOwn 2 pages.count) (sym (plan_pages plan)) held.own_pages;
      cars_lead = subst (λ (cars : List CarImage). AllByRecursion (CarLeads cars) cars) (sym same) accepted.lead;
      roots_lead = subst (AllByRecursion (RootLeads (images_of cars))) (sym entries)
          (roots_lead (images_of cars) (cars_in plan) (planned_roots plan) (subst (λ (cars : List CarImage). AllByRecursion (RootLeads cars) (planned_roots plan)) (sym same) accepted.roots));
      in_range = record {
        catalog = chain_range plan.catalog small_catalog (subst (AllByRecursion IsEntryInRange) (sym laid.listed.whole) range);
        cars = are_in_range most next pages set.empty cars read;
      };
    }

laid_placed : (pages : Pages) (header : Header) (plan : CarPlan) → IsLaidBehind pages header plan → is_placed pages.count header ≡ true
laid_placed pages header plan laid =
    let car_places : List ℕ = map (λ (kept : KeptPage). kept.page) (planned_cars plan) in
    first_placed pages.count header plan.catalog laid.listed.some (all_front (IsPlaced pages.count) (places_of plan.catalog) car_places laid.held.own_pages.within) laid.header_of.first

pub laid_found : (pages : Pages) (header : Header) (plan : CarPlan) → pages.count ≤ 2 ^ 64 → IsLaidBehind pages header plan → graph_of pages header ≡ Ok (graph_of_plan plan)
laid_found pages header plan few laid = graph_found pages header (graph_of_plan plan) few (laid_placed pages header plan laid) (laid_spells pages header plan few laid)

pub laid_opened : (bytes : List ℕ) (now : Current) (plan : CarPlan) → page_count bytes ≤ 2 ^ 64 → current bytes ≡ Ok now → IsLaidBehind (pages_of bytes) now.header plan
    → opened bytes ≡ Ok (record { current = now; graph = graph_of_plan plan })
laid_opened bytes now plan few is laid = spelled_opened bytes now (graph_of_plan plan) few is (laid_spells (pages_of bytes) now.header plan few laid)
