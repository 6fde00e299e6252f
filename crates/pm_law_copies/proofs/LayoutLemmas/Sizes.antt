-- Entries are cut by their sizes alone.
use Rattle.std.proofs.Common.{◌≡◌, ℕ, suc, ◌+◌, Bool, true, false, nat_le, List, [], ◌∷◌, ◌++◌, length, map, replicate, refl, sym, ap, ◌∙◌, arith, if◌then◌else◌}
use Rattle.std.specs.List.{AllByRecursion}
use Rattle.std.proofs.lemmas.List.{length-map, map-append}
use Rattle.pm_types.specs.Names.{IsName}
use Rattle.pm_types.specs.declared.address.Addr.{Addr}
use Rattle.pm_types.specs.declared.limits.TheConstants.{PAGE_BYTES}
use Rattle.pm_image.specs.declared.catalog_kind.TheConstants.{ENTRIES, CAR_ENTRY_BYTES, ROOT_ENTRY_BYTES}
use Rattle.pm_image.specs.declared.catalog.CatEntry.{CatEntry}
use Rattle.pm_image.specs.CatalogPages.{entry_size}
use Rattle.pm_law_copies.proofs.GraphsLemmas.Lists.{all_both}
use Rattle.pm_copies.specs.Plans.{CarInTrain, CarPlan, PlannedPage, car_entry, cars_in, planned_entries, root_entry}
use Rattle.pm_copies.specs.Cutting.{FitsAlone, IsCutInto, OnePage, cut, cut_from, onto_first}
use Rattle.pm_copies.specs.Laid.{IsCatalogFilled, IsStorePlan}
use Rattle.pm_law_copies.proofs.LayoutLemmas.Cutting.{is_cut, one_cut}

-- how many entries each page has
abbrev pub lengths : List OnePage → List ℕ
lengths pages = map (λ (page : OnePage). length page) pages

-- one more on the first page
abbrev one_more : List ℕ → List ℕ
one_more [] = 1 ∷ []
one_more (n ∷ ns) = suc n ∷ ns

lengths_onto : (entry : CatEntry) (pages : List OnePage) → lengths (onto_first entry pages) ≡ one_more (lengths pages)
lengths_onto entry [] = refl
lengths_onto entry (page ∷ pages) = refl

-- the entry goes on the same page as another of its size
one_by_sizes : (first second : CatEntry) (here there : List OnePage) → lengths here ≡ lengths there → lengths (onto_first first here) ≡ lengths (onto_first second there)
one_by_sizes first second here there same = lengths_onto first here ∙ ap one_more same ∙ sym (lengths_onto second there)

sizes_parts : (a b : ℕ) (xs ys : List ℕ) → ◌≡◌ {A = List ℕ} (a ∷ xs) (b ∷ ys) → (a ≡ b) × (xs ≡ ys)
sizes_parts a b xs ys is = (cc, cc)

by_sizes : (used : ℕ) (first second : List CatEntry) → map entry_size first ≡ map entry_size second → lengths (cut_from used first) ≡ lengths (cut_from used second)
by_sizes used [] [] same = refl
by_sizes used [] (entry ∷ second) same = absurd cc
by_sizes used (entry ∷ first) [] same = absurd cc
by_sizes used (one ∷ first) (other ∷ second) same =
    let parts = sizes_parts (entry_size one) (entry_size other) (map entry_size first) (map entry_size second) same in
    either (entry_size one) (nat_le (used + entry_size one) PAGE_BYTES) (λ n. by_sizes n first second parts.1)
    ∙ ap (λ (size : ℕ). lengths (if nat_le (used + size) PAGE_BYTES then onto_first other (cut_from (used + size) second) else [] ∷ onto_first other (cut_from (size + ENTRIES) second))) parts.0
  where
    either : (size : ℕ) (b : Bool) → ((n : ℕ) → lengths (cut_from n first) ≡ lengths (cut_from n second))
        → lengths (if b then onto_first one (cut_from (used + size) first) else [] ∷ onto_first one (cut_from (size + ENTRIES) first)) ≡ lengths (if b then onto_first other (cut_from (used + size) second) else [] ∷ onto_first other (cut_from (size + ENTRIES) second))
    either size true rest = one_by_sizes one other (cut_from (used + size) first) (cut_from (used + size) second) (rest (used + size))
    either size false rest = ap (λ (ns : List ℕ). 0 ∷ ns) (one_by_sizes one other (cut_from (size + ENTRIES) first) (cut_from (size + ENTRIES) second) (rest (size + ENTRIES)))

pub lengths_by_sizes : (first second : List CatEntry) → map entry_size first ≡ map entry_size second → lengths (cut first) ≡ lengths (cut second)
lengths_by_sizes first second same = by_sizes ENTRIES first second same

pub count_by_sizes : (first second : List CatEntry) → map entry_size first ≡ map entry_size second → length (cut first) ≡ length (cut second)
count_by_sizes first second same =
    sym (length-map (cut first) (λ (page : OnePage). length page)) ∙ ap length (lengths_by_sizes first second same) ∙ length-map (cut second) (λ (page : OnePage). length page)

-- ---- the entries of a plan

car_sizes : (cars : List CarInTrain) → map entry_size (map car_entry cars) ≡ replicate (length cars) CAR_ENTRY_BYTES
car_sizes [] = refl
car_sizes (car ∷ cars) = ap (λ (sizes : List ℕ). CAR_ENTRY_BYTES ∷ sizes) (car_sizes cars)

root_sizes : (roots : List (List ℕ × Addr)) → map entry_size (map root_entry roots) ≡ map (λ (root : List ℕ × Addr). ROOT_ENTRY_BYTES + length root.0) roots
root_sizes [] = refl
root_sizes (root ∷ roots) = ap (λ (sizes : List ℕ). (ROOT_ENTRY_BYTES + length root.0) ∷ sizes) (root_sizes roots)

pub planned_sizes : (plan : CarPlan) → map entry_size (planned_entries plan) ≡ replicate (length (cars_in plan)) CAR_ENTRY_BYTES ++ map (λ (root : List ℕ × Addr). ROOT_ENTRY_BYTES + length root.0) plan.roots
planned_sizes plan =
    map-append entry_size (map car_entry (cars_in plan)) (map root_entry plan.roots)
    ∙ ap (λ (sizes : List ℕ). sizes ++ map entry_size (map root_entry plan.roots)) (car_sizes (cars_in plan))
    ∙ ap (λ (sizes : List ℕ). replicate (length (cars_in plan)) CAR_ENTRY_BYTES ++ sizes) (root_sizes plan.roots)

size_of_name : (roots : List (List ℕ × Addr)) → map (λ (root : List ℕ × Addr). ROOT_ENTRY_BYTES + length root.0) roots ≡ map (λ (n : ℕ). ROOT_ENTRY_BYTES + n) (map (λ (root : List ℕ × Addr). length root.0) roots)
size_of_name [] = refl
size_of_name (root ∷ roots) = ap (λ (sizes : List ℕ). (ROOT_ENTRY_BYTES + length root.0) ∷ sizes) (size_of_name roots)

same_sizes : (first second : CarPlan) → length (cars_in first) ≡ length (cars_in second) → map (λ (root : List ℕ × Addr). length root.0) first.roots ≡ map (λ (root : List ℕ × Addr). length root.0) second.roots
    → map entry_size (planned_entries first) ≡ map entry_size (planned_entries second)
same_sizes first second cars names =
    planned_sizes first
    ∙ ap (λ (n : ℕ). replicate n CAR_ENTRY_BYTES ++ map (λ (root : List ℕ × Addr). ROOT_ENTRY_BYTES + length root.0) first.roots) cars
    ∙ ap (λ (sizes : List ℕ). replicate (length (cars_in second)) CAR_ENTRY_BYTES ++ sizes) (size_of_name first.roots ∙ ap (map (λ (n : ℕ). ROOT_ENTRY_BYTES + n)) names ∙ sym (size_of_name second.roots))
    ∙ sym (planned_sizes second)

-- the pages of a catalog are as many as those that its entries are cut into
catalog_count : (plan : CarPlan) → IsCatalogFilled plan → length plan.catalog ≡ length (cut (planned_entries plan))
catalog_count plan is = sym (length-map plan.catalog (λ (listed : PlannedPage). listed.entries)) ∙ ap length (one_cut (planned_entries plan) (map (λ (listed : PlannedPage). listed.entries) plan.catalog) is)

pub same_count : (first second : CarPlan) → IsCatalogFilled first → IsCatalogFilled second → length (cars_in first) ≡ length (cars_in second) → map (λ (root : List ℕ × Addr). length root.0) first.roots ≡ map (λ (root : List ℕ × Addr). length root.0) second.roots
    → length first.catalog ≡ length second.catalog
same_count first second one two cars names =
    catalog_count first one ∙ count_by_sizes (planned_entries first) (planned_entries second) (same_sizes first second cars names) ∙ sym (catalog_count second two)

-- ---- each entry fits a page

cars_fit : (cars : List CarInTrain) → AllByRecursion FitsAlone (map car_entry cars)
cars_fit [] = tt
cars_fit (car ∷ cars) = (omega arith, cars_fit cars)

roots_fit : (roots : List (List ℕ × Addr)) → AllByRecursion (λ (root : List ℕ × Addr). IsName root.0) roots → AllByRecursion FitsAlone (map root_entry roots)
roots_fit [] names = tt
roots_fit (root ∷ roots) names = let short = names.0.short in (omega (arith, short), roots_fit roots names.1)

pub planned_cut : (next most : ℕ) (plan : CarPlan) → IsStorePlan next most plan → IsCutInto (planned_entries plan) (cut (planned_entries plan))
planned_cut next most plan of_store =
    is_cut (planned_entries plan) (all_both FitsAlone (map car_entry (cars_in plan)) (map root_entry plan.roots) (cars_fit (cars_in plan)) (roots_fit plan.roots of_store.in_range.names))
