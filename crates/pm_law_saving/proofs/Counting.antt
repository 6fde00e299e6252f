-- How many pages a catalog has, and how many are left.
use Rattle.std.proofs.Common.{◌≡◌, ℕ, ◌+◌, ◌<◌, Bool, true, false, nat_le, List, [], ◌∷◌, ◌++◌, length, map, arith, if◌then◌else◌}
use Rattle.pm_types.specs.declared.limits.TheConstants.{PAGE_BYTES}
use Rattle.pm_image.specs.declared.catalog_kind.TheConstants.{ENTRIES}
use Rattle.pm_image.specs.declared.catalog.CatEntry.{CatEntry}
use Rattle.pm_image.specs.CatalogPages.{entry_size}
use Rattle.pm_copies.specs.Cutting.{OnePage, cut_from, onto_first}
use Rattle.pm_saving.specs.Progress.{Progress, catalog_left, catalog_len, draft_entry, roots_of}
use Rattle.pm_saving.specs.Paging.{left, unwritten}
use Rattle.pm_saving.specs.Beginning.{AreLast}

onto_some : (entry : CatEntry) (pages : List OnePage) → 0 < length (onto_first entry pages)
onto_some entry [] = omega arith
onto_some entry (page ∷ pages) = omega arith

-- a catalog has a page
pub cut_some : (used : ℕ) (entries : List CatEntry) → 0 < length (cut_from used entries)
cut_some used [] = omega arith
cut_some used (entry ∷ entries) = by (nat_le (used + entry_size entry) PAGE_BYTES)
  where
    by : (b : Bool) → 0 < length (if b then onto_first entry (cut_from (used + entry_size entry) entries) else [] ∷ onto_first entry (cut_from (entry_size entry + ENTRIES) entries))
    by true = onto_some entry (cut_from (used + entry_size entry) entries)
    by false = omega arith

pub catalog_some : (progress : Progress) → 0 < catalog_len progress
catalog_some progress = cut_some ENTRIES (map draft_entry progress.cars ++ roots_of progress)

-- what holds where nothing is left
pub record IsAllWritten (progress : Progress) : Type 0 where
  pub cars : unwritten progress.cars ≡ 0
  pub catalog : catalog_left progress ≡ 0
  pub parts : length progress.parts ≡ catalog_len progress
  pub kept : progress.kept ≡ true

pub all_written : (progress : Progress) → AreLast progress → left progress ≡ 0 → IsAllWritten progress
all_written progress last none =
    let some = catalog_some progress in
    let few = last.few in
    let cars : unwritten progress.cars ≡ 0 = omega (arith, none) in
    let catalog : catalog_left progress ≡ 0 = omega (arith, none) in
    let parts : length progress.parts ≡ catalog_len progress = omega (arith, catalog, few) in
    record { cars = cars; catalog = catalog; parts = parts; kept = last.kept (omega (arith, parts, some)) }
