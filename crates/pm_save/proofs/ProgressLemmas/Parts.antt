-- Which entries come on which page of the catalog.
use Rattle.std.proofs.Common.{◌≡◌, ℕ, zero, suc, ◌+◌, ◌-◌, ◌<◌, ◌≤◌, Bool, true, false, nat_le, List, [], ◌∷◌, ◌++◌, length, map, get_or, take, drop, sum, reverse, Option, Some, None, unwrap_or, refl, sym, ap, ◌∙◌, subst, arith, if◌then◌else◌, slice_index_or}
use Rattle.std.specs.List.{AllByRecursion, flat_map, slice_get, slice_range, list_all}
use Rattle.std.specs.Prelude.{◌==◌, ◌||◌, not}
use Rattle.std.proofs.lemmas.Bool.Decides.{nat_tests}
use Rattle.std.proofs.Math.Seq.{drop-append-add}
use Rattle.std.proofs.lemmas.List.{length-map, length-append, length-drop, map-append, take_at, take_more, same_from_push, get_or-map, reverse-append, length-reverse}
use Rattle.std.proofs.lemmas.List.Sums.{sum_by-cons, sum_by_push, sum_by-take-le}
use Rattle.pm_types.specs.declared.limits.TheConstants.{PAGE_BYTES}
use Rattle.pm_image.specs.declared.catalog_kind.TheConstants.{ENTRIES, CAR_ENTRY_BYTES}
use Rattle.pm_image.specs.declared.catalog.CatEntry.{CatEntry}
use Rattle.pm_image.specs.declared.catalog.CatalogPage.{CatalogPage}
use Rattle.pm_image.specs.CatalogPages.{HasCatalogPage, entry_size, has_next_digest, nothing_met}
use Rattle.pm_law_copies.proofs.GraphsLemmas.Lists.{all_both}
use Rattle.pm_saving.specs.Tied.{HasPage}
use Rattle.pm_copies.specs.Plans.{car_entry, cars_of_train, chain_of, digest_of, first_of}
use Rattle.pm_copies.specs.Cutting.{OnePage, cut, cut_from, joined, onto_first}
use Rattle.pm_law_copies.proofs.LayoutLemmas.Sizes.{lengths, lengths_by_sizes, count_by_sizes}
use Rattle.pm_saving.specs.Progress.{Place, Clean, Unwritten, Written, PlacedCar, Progress, catalog_left, catalog_len, catalog_of, draft_entry, paired, parts_of, planned, roots_of}
use Rattle.pm_saving.specs.Paging.{PartPage, is_unwritten, part_before}
use Rattle.pm_save.specs.Progress.Kept.{counts_of}
use Rattle.pm_save.proofs.ProgressLemmas.Slices.{before_end, last_split, last_none}
use Rattle.pm_save.specs.Progress.Entries.{entries_in, entry_of}

-- ---- pages of a list of pages

-- entries that are cut are all there
joined_onto : (entry : CatEntry) (pages : List OnePage) → joined (onto_first entry pages) ≡ entry ∷ joined pages
joined_onto entry [] = refl
joined_onto entry (page ∷ pages) = refl

joined_from : (used : ℕ) (entries : List CatEntry) → joined (cut_from used entries) ≡ entries
joined_from used [] = refl
joined_from used (entry ∷ entries) = by (λ n. joined_from n entries) (nat_le (used + entry_size entry) PAGE_BYTES)
  where
    by : ((n : ℕ) → joined (cut_from n entries) ≡ entries) → (b : Bool) → joined (if b then onto_first entry (cut_from (used + entry_size entry) entries) else [] ∷ onto_first entry (cut_from (entry_size entry + ENTRIES) entries)) ≡ entry ∷ entries
    by others true = joined_onto entry (cut_from (used + entry_size entry) entries) ∙ ap (λ (rest : List CatEntry). entry ∷ rest) (others (used + entry_size entry))
    by others false = joined_onto entry (cut_from (entry_size entry + ENTRIES) entries) ∙ ap (λ (rest : List CatEntry). entry ∷ rest) (others (entry_size entry + ENTRIES))

joined_cut : (entries : List CatEntry) → joined (cut entries) ≡ entries
joined_cut entries = joined_from ENTRIES entries

sum_one : (n : ℕ) (ns : List ℕ) → sum (n ∷ ns) ≡ n + sum ns
sum_one n ns = sum_by-cons (λ (n : ℕ). n) n ns

-- a page is the stretch behind those before it
page_at : (pages : List OnePage) (before : ℕ) → before < length pages
    → slice_range (joined pages) (sum (take before (lengths pages))) (sum (take before (lengths pages)) + length (slice_index_or pages before [])) ≡ slice_index_or pages before []
page_at [] before low = let none : before < 0 = low in absurd (omega (arith, none))
page_at (page ∷ pages) zero low =
    let same : 0 + length page - 0 ≡ length page = omega arith in
    ap (λ (n : ℕ). take n (page ++ joined pages)) same ∙ take_at page (joined pages) (length page) refl
page_at (page ∷ pages) (suc before) low =
    let n = sum (take before (lengths pages)) in
    let m = length (slice_index_or pages before []) in
    let there : before < length pages = omega (arith, low) in
    let same : length page + n + m - (length page + n) ≡ n + m - n = omega arith in
    ap (λ (k : ℕ). slice_range (page ++ joined pages) k (k + m)) (sum_one (length page) (take before (lengths pages)))
    ∙ ap (λ (k : ℕ). take k (drop (length page + n) (page ++ joined pages))) same
    ∙ ap (take (n + m - n)) (drop-append-add page (joined pages) n)
    ∙ page_at pages before there

-- ---- the entries of a copy of which each car stands on a page

first_entry : (train number : ℕ) (place : Place) (others : List PlacedCar) → is_unwritten place ≡ false
    → map car_entry (flat_map cars_of_train (flat_map planned (record { train = train; number = number; place = place } ∷ others)))
    ≡ entry_of (record { train = train; number = number; place = place }) ∷ map car_entry (flat_map cars_of_train (flat_map planned others))
first_entry train number (Clean kept) others is = refl
first_entry train number Unwritten others is = absurd cc
first_entry train number (Written kept) others is = refl

entries_of_cars : (cars : List PlacedCar) → AllByRecursion (λ (one : PlacedCar). is_unwritten one.place ≡ false) cars
    → map car_entry (flat_map cars_of_train (flat_map planned cars)) ≡ map entry_of cars
entries_of_cars [] placed = refl
entries_of_cars (one ∷ others) placed =
    first_entry one.train one.number one.place others placed.0 ∙ ap (λ (rest : List CatEntry). entry_of one ∷ rest) (entries_of_cars others placed.1)

pub parts_are : (progress : Progress) → AllByRecursion (λ (one : PlacedCar). is_unwritten one.place ≡ false) progress.cars → parts_of progress ≡ cut (entries_in progress)
parts_are progress placed = ap (λ (front : List CatEntry). cut (front ++ roots_of progress)) (entries_of_cars progress.cars placed)

-- ---- how many entries each page has

size_of_entry : (train number : ℕ) (place : Place) → entry_size (entry_of (record { train = train; number = number; place = place })) ≡ CAR_ENTRY_BYTES
size_of_entry train number (Clean kept) = refl
size_of_entry train number Unwritten = refl
size_of_entry train number (Written kept) = refl

sizes_of_cars : (cars : List PlacedCar) → map entry_size (map entry_of cars) ≡ map entry_size (map draft_entry cars)
sizes_of_cars [] = refl
sizes_of_cars (one ∷ others) = ap (λ (n : ℕ). n ∷ map entry_size (map entry_of others)) (size_of_entry one.train one.number one.place) ∙ ap (λ (sizes : List ℕ). CAR_ENTRY_BYTES ∷ sizes) (sizes_of_cars others)

same_sizes : (progress : Progress) → map entry_size (entries_in progress) ≡ map entry_size (map draft_entry progress.cars ++ roots_of progress)
same_sizes progress =
    map-append entry_size (map entry_of progress.cars) (roots_of progress)
    ∙ ap (λ (sizes : List ℕ). sizes ++ map entry_size (roots_of progress)) (sizes_of_cars progress.cars)
    ∙ sym (map-append entry_size (map draft_entry progress.cars) (roots_of progress))

pub counts_are : (progress : Progress) → counts_of progress ≡ lengths (cut (entries_in progress))
counts_are progress = sym (lengths_by_sizes (entries_in progress) (map draft_entry progress.cars ++ roots_of progress) (same_sizes progress))

pub len_is : (progress : Progress) → catalog_len progress ≡ length (cut (entries_in progress))
len_is progress = sym (count_by_sizes (entries_in progress) (map draft_entry progress.cars ++ roots_of progress) (same_sizes progress))

-- ---- the next page of the catalog

sum_push : (ns : List ℕ) (n : ℕ) → sum (ns ++ n ∷ []) ≡ sum ns + n
sum_push ns n = sum_by_push (λ (n : ℕ). n) ns n

sum_all : (pages : List OnePage) → sum (lengths pages) ≡ length (joined pages)
sum_all [] = refl
sum_all (page ∷ pages) = let rest = sum_all pages in let both = length-append page (joined pages) in let one = sum_one (length page) (lengths pages) in omega (arith, rest, both, one)

sum_front : (n : ℕ) (ns : List ℕ) → sum (take n ns) ≤ sum ns
sum_front n ns = sum_by-take-le (λ (n : ℕ). n) ns n

length_at : (pages : List OnePage) (n : ℕ) → n < length pages → get_or (lengths pages) n 0 ≡ length (slice_index_or pages n [])
length_at pages n low = get_or-map (λ (page : OnePage). length page) pages n [] 0 low

-- how many pages there are
left_within : (progress : Progress) → catalog_left progress ≤ length (cut (entries_in progress))
left_within progress = let len = len_is progress in omega (arith, len)

record IsLastOf (entries : List CatEntry) (counts : List ℕ) (count : ℕ) (part : OnePage) : Type 0 where
  pub there : sum counts ≤ length entries
  pub within : count ≤ sum counts
  pub stretch : slice_range entries (sum counts - count) (sum counts) ≡ part

-- of the pages that were not written the last one is the last stretch of the entries that they have
last_of : (entries : List CatEntry) (before : ℕ) (counts front : List ℕ) (count : ℕ) → before < length (cut entries) → counts ≡ take (suc before) (lengths (cut entries)) → counts ≡ front ++ count ∷ []
    → IsLastOf entries counts count (slice_index_or (cut entries) before [])
last_of entries before counts front count low is pushed =
    let pages = cut entries in
    let whole : joined pages ≡ entries = joined_cut entries in
    let same_len : length (lengths pages) ≡ length pages = length-map pages (λ (page : OnePage). length page) in
    let more : suc before ≡ before + 1 = omega arith in
    let two = same_from_push front (take before (lengths pages)) count (get_or (lengths pages) before 0) (sym pushed ∙ is ∙ ap (λ (n : ℕ). take n (lengths pages)) more ∙ take_more (lengths pages) before 0 (omega (arith, low, same_len))) in
    let n = sum (take before (lengths pages)) in
    let m = length (slice_index_or pages before []) in
    let count_is : count ≡ m = two.1 ∙ length_at pages before low in
    let front_is : sum front ≡ n = ap sum two.0 in
    let sum_is : sum counts ≡ sum front + count = ap sum pushed ∙ sum_push front count in
    let all : sum counts ≤ sum (lengths pages) = subst (λ (ns : List ℕ). sum ns ≤ sum (lengths pages)) (sym is) (sum_front (suc before) (lengths pages)) in
    let len : sum (lengths pages) ≡ length entries = sum_all pages ∙ ap length whole in
    let from_is : sum counts - count ≡ n = omega (arith, sum_is, front_is) in
    let to_is : sum counts ≡ n + m = omega (arith, sum_is, front_is, count_is) in
    record {
      there = omega (arith, all, len);
      within = omega (arith, sum_is);
      stretch =
          ap (λ (from : ℕ). slice_range entries from (sum counts)) from_is
          ∙ ap (λ (to : ℕ). slice_range entries n to) to_is
          ∙ ap (λ (entries : List CatEntry). slice_range entries n (n + m)) (sym whole)
          ∙ page_at pages before low;
    }

pub record IsNextPart (progress : Progress) (counts : List ℕ) (count : ℕ) : Type 0 where
  pub there : sum counts ≤ length (entries_in progress)
  pub within : count ≤ sum counts
  pub part : part_before (catalog_left progress) progress ≡ Some (PartPage (slice_range (entries_in progress) (sum counts - count) (sum counts)))

by_left : (progress : Progress) (left : ℕ) (counts front : List ℕ) (count : ℕ) → left ≤ length (cut (entries_in progress)) → AllByRecursion (λ (one : PlacedCar). is_unwritten one.place ≡ false) progress.cars
    → counts ≡ take left (lengths (cut (entries_in progress))) → counts ≡ front ++ count ∷ []
    → (sum counts ≤ length (entries_in progress)) × (count ≤ sum counts) × (part_before left progress ≡ Some (PartPage (slice_range (entries_in progress) (sum counts - count) (sum counts))))
by_left progress zero counts front count few placed is pushed =
    let one : length (front ++ count ∷ []) ≡ length front + 1 = length-append front (count ∷ []) in
    let none : length (front ++ count ∷ []) ≡ 0 = ap length (sym pushed ∙ is) in
    absurd (omega (arith, one, none))
by_left progress (suc before) counts front count few placed is pushed =
    let last = last_of (entries_in progress) before counts front count (omega (arith, few)) is pushed in (
      last.there,
      last.within,
      ap (λ (pages : List OnePage). Some (PartPage (slice_index_or pages before []))) (parts_are progress placed) ∙ ap (λ (part : OnePage). Some (PartPage part)) (sym last.stretch),
    )

pub next_part : (progress : Progress) (counts : List ℕ) (count : ℕ) → AllByRecursion (λ (one : PlacedCar). is_unwritten one.place ≡ false) progress.cars
    → counts ≡ take (catalog_left progress) (counts_of progress) → slice_get counts (length counts - 1) ≡ Some count → IsNextPart progress counts count
next_part progress counts count placed is last =
    let found = by_left progress (catalog_left progress) counts (take (length counts - 1) counts) count (left_within progress) placed (is ∙ ap (take (catalog_left progress)) (counts_are progress)) (last_split counts count last) in
    record { there = found.0; within = found.1; part = found.2 }

-- none is left where no page has a number of entries
none_at : (left : ℕ) (progress : Progress) (ns : List ℕ) → left ≤ length ns → [] ≡ take left ns → part_before left progress ≡ None
none_at zero progress ns few is = refl
none_at (suc left) progress [] few is = absurd (omega (arith, few))
none_at (suc left) progress (n ∷ ns) few is = absurd cc

pub no_part : (progress : Progress) (counts : List ℕ) → counts ≡ take (catalog_left progress) (counts_of progress) → slice_get counts (length counts - 1) ≡ None → part_before (catalog_left progress) progress ≡ None
no_part progress counts is last =
    let pages = cut (entries_in progress) in
    let few = left_within progress in
    let same_len : length (lengths pages) ≡ length pages = length-map pages (λ (page : OnePage). length page) in
    none_at (catalog_left progress) progress (lengths pages) (omega (arith, few, same_len)) (sym (last_none counts last) ∙ is ∙ ap (take (catalog_left progress)) (counts_are progress))

-- ---- the first page of those that were written

first_page : (page : ℕ) (pages : List ℕ) (parts : List OnePage) → 0 < length parts → first_of (chain_of (paired (page ∷ pages) parts)) ≡ page
first_page page pages [] some = absurd (omega (arith, some))
first_page page pages (entries ∷ parts) some = refl

-- it is the one that was written last, or 0
first_of_written : (written : List ℕ) (last : Option ℕ) (parts : List OnePage) → length written ≤ length parts → last ≡ slice_get written (length written - 1)
    → unwrap_or last 0 ≡ first_of (chain_of (paired (reverse written) parts))
first_of_written written None parts few is = ap (λ (written : List ℕ). first_of (chain_of (paired (reverse written) parts))) (sym (last_none written (sym is)))
first_of_written written (Some page) parts few is =
    let front = take (length written - 1) written in
    let split : written ≡ front ++ page ∷ [] = last_split written page (sym is) in
    let turned : reverse written ≡ page ∷ reverse front = ap reverse split ∙ reverse-append front (page ∷ []) in
    let there = before_end written (length written - 1) page (sym is) in
    sym (ap (λ (pages : List ℕ). first_of (chain_of (paired pages parts))) turned ∙ first_page page (reverse front) parts (omega (arith, few, there)))

-- how many pages of the catalog were written
written_parts : (progress : Progress) → AllByRecursion (λ (one : PlacedCar). is_unwritten one.place ≡ false) progress.cars → length progress.parts ≤ catalog_len progress
    → length progress.parts ≡ length (drop (catalog_left progress) (parts_of progress))
written_parts progress placed few =
    let len = len_is progress in
    let parts : length (parts_of progress) ≡ length (cut (entries_in progress)) = ap (λ (pages : List OnePage). length pages) (parts_are progress placed) in
    let rest = length-drop (catalog_left progress) (parts_of progress) in
    omega (arith, len, parts, rest, few)

pub first_written : (progress : Progress) (written : List ℕ) (last : Option ℕ) → AllByRecursion (λ (one : PlacedCar). is_unwritten one.place ≡ false) progress.cars → length progress.parts ≤ catalog_len progress
    → progress.parts ≡ reverse written → last ≡ slice_get written (length written - 1) → unwrap_or last 0 ≡ first_of (chain_of (catalog_of progress))
first_written progress written last placed few are is =
    let len = written_parts progress placed few in
    let turned : length progress.parts ≡ length written = ap (λ (parts : List ℕ). length parts) are ∙ length-reverse written in
    first_of_written written last (drop (catalog_left progress) (parts_of progress)) (omega (arith, len, turned)) is
    ∙ ap (λ (parts : List ℕ). first_of (chain_of (paired parts (drop (catalog_left progress) (parts_of progress))))) (sym are)

-- ---- a page names the next one with its digest, and none with zeros

all_reverse : {A : Type 0} (P : A → Type 0) (xs : List A) → AllByRecursion P xs → AllByRecursion P (reverse xs)
all_reverse P [] all = tt
all_reverse P (x ∷ xs) all = subst (AllByRecursion P) (sym (reverse-append (x ∷ []) xs)) (all_both P (reverse xs) (x ∷ []) (all_reverse P xs all.1) (all.0, tt))

names_next : (page : ℕ) (digest : List ℕ) → 0 < page → has_next_digest page digest ≡ true
names_next page digest some =
    let other : (page == 0) ≡ false = grind (arith, nat_tests) in
    ap (λ (b : Bool). not b || list_all (λ (byte : ℕ). byte == 0) digest) other

paired_fits : (pages : List ℕ) (parts : List OnePage) → AllByRecursion (λ (page : ℕ). 0 < page) pages → has_next_digest (first_of (chain_of (paired pages parts))) (digest_of (chain_of (paired pages parts))) ≡ true
paired_fits [] parts some = refl
paired_fits (page ∷ pages) [] some = refl
paired_fits (page ∷ pages) (entries ∷ parts) some = names_next page (digest_of (chain_of (paired (page ∷ pages) (entries ∷ parts)))) some.0

pub digest_fits : (written : List ℕ) (parts : List OnePage) (next : ℕ) (digest : List ℕ) → AllByRecursion (λ (page : ℕ). 0 < page) written
    → next ≡ first_of (chain_of (paired (reverse written) parts)) → digest ≡ digest_of (chain_of (paired (reverse written) parts)) → has_next_digest next digest ≡ true
digest_fits written parts next digest some first is =
    ap (λ (next : ℕ). has_next_digest next digest) first ∙ ap (λ (digest : List ℕ). has_next_digest (first_of (chain_of (paired (reverse written) parts))) digest) is
    ∙ paired_fits (reverse written) parts (all_reverse (λ (page : ℕ). 0 < page) written some)

-- such a page may be written
pub page_fits : (page : CatalogPage) (entries : OnePage) → HasPage (PartPage entries) → page.entries ≡ entries → has_next_digest page.next page.digest ≡ true → HasCatalogPage None nothing_met page
page_fits page entries may is fits =
    let same : record { next = page.next; digest = page.digest; entries = entries } ≡ page = ap (λ (entries : OnePage). record { next = page.next; digest = page.digest; entries = entries }) (sym is) in
    subst (HasCatalogPage None nothing_met) same (may page.next page.digest fits)
