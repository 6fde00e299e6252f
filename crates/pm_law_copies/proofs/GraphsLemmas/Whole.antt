-- A chain that was read page by page, and what holds of the catalog as a whole.
use Rattle.std.proofs.Common.{◌≡◌, ℕ, zero, suc, ◌<◌, Bool, true, not, ◌==◌, ◌||◌, List, [], ◌∷◌, ◌++◌, map, Some, refl, sym, ap, subst, ◌∙◌, arith}
use Rattle.std.specs.List.{AllByRecursion, list_all}
use Rattle.std.specs.FinSet as set
use Rattle.pm_image.specs.declared.catalog.CatEntry.{CatEntry}
use Rattle.pm_image.specs.declared.catalog.CatEntry.TheVariants.{Car, Root}
use Rattle.pm_image.specs.declared.catalog.CatalogPage.{CatalogPage}
use Rattle.pm_image.specs.CarPages.{Numbers}
use Rattle.pm_image.specs.CatalogPages.{IsCatalogInRange, Met, has_next_digest, is_free_page, is_next_page, meeting_next, meeting_page}
use Rattle.pm_image.specs.Graphs.{Catalog, Pages, entries_of}
use Rattle.pm_copies.specs.Apart.{times}
use Rattle.pm_copies.specs.Entries.{listed_pages}
use Rattle.pm_copies.specs.Spelled.{IsCatalogSpelled, IsChain}
use Rattle.pm_law_copies.proofs.GraphsLemmas.Lists.{all_both, all_front, all_back}
use Rattle.pm_law_copies.proofs.GraphsLemmas.Sets.{AreNew, new_first, new_more, new_others, times_append, nothing_new}
use Rattle.pm_law_copies.proofs.GraphsLemmas.Chain.{IsChainRead, all_zeros, next_free, zero_test}
use Rattle.pm_law_copies.proofs.GraphsLemmas.Order.{AreOrdered, IsPlaced, after_all, is_free, entries_next, next_new, next_ordered, next_placed, order_met, order_next, order_of, ordered_back, ordered_both, ordered_front}

-- the numbers of the pages
abbrev pub numbers_of : Catalog → List ℕ
numbers_of catalog = map (λ (page : ℕ × CatalogPage). page.0) catalog

-- those after the first
abbrev pub later_numbers : Catalog → List ℕ
later_numbers [] = []
later_numbers (page ∷ others) = numbers_of others

-- the pages that come after the first: of the catalog, and of cars
abbrev pub later_pages : Catalog → List ℕ
later_pages catalog = later_numbers catalog ++ listed_pages (entries_of catalog)

pub listed_append : (xs ys : List CatEntry) → listed_pages (xs ++ ys) ≡ listed_pages xs ++ listed_pages ys
listed_append [] ys = refl
listed_append (Car car train page digest ∷ xs) ys = ap (λ (rest : List ℕ). page ∷ rest) (listed_append xs ys)
listed_append (Root name at ∷ xs) ys = listed_append xs ys

-- what holds of a catalog as a whole, where this was met before its first page
pub record IsWhole (pages : Pages) (met : Met) (named : ℕ) (kept : List ℕ) (catalog : Catalog) : Type 0 where
  pub chain : IsChain pages named kept catalog
  pub spelled : AllByRecursion (IsCatalogSpelled pages) catalog
  pub range : AllByRecursion (λ (page : ℕ × CatalogPage). IsCatalogInRange page.1) catalog
  pub placed : AllByRecursion (IsPlaced pages.count) (numbers_of catalog)
  pub cars_placed : AllByRecursion (IsPlaced pages.count) (listed_pages (entries_of catalog))
  pub ordered : AreOrdered (order_of met) (entries_of catalog)
  pub new : AreNew met.pages (later_pages catalog)

-- ---- orders of the same pages

-- pages of the catalog, and of cars
same_times : (number : ℕ) (numbers : List ℕ) (xs ys : List CatEntry) → times number (numbers ++ listed_pages (xs ++ ys)) ≡ times number (listed_pages xs ++ (numbers ++ listed_pages ys))
same_times number numbers xs ys =
    let a = times_append number numbers (listed_pages (xs ++ ys)) in
    let b = ap (times number) (listed_append xs ys) ∙ times_append number (listed_pages xs) (listed_pages ys) in
    let c = times_append number (listed_pages xs) (numbers ++ listed_pages ys) in
    let d = times_append number numbers (listed_pages ys) in
    omega (arith, a, b, c, d)

new_as : (met : Numbers) (numbers : List ℕ) (xs ys : List CatEntry) → AreNew met (listed_pages xs ++ (numbers ++ listed_pages ys)) → AreNew met (numbers ++ listed_pages (xs ++ ys))
new_as met numbers xs ys new number = let here = new number in let same = same_times number numbers xs ys in omega arith

as_new : (met : Numbers) (numbers : List ℕ) (xs ys : List CatEntry) → AreNew met (numbers ++ listed_pages (xs ++ ys)) → AreNew met (listed_pages xs ++ (numbers ++ listed_pages ys))
as_new met numbers xs ys new number = let here = new number in let same = same_times number numbers xs ys in omega arith

-- ---- the next page is met

none_met : (met : Met) (next : ℕ) → next ≡ 0 → (meeting_next met next).pages ≡ met.pages
none_met met next none = ap (λ (n : ℕ). (meeting_next met n).pages) none

one_met : (met : Met) (next : ℕ) → 0 < next → (meeting_next met next).pages ≡ set.insert met.pages next
one_met met zero some = absurd (omega arith)
one_met met (suc next) some = refl

order_page : (met : Met) (page : CatalogPage) → order_of (meeting_page met page) ≡ after_all (order_of met) page.entries
order_page met page = order_met (meeting_next met page.next) page.entries ∙ ap (λ order. after_all order page.entries) (order_next met page.next)

-- ---- from page by page to the whole

new_later : (pages : Pages) (met : Met) (page : ℕ × CatalogPage) (others : Catalog) → is_next_page (Some pages.count) met.pages page.1.next ≡ true → IsChainRead pages (meeting_page met page.1) page.1.next page.1.digest others
    → AreNew (meeting_next met page.1.next).pages (listed_pages page.1.entries ++ later_pages others) → AreNew met.pages (later_pages (page ∷ others))
new_later pages met page [] next read new =
    new_as met.pages [] page.1.entries [] (subst (λ (s : Numbers). AreNew s (listed_pages page.1.entries ++ [])) (none_met met page.1.next read.0) new)
new_later pages met page (second ∷ others) next read new =
    let low = read.0.placed.0 in
    let same = read.0.same in
    let some : 0 < page.1.next = omega arith in
    let free = next_free pages.count met.pages page.1.next (zero_test page.1.next some) next in
    let rest = new_as (set.insert met.pages page.1.next) (numbers_of others) page.1.entries (entries_of (second ∷ others))
    (subst (λ (s : Numbers). AreNew s (listed_pages page.1.entries ++ later_pages (second ∷ others))) (one_met met page.1.next some) new) in
    subst (λ (k : ℕ). AreNew met.pages (k ∷ (numbers_of others ++ listed_pages (entries_of (page ∷ (second ∷ others)))))) (sym same)
    (new_more met.pages page.1.next (numbers_of others ++ listed_pages (entries_of (page ∷ (second ∷ others)))) free.other rest)

pub chain_whole : (pages : Pages) (met : Met) (named : ℕ) (kept : List ℕ) (catalog : Catalog) → IsChainRead pages met named kept catalog → IsWhole pages met named kept catalog
chain_whole pages met named kept [] read = record { chain = read; spelled = tt; range = tt; placed = tt; cars_placed = tt; ordered = tt; new = nothing_new met.pages }
chain_whole pages met named kept (page ∷ others) read =
    let here = read.0 in
    let first = page.1 in
    let rest = chain_whole pages (meeting_page met first) first.next first.digest others read.1 in
    let has = here.has in
    let inner = meeting_next met first.next in
    record {
      chain = (here.same, here.digest, rest.chain);
      spelled = (record { fits = has.fits; spelled = here.spelled }, rest.spelled);
      range = (here.range, rest.range);
      placed = (here.placed, rest.placed);
      cars_placed = subst (AllByRecursion (IsPlaced pages.count)) (sym (listed_append first.entries (entries_of others)))
          (all_both (IsPlaced pages.count) (listed_pages first.entries) (listed_pages (entries_of others)) (next_placed pages.count inner first.entries has.entries) rest.cars_placed);
      ordered = ordered_both (order_of met) first.entries (entries_of others)
          (subst (λ order. AreOrdered order first.entries) (order_next met first.next) (next_ordered pages.count inner first.entries has.entries))
          (subst (λ order. AreOrdered order (entries_of others)) (order_page met first) rest.ordered);
      new = new_later pages met page others has.next read.1 (next_new pages.count inner first.entries (later_pages others) has.entries rest.new);
    }

-- ---- and back

record IsNextMet (pages : Pages) (met : Met) (page : ℕ × CatalogPage) (others : Catalog) : Type 0 where
  next : is_next_page (Some pages.count) met.pages page.1.next ≡ true
  digest : has_next_digest page.1.next page.1.digest ≡ true
  new : AreNew (meeting_next met page.1.next).pages (listed_pages page.1.entries ++ later_pages others)

next_met : (pages : Pages) (met : Met) (page : ℕ × CatalogPage) (others : Catalog) → IsChain pages page.1.next page.1.digest others → AllByRecursion (IsPlaced pages.count) (numbers_of others) → AreNew met.pages (later_pages (page ∷ others))
    → IsNextMet pages met page others
next_met pages met page [] chain placed new = record {
  next = ap (λ (n : ℕ). is_next_page (Some pages.count) met.pages n) chain.0;
  digest = ap (λ (n : ℕ). has_next_digest n page.1.digest) chain.0 ∙ all_zeros page.1.digest chain.1;
  new = subst (λ (s : Numbers). AreNew s (listed_pages page.1.entries ++ [])) (sym (none_met met page.1.next chain.0)) (as_new met.pages [] page.1.entries [] new);
}
next_met pages met page (second ∷ others) chain placed new =
    let low = placed.0.0 in
    let same = chain.0 in
    let some : 0 < page.1.next = omega arith in
    let goes = zero_test page.1.next some in
    let here : AreNew met.pages (page.1.next ∷ (numbers_of others ++ listed_pages (entries_of (page ∷ (second ∷ others))))) =
    subst (λ (k : ℕ). AreNew met.pages (k ∷ (numbers_of others ++ listed_pages (entries_of (page ∷ (second ∷ others)))))) same new in
    let other = new_first met.pages page.1.next (numbers_of others ++ listed_pages (entries_of (page ∷ (second ∷ others)))) here in
    let rest = as_new (set.insert met.pages page.1.next) (numbers_of others) page.1.entries (entries_of (second ∷ others))
    (new_others met.pages page.1.next (numbers_of others ++ listed_pages (entries_of (page ∷ (second ∷ others)))) here) in
    let free = is_free pages.count met.pages page.1.next (subst (IsPlaced pages.count) same placed.0) other in
    record {
      next = ap (λ (b : Bool). b || is_free_page (Some pages.count) met.pages page.1.next) goes ∙ free;
      digest = ap (λ (b : Bool). not b || list_all (λ byte. byte == 0) page.1.digest) goes;
      new = subst (λ (s : Numbers). AreNew s (listed_pages page.1.entries ++ later_pages (second ∷ others))) (sym (one_met met page.1.next some)) rest;
    }

pub page_by_page : (pages : Pages) (met : Met) (named : ℕ) (kept : List ℕ) (catalog : Catalog) → IsWhole pages met named kept catalog → IsChainRead pages met named kept catalog
page_by_page pages met named kept [] is = is.chain
page_by_page pages met named kept (page ∷ others) is =
    let first = page.1 in
    let inner = meeting_next met first.next in
    let chain = is.chain in
    let next = next_met pages met page others chain.2 is.placed.1 is.new in
    let ordered = ordered_front (order_of met) first.entries (entries_of others) is.ordered in
    let listed = subst (AllByRecursion (IsPlaced pages.count)) (listed_append first.entries (entries_of others)) is.cars_placed in
    let still = entries_next pages.count inner first.entries (later_pages others) (subst (λ order. AreOrdered order first.entries) (sym (order_next met first.next)) ordered)
    (all_front (IsPlaced pages.count) (listed_pages first.entries) (listed_pages (entries_of others)) listed) next.new in (
      record {
        same = chain.0;
        placed = is.placed.0;
        digest = chain.1;
        spelled = is.spelled.0.spelled;
        has = record { fits = is.spelled.0.fits; next = next.next; next_digest = next.digest; entries = still.next };
        range = is.range.0;
      },
      page_by_page pages (meeting_page met first) first.next first.digest others (record {
        chain = chain.2;
        spelled = is.spelled.1;
        range = is.range.1;
        placed = is.placed.1;
        cars_placed = all_back (IsPlaced pages.count) (listed_pages first.entries) (listed_pages (entries_of others)) listed;
        ordered = subst (λ order. AreOrdered order (entries_of others)) (sym (order_page met first)) (ordered_back (order_of met) first.entries (entries_of others) is.ordered);
        new = still.new;
      }),
    )
