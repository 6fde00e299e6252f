-- The catalog is read exactly where its pages are a chain that spells it.
use Rattle.std.proofs.Common.{◌≡◌, ◌⊎◌, inl, inr, ℕ, zero, suc, ◌<◌, Bool, true, false, not, ◌==◌, ◌||◌, ◌&&◌, List, [], ◌∷◌, Some, Result, Ok, Err, refl, sym, ap, subst, ◌∙◌, arith, if◌then◌else◌}
use Rattle.std.specs.List.{AllByRecursion, list_all}
use Rattle.std.proofs.lemmas.Bool.{eqb-true}
use Rattle.std.proofs.lemmas.Bool.Decides.{nat_tests}
use Rattle.sha2.specs.Sha256.{sha256}
use Rattle.pm_types.specs.declared.fault.OpenFault.{OpenFault}
use Rattle.pm_types.specs.declared.fault.OpenFault.TheVariants.{NotAStore}
use Rattle.pm_types.specs.Results.{◌>>=◌}
use Rattle.pm_types.proofs.Results.{bind_ok, bound, ok_same}
use Rattle.pm_image.specs.declared.catalog.CatalogPage.{CatalogPage}
use Rattle.pm_image.specs.CarPages.{Numbers, padded}
use Rattle.pm_image.specs.CatalogPages.{HasCatalogPage, IsCatalogInRange, Met, catalog_at, catalog_spelling, has_next_digest, is_free_page, is_next_page, meeting_page}
use Rattle.pm_image.specs.Graphs.{Catalog, Pages, catalog_from, on_page, undamaged}
use Rattle.pm_image.proofs.CatalogTakes.{catalog_takes}
use Rattle.pm_image.proofs.CatalogAgain.{catalog_again}
use Rattle.pm_copies.specs.Spelled.{AreWhole}
use Rattle.pm_law_copies.proofs.GraphsLemmas.Ranges.{catalog_range}
use Rattle.pm_law_copies.proofs.GraphsLemmas.Cars.{kept_digest, page_read, undamaged_again}
use Rattle.pm_law_copies.proofs.GraphsLemmas.Order.{IsPageFree, IsPlaced, page_free}

-- ---- pages that were read one after the other

abbrev pub IsZero : ℕ → Type 0
IsZero byte = byte ≡ 0

-- the page that is named was read, with this met before
pub record IsPageRead (pages : Pages) (met : Met) (named : ℕ) (kept : List ℕ) (page : ℕ × CatalogPage) : Type 0 where
  pub same : page.0 ≡ named
  pub placed : IsPlaced pages.count page.0
  pub digest : sha256 (pages.page page.0) ≡ kept
  pub spelled : pages.page page.0 ≡ padded (catalog_spelling page.1)
  pub has : HasCatalogPage (Some pages.count) met page.1
  pub range : IsCatalogInRange page.1

-- the pages from the one that is named on were read, with this met before the first
abbrev pub IsChainRead : Pages → Met → ℕ → List ℕ → Catalog → Type 0
IsChainRead pages met named kept [] = (named ≡ 0) × AllByRecursion IsZero kept
IsChainRead pages met named kept (page ∷ others) = IsPageRead pages met named kept page × IsChainRead pages (meeting_page met page.1) page.1.next page.1.digest others

zeros_all : (digest : List ℕ) → list_all (λ byte. byte == 0) digest ≡ true → AllByRecursion IsZero digest
zeros_all [] is = tt
zeros_all (byte ∷ digest) is = let parts = two (byte == 0) (list_all (λ byte. byte == 0) digest) is in (eqb-true byte 0 parts.0, zeros_all digest parts.1)
  where
    two : (a b : Bool) → (a && b) ≡ true → (a ≡ true) × (b ≡ true)
    two true b is = (refl, is)
    two false b is = absurd cc

pub all_zeros : (digest : List ℕ) → AllByRecursion IsZero digest → list_all (λ byte. byte == 0) digest ≡ true
all_zeros [] all = refl
all_zeros (byte ∷ digest) all = ap (λ (b : ℕ). (b == 0) && list_all (λ byte. byte == 0) digest) all.0 ∙ all_zeros digest all.1

-- a page that names none
digest_none : (next : ℕ) (digest : List ℕ) → (next == 0) ≡ true → has_next_digest next digest ≡ true → AllByRecursion IsZero digest
digest_none next digest none is = zeros_all digest (sym (ap (λ (b : Bool). not b || list_all (λ byte. byte == 0) digest) none) ∙ is)

-- a page that names one
pub next_free : (count : ℕ) (met : Numbers) (next : ℕ) → (next == 0) ≡ false → is_next_page (Some count) met next ≡ true → IsPageFree count met next
next_free count met next some is = page_free count met next (sym (ap (λ (b : Bool). b || is_free_page (Some count) met next) some) ∙ is)

pub zero_test : (next : ℕ) → 0 < next → (next == 0) ≡ false
zero_test next some = grind (arith, nat_tests)

-- what follows the page
tail_read : (n : ℕ) (pages : Pages) (met : Met) (first : CatalogPage) (others : Catalog) → HasCatalogPage (Some pages.count) met first
    → (IsPlaced pages.count first.next → catalog_from n pages (meeting_page met first) first.next first.digest ≡ Ok others → IsChainRead pages (meeting_page met first) first.next first.digest others)
    → (ends : Bool) → (first.next == 0) ≡ ends → (if ends then Ok [] else catalog_from n pages (meeting_page met first) first.next first.digest) ≡ Ok others
    → IsChainRead pages (meeting_page met first) first.next first.digest others
tail_read n pages met first others has again true ends is =
    subst (IsChainRead pages (meeting_page met first) first.next first.digest) (ok_same {A = Catalog} [] others is)
    (eqb-true first.next 0 ends, digest_none first.next first.digest ends has.next_digest)
tail_read n pages met first others has again false goes is = again (next_free pages.count met.pages first.next goes has.next).placed is

pub chain_read : (n : ℕ) (pages : Pages) (met : Met) (named : ℕ) (kept : List ℕ) (catalog : Catalog) → AreWhole pages → IsPlaced pages.count named → catalog_from n pages met named kept ≡ Ok catalog
    → IsChainRead pages met named kept catalog
unfolding catalog_from
chain_read zero pages met named kept catalog whole placed is = absurd cc
chain_read (suc n) pages met named kept catalog whole placed is =
    let one = bind_ok (undamaged pages named kept) _ catalog is in
    let two = bind_ok (on_page named (catalog_at (Some pages.count) met (pages.page named))) _ catalog one.2 in
    let first = two.0 in
    let three = bind_ok (if first.next == 0 then Ok [] else catalog_from n pages (meeting_page met first) first.next first.digest) _ catalog two.2 in
    let others = three.0 in
    let bytes = whole named placed.1 in
    let read = page_read named (catalog_at (Some pages.count) met (pages.page named)) first two.1 in
    let taken = catalog_takes (Some pages.count) met (pages.page named) first bytes.0 bytes.1 read in
    let made : IsChainRead pages met named kept ((named, first) ∷ others) = (
      record {
        same = refl;
        placed = placed;
        digest = kept_digest pages named kept one.0 one.1;
        spelled = taken.1;
        has = taken.0;
        range = catalog_range (Some pages.count) met (pages.page named) first bytes.0 bytes.1 read;
      },
      tail_read n pages met first others taken.0 (λ next rest. chain_read n pages (meeting_page met first) first.next first.digest others whole next rest) (first.next == 0) refl three.1,
    ) in
    subst (IsChainRead pages met named kept) (ok_same {A = Catalog} ((named, first) ∷ others) catalog three.2) made

-- ---- and back

-- the catalog is read, or there are more pages in the chain than were allowed
abbrev pub IsReadOrLong : Result Catalog OpenFault → Catalog → Type 0
IsReadOrLong read catalog = (read ≡ Ok catalog) ⊎ (read ≡ Err NotAStore)

some_named : (pages : Pages) (met : Met) (next : ℕ) (digest : List ℕ) (page : ℕ × CatalogPage) (others : Catalog) → IsChainRead pages met next digest (page ∷ others) → 0 < next
some_named pages met next digest page others read = let low = read.0.placed.0 in let same = read.0.same in omega arith

tail_again : (n : ℕ) (pages : Pages) (met : Met) (next : ℕ) (digest : List ℕ) (others : Catalog) → IsChainRead pages met next digest others → IsReadOrLong (catalog_from n pages met next digest) others ⊎ (next ≡ 0)
    → IsReadOrLong (if next == 0 then Ok [] else catalog_from n pages met next digest) others
tail_again n pages met next digest [] read rest = inl (ap (λ (k : ℕ). if k == 0 then Ok [] else catalog_from n pages met k digest) read.0)
tail_again n pages met next digest (page ∷ others) read (inl rest) =
    let goes = zero_test next (some_named pages met next digest page others read) in
    subst (λ (b : Bool). IsReadOrLong (if b then Ok [] else catalog_from n pages met next digest) (page ∷ others)) (sym goes) rest
tail_again n pages met next digest (page ∷ others) read (inr none) = let some = some_named pages met next digest page others read in absurd (omega arith)

with_first : (page : ℕ × CatalogPage) (rest : Result Catalog OpenFault) (others : Catalog) → IsReadOrLong rest others → IsReadOrLong (rest >>= λ those. Ok (page ∷ those)) (page ∷ others)
with_first page rest others (inl is) = inl (ap (λ (r : Result Catalog OpenFault). r >>= λ those. Ok (page ∷ those)) is)
with_first page rest others (inr is) = inr (ap (λ (r : Result Catalog OpenFault). r >>= λ those. Ok (page ∷ those)) is)

-- the end of a chain, or its next page
end_or : (n : ℕ) (pages : Pages) (met : Met) (next : ℕ) (digest : List ℕ) (others : Catalog) → IsChainRead pages met next digest others
    → (0 < next → IsReadOrLong (catalog_from n pages met next digest) others) → IsReadOrLong (catalog_from n pages met next digest) others ⊎ (next ≡ 0)
end_or n pages met next digest [] read again = inr read.0
end_or n pages met next digest (page ∷ others) read again = inl (again (some_named pages met next digest page others read))

pub chain_again : (n : ℕ) (pages : Pages) (met : Met) (named : ℕ) (kept : List ℕ) (catalog : Catalog) → 0 < named → IsChainRead pages met named kept catalog → IsReadOrLong (catalog_from n pages met named kept) catalog
unfolding catalog_from
chain_again zero pages met named kept catalog some read = inr refl
chain_again (suc n) pages met named kept [] some read = let none = read.0 in absurd (omega arith)
chain_again (suc n) pages met named kept (page ∷ others) some read =
    let here = read.0 in
    let first = page.1 in
    let next = end_or n pages (meeting_page met first) first.next first.digest others read.1 (λ more. chain_again n pages (meeting_page met first) first.next first.digest others more read.1) in
    let tail = tail_again n pages (meeting_page met first) first.next first.digest others read.1 next in
    let rest : Result Catalog OpenFault = (if first.next == 0 then Ok [] else catalog_from n pages (meeting_page met first) first.next first.digest) in
    let whole = with_first page rest others tail in
    let reads : catalog_at (Some pages.count) met (pages.page page.0) ≡ Ok first =
    ap (catalog_at (Some pages.count) met) here.spelled ∙ catalog_again (Some pages.count) met first here.has here.range in
    let same : catalog_from (suc n) pages met page.0 kept ≡ (rest >>= λ those. Ok (page ∷ those)) =
    bound _ _ tt _ (undamaged_again pages page.0 kept here.digest)
    (bound _ _ first _ (ap (on_page page.0) reads) refl) in
    subst (λ (k : ℕ). IsReadOrLong (catalog_from (suc n) pages met k kept) (page ∷ others)) here.same
    (subst (λ (r : Result Catalog OpenFault). IsReadOrLong r (page ∷ others)) (sym same) whole)
