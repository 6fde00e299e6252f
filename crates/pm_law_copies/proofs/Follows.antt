-- The entries of a catalog that was read: numbers of cars differ, trains never fall, names ascend.
use Rattle.std.proofs.Common.{◌≡◌, ℕ, zero, suc, ◌+◌, ◌<◌, ◌≤◌, ◌==◌, ◌&&◌, ◌||◌, true, false, not, nat_lt, nat_le, refl, ap, subst, List, [], ◌∷◌, ◌++◌, length, Option, Some, None, Result, Ok, Err, arith, if◌then◌else◌}
use Rattle.std.specs.FinSet as set
use Rattle.std.proofs.lemmas.Bool.{ltb-true}
use Rattle.pm_types.specs.declared.limits.TheConstants.{PAGE_BYTES, ROOTS}
use Rattle.pm_layout.specs.declared.header.Header.{Header}
use Rattle.pm_layout.proofs.Numbers.{IsBytes}
use Rattle.pm_types.proofs.Results.{bind_ok, ok_same}
use Rattle.pm_image.specs.declared.catalog.CatEntry.{CatEntry}
use Rattle.pm_image.specs.declared.catalog.CatEntry.TheVariants.{Car, Root}
use Rattle.pm_image.specs.declared.catalog.CatalogPage.{CatalogPage}
use Rattle.pm_image.specs.CarPages.{Numbers}
use Rattle.pm_image.specs.CatalogPages.{Met, nothing_met, meeting, meeting_next, meeting_all, meeting_page, is_free_page, is_next_page, is_next_name, AreNext, catalog_at}
use Rattle.pm_image.specs.Opening.{is_placed}
use Rattle.pm_image.specs.Graphs.{Pages, Catalog, on_page, undamaged, catalog_from, most_pages, catalog_of, entries_of}
use Rattle.pm_image.proofs.CatalogTakes.{catalog_takes}
use Rattle.pm_copies.specs.Accepted.{NamesAscend, roots_in}
use Rattle.pm_law_copies.proofs.Lists.{both_true}

-- each entry may come after those before it, whatever pages were met
pub record CarFollows (count : ℕ) (cars : Numbers) (train : ℕ) (car now page : ℕ) : Type 0 where
  pub from_one : 0 < car
  pub other : set.contains cars car ≡ false
  pub in_order : train ≤ now
  pub below : page < count

abbrev pub Follows : ℕ → Numbers → ℕ → Option (List ℕ) → ℕ → List CatEntry → Type 0
Follows count cars train name roots [] = Unit {0}
Follows count cars train name roots (Car car now page digest ∷ entries) = CarFollows count cars train car now page × Follows count (set.insert cars car) now name roots entries
Follows count cars train name roots (Root found at ∷ entries) = (is_next_name name found ≡ true) × (roots < ROOTS) × Follows count cars train (Some found) (roots + 1) entries

abbrev FollowsMet : ℕ → Met → List CatEntry → Type 0
FollowsMet count met entries = Follows count met.cars met.train met.name met.roots entries

free_below : (count : ℕ) (met : Numbers) (page : ℕ) → is_free_page (Some count) met page ≡ true → page < count
free_below count met page free =
    let one = both_true (nat_le 2 page) (nat_lt page count && not (set.contains met page)) free in
    let two = both_true (nat_lt page count) (not (set.contains met page)) one.1 in
    ltb-true page count two.0

follow : (count : ℕ) (met : Met) (entries : List CatEntry) → AreNext (Some count) met entries → FollowsMet count met entries
follow count met [] next = tt
follow count met (Car car train page digest ∷ entries) next = (
  record { from_one = next.0.numbered; other = next.0.other; in_order = next.0.in_order; below = free_below count met.pages page next.0.free },
  follow count (meeting met (Car car train page digest)) entries next.1,
)
follow count met (Root name at ∷ entries) next = (next.0.in_order, ltb-true met.roots ROOTS next.0.left, follow count (meeting met (Root name at)) entries next.1)

follow_on : (count : ℕ) (met : Met) (xs ys : List CatEntry) → FollowsMet count met xs → FollowsMet count (meeting_all met xs) ys → FollowsMet count met (xs ++ ys)
follow_on count met [] ys one two = two
follow_on count met (Car car train page digest ∷ xs) ys one two = (one.0, follow_on count (meeting met (Car car train page digest)) xs ys one.1 two)
follow_on count met (Root name at ∷ xs) ys one two = (one.0, one.1, follow_on count (meeting met (Root name at)) xs ys one.2 two)

-- which page comes next does not matter
pages_apart : (count : ℕ) (met : Met) (next : ℕ) (entries : List CatEntry) → FollowsMet count (meeting_next met next) entries → FollowsMet count met entries
pages_apart count met zero entries follows = follows
pages_apart count met (suc next) entries follows = follows

page_read : {A : Type 0} (page : ℕ) (read : Result A ℕ) (x : A) → on_page page read ≡ Ok x → read ≡ Ok x
page_read page (Ok y) x is = ap Ok (ok_same y x is)
page_read page (Err at) x is = cc

pub on_page_read : {A : Type 0} (page : ℕ) (read : Result A ℕ) (x : A) → on_page page read ≡ Ok x → read ≡ Ok x
on_page_read page read x is = page_read page read x is

-- the pages of a store are whole, and hold bytes
abbrev pub AreWhole : Pages → Type 0
AreWhole pages = (page : ℕ) → page < pages.count → (length (pages.page page) ≡ PAGE_BYTES) × IsBytes (pages.page page)

next_below : (count : ℕ) (met : Numbers) (next : ℕ) → is_next_page (Some count) met next ≡ true → (next == 0) ≡ false → next < count
next_below count met next is over = free_below count met next (subst (λ b. (b || is_free_page (Some count) met next) ≡ true) over is)

module _ (pages : Pages) (whole : AreWhole pages) where
  pub catalog_follows : (n : ℕ) (met : Met) (page : ℕ) (kept : List ℕ) (catalog : Catalog) → page < pages.count → catalog_from n pages met page kept ≡ Ok catalog → FollowsMet pages.count met (entries_of catalog)
  unfolding catalog_from
  catalog_follows zero met page kept catalog below is = cc
  catalog_follows (suc n) met page kept catalog below is =
      let one = bind_ok (undamaged pages page kept) _ catalog is in
      let two = bind_ok (on_page page (catalog_at (Some pages.count) met (pages.page page))) _ catalog one.2 in
      let first : CatalogPage = two.0 in
      let three = bind_ok (if first.next == 0 then Ok [] else catalog_from n pages (meeting_page met first) first.next first.digest) _ catalog two.2 in
      let made : Catalog = (page, first) ∷ three.0 in
      let taken = (catalog_takes (Some pages.count) met (pages.page page) first (whole page below).0 (whole page below).1 (on_page_read page (catalog_at (Some pages.count) met (pages.page page)) first two.1)).0 in
      let met_page = meeting_next met first.next in
      let others : FollowsMet pages.count (meeting_page met first) (entries_of three.0) =
      elim (first.next == 0) as (λ b. (first.next == 0) ≡ b → (if b then Ok [] else catalog_from n pages (meeting_page met first) first.next first.digest) ≡ Ok three.0 → FollowsMet pages.count (meeting_page met first) (entries_of three.0)) [
        | true ↦ λ last is. subst (λ (rest : Catalog). FollowsMet pages.count (meeting_page met first) (entries_of rest)) (ok_same [] three.0 is) tt
        | false ↦ λ more is. catalog_follows n (meeting_page met first) first.next first.digest three.0 (next_below pages.count met.pages first.next taken.next more) is
      ] refl three.1 in
      subst (λ (catalog : Catalog). FollowsMet pages.count met (entries_of catalog)) (ok_same made catalog three.2)
      (pages_apart pages.count met first.next (first.entries ++ entries_of three.0) (follow_on pages.count met_page first.entries (entries_of three.0) (follow pages.count met_page first.entries taken.entries) others))

-- the entries of a catalog that was found
pub entries_follow : (pages : Pages) (header : Header) (catalog : Catalog) → AreWhole pages → is_placed pages.count header ≡ true → catalog_of pages header ≡ Ok catalog → Follows pages.count set.empty 0 None 0 (entries_of catalog)
entries_follow pages header catalog whole placed is =
    catalog_follows pages whole most_pages (record nothing_met { pages = set.insert set.empty header.first }) header.first header.digest catalog
    (ltb-true header.first pages.count (both_true (nat_le 2 header.first) (nat_lt header.first pages.count) placed).1) is

-- ---- names

pub names_follow : (count : ℕ) (cars : Numbers) (train : ℕ) (name : Option (List ℕ)) (roots : ℕ) (entries : List CatEntry) → Follows count cars train name roots entries → NamesAscend name entries
names_follow count cars train name roots [] follows = tt
names_follow count cars train name roots (Car car now page digest ∷ entries) follows = names_follow count (set.insert cars car) now name roots entries follows.1
names_follow count cars train name roots (Root found at ∷ entries) follows = (follows.0, names_follow count cars train (Some found) (roots + 1) entries follows.2)

pub roots_few : (count : ℕ) (cars : Numbers) (train : ℕ) (name : Option (List ℕ)) (roots : ℕ) (entries : List CatEntry) → roots ≤ ROOTS → Follows count cars train name roots entries → roots + length (roots_in entries) ≤ ROOTS
roots_few count cars train name roots [] few follows = omega arith
roots_few count cars train name roots (Car car now page digest ∷ entries) few follows = roots_few count (set.insert cars car) now name roots entries few follows.1
roots_few count cars train name roots (Root found at ∷ entries) few follows =
    let less = follows.1 in
    let rest = roots_few count cars train (Some found) (roots + 1) entries (omega (arith, less)) follows.2 in
    omega (arith, rest)
