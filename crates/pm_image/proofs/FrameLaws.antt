-- What stands behind a header depends on the pages that it is found on, and on no others.
use Rattle.std.proofs.Common.{◌≡◌, ◌⊎◌, ℕ, zero, suc, ◌+◌, ◌<◌, Bool, true, false, not, ◌&&◌, ◌||◌, ◌==◌, nat_lt, nat_le, List, [], ◌∷◌, ◌++◌, length, map, Some, Result, Ok, Err, refl, sym, ap, subst, ◌∙◌, inl, inr, arith, if◌then◌else◌, slice_index, slice_range, is_none}
use Rattle.std.specs.FinSet as set
use Rattle.std.specs.Str.{bytes_eq}
use Rattle.sha2.specs.Sha256.{sha256}
use Rattle.std.proofs.lemmas.List.Elements.{Contains-append_left, Contains-append_right}
use Rattle.pm_types.specs.declared.fault.OpenFault.TheVariants.{Damaged}
use Rattle.pm_layout.specs.declared.header.Header.{Header}
use Rattle.pm_layout.specs.Reading.{number_from}
use Rattle.pm_image.specs.declared.catalog_kind.TheConstants.{ENTRIES, CAR_ENTRY_BYTES, ROOT_ENTRY_BYTES}
use Rattle.pm_image.specs.declared.catalog.CatEntry.{CatEntry}
use Rattle.pm_image.specs.declared.catalog.CatEntry.TheVariants.{Car, Root}
use Rattle.pm_image.specs.declared.catalog.CatalogPage.{CatalogPage}
use Rattle.pm_image.specs.declared.settled.KeptPage.{KeptPage}
use Rattle.pm_image.specs.Steps.{tested, magic_at, rest_at}
use Rattle.pm_image.specs.CarPages.{Numbers, CarScope, car_at}
use Rattle.pm_image.specs.CatalogPages.{Met, is_free_page, is_next_page, has_next_digest, meeting, meeting_next, meeting_page, car_entry_at, root_entry_at, entry_at, entries_at, catalog_at, catalog_magic}
use Rattle.pm_image.specs.Graphs.{images_of, Pages, Catalog, Graph, undamaged, on_page, catalog_from, catalog_of, entries_of, cars_from, with_identities, linked, sites_of, graph_of, used_pages, most_pages}
use Rattle.pm_image.specs.Opening.{Current, current}
use Rattle.pm_layout.specs.Headers.{most_fields}
use Rattle.pm_image.specs.Stands.{SamePages, Opened, opened, pages_of, copy_in, StandsForCopy}
use Rattle.pm_image.proofs.Results.{tested_ok, passed, both_true, not_false, true_not}
use Rattle.pm_types.proofs.Results.{ok_same, bind_ok, bound, if_ok, if_not}

absurd_bool : {A : Type 0} → true ≡ false → A
absurd_bool is = cc

-- the cars that are listed stand on pages below a count
abbrev pub AreBelow : ℕ → List CatEntry → Type 0
AreBelow count [] = Unit {0}
AreBelow count (Car car train page digest ∷ entries) = (page < count) × AreBelow count entries
AreBelow count (Root name at ∷ entries) = AreBelow count entries

below_lt : (a b : ℕ) → a < b → nat_lt a b ≡ true
below_lt a b lt = grind (arith)

-- a page that is free in one store is so in another that has it
free_too : (a b : ℕ) (met : Numbers) (page : ℕ) → is_free_page (Some a) met page ≡ true → page < b → is_free_page (Some b) met page ≡ true
free_too a b met page is lt =
    let parts = both_true (nat_le 2 page) (nat_lt page a && not (set.contains met page)) is in
    let last = both_true (nat_lt page a) (not (set.contains met page)) parts.1 in
    ap (λ x. x && (nat_lt page b && not (set.contains met page))) parts.0 ∙ ap (λ x. x && not (set.contains met page)) (below_lt page b lt) ∙ last.1

-- an entry that lists no car on a page past the count
abbrev pub IsBelow : ℕ → CatEntry → Type 0
IsBelow count (Car car train page digest) = page < count
IsBelow count (Root name at) = Unit {0}

entry_car : (e : CatEntry) (end : ℕ) (f : CatEntry) (last : ℕ) → ◌≡◌ {A = Result (CatEntry × ℕ) ℕ} (Ok (e, end)) (Ok (f, last)) → e ≡ f
entry_car e end f last is = ap (λ (p : CatEntry × ℕ). p.0) (ok_same {A = CatEntry × ℕ} (e, end) (f, last) is)

module _ (a b : ℕ) where
  -- the entry of a car is read alike where both stores have its page
  car_entry_too : (met : Met) (page : List ℕ) (place : ℕ) (r : CatEntry × ℕ) → car_entry_at (Some a) met page place ≡ Ok r → IsBelow b r.0 → car_entry_at (Some b) met page place ≡ Ok r
  unfolding car_entry_at
  car_entry_too met page place r is below =
      let car = number_from 8 page (place + 1) in
      let train = number_from 8 page (place + 9) in
      let at = number_from 8 page (place + 17) in
      let read = Car car train at (slice_range page (place + 25) (place + CAR_ENTRY_BYTES)) in
      let one = if_ok ((car == 0) || set.contains met.cars car) (place + 1) _ r is in
      let two = if_ok (nat_lt train met.train) (place + 9) _ r one.1 in
      let three = if_ok (not (is_free_page (Some a) met.pages at)) (place + 17) _ r two.1 in
      let same = entry_car read (place + CAR_ENTRY_BYTES) r.0 r.1 three.1 in
      let lt = subst (IsBelow b) (sym same) below in
      if_not _ _ _ _ one.0 (if_not _ _ _ _ two.0 (if_not _ _ _ _ (true_not _ (free_too a b met.pages at (not_false _ three.0) lt)) three.1))

  -- and that of a root anyway
  root_entry_too : (met : Met) (page : List ℕ) (place : ℕ) (r : CatEntry × ℕ) → root_entry_at (Some a) met page place ≡ Ok r → root_entry_at (Some b) met page place ≡ Ok r
  unfolding root_entry_at
  root_entry_too met page place r is = is

  entry_too : (met : Met) (page : List ℕ) (place : ℕ) (r : CatEntry × ℕ) → entry_at (Some a) met page place ≡ Ok r → IsBelow b r.0 → entry_at (Some b) met page place ≡ Ok r
  unfolding entry_at
  entry_too met page place r is below = of_kind (slice_index page place == 1) (slice_index page place == 2) is
    where
      of_kind : (car root : Bool)
          → (if car then (if nat_lt (length page) (place + CAR_ENTRY_BYTES) || not (is_none met.name) then Err place else car_entry_at (Some a) met page place) else
          if root then (if nat_lt (length page) (place + ROOT_ENTRY_BYTES + slice_index page (place + 1)) then Err place else root_entry_at (Some a) met page place) else Err place) ≡ Ok r
          → (if car then (if nat_lt (length page) (place + CAR_ENTRY_BYTES) || not (is_none met.name) then Err place else car_entry_at (Some b) met page place) else
          if root then (if nat_lt (length page) (place + ROOT_ENTRY_BYTES + slice_index page (place + 1)) then Err place else root_entry_at (Some b) met page place) else Err place) ≡ Ok r
      of_kind true root is = let parts = if_ok _ place _ r is in if_not _ _ _ _ parts.0 (car_entry_too met page place r parts.1 below)
      of_kind false true is = let parts = if_ok _ place _ r is in if_not _ _ _ _ parts.0 (root_entry_too met page place r parts.1)
      of_kind false false is = cc

  below_first : (first : CatEntry) (others : List CatEntry) → AreBelow b (first ∷ others) → IsBelow b first × AreBelow b others
  below_first (Car car train page digest) others below = below
  below_first (Root name at) others below = (tt, below)

  entries_too : (met : Met) (page : List ℕ) (n place : ℕ) (r : List CatEntry × ℕ) → entries_at (Some a) met page n place ≡ Ok r → AreBelow b r.0 → entries_at (Some b) met page n place ≡ Ok r
  unfolding entries_at
  entries_too met page zero place r is below = is
  entries_too met page (suc n) place r is below =
      let one = bind_ok (entry_at (Some a) met page place) _ r is in
      let first = one.0 in
      let two = bind_ok (entries_at (Some a) (meeting met first.0) page n first.1) _ r one.2 in
      let others = two.0 in
      let same = ap (λ (p : List CatEntry × ℕ). p.0) (ok_same {A = List CatEntry × ℕ} (first.0 ∷ others.0, others.1) r two.2) in
      let parts = below_first first.0 others.0 (subst (AreBelow b) (sym same) below) in
      bound _ _ first _ (entry_too met page place first one.1 parts.0) (bound _ _ others _ (entries_too (meeting met first.0) page n first.1 others two.1 parts.1) two.2)

  -- a page of the catalog is read alike where both stores have the pages that it names
  pub catalog_too : (met : Met) (page : List ℕ) (r : CatalogPage) → catalog_at (Some a) met page ≡ Ok r → ((r.next ≡ 0) ⊎ (r.next < b)) → AreBelow b r.entries → catalog_at (Some b) met page ≡ Ok r
  unfolding catalog_at
  catalog_too met page r is next below =
      let one = bind_ok (magic_at catalog_magic page) _ r is in
      let two = bind_ok (tested (is_next_page (Some a) met.pages (number_from 8 page 4)) 4) _ r one.2 in
      let three = bind_ok (tested (has_next_digest (number_from 8 page 4) (slice_range page 12 44)) 12) _ r two.2 in
      let four = bind_ok (entries_at (Some a) (meeting_next met (number_from 8 page 4)) page (number_from 2 page 44) ENTRIES) _ r three.2 in
      let five = bind_ok (rest_at page four.0.1) _ r four.2 in
      let made : CatalogPage = record { next = number_from 8 page 4; digest = slice_range page 12 44; entries = four.0.0 } in
      let same : made ≡ r = ok_same made r five.2 in
      let free = next_too met.pages (number_from 8 page 4) (tested_ok _ 4 two.0 two.1) (subst (λ (c : CatalogPage). (c.next ≡ 0) ⊎ (c.next < b)) (sym same) next) in
      bound _ _ one.0 _ one.1
      (bound _ _ tt _ (passed _ 4 free)
      (bound _ _ three.0 _ three.1
      (bound _ _ four.0 _ (entries_too (meeting_next met (number_from 8 page 4)) page (number_from 2 page 44) ENTRIES four.0 four.1 (subst (λ (c : CatalogPage). AreBelow b c.entries) (sym same) below))
      (bound _ _ five.0 _ five.1 five.2))))
    where
      lt_of : (next : ℕ) → (next == 0) ≡ false → ((next ≡ 0) ⊎ (next < b)) → next < b
      lt_of next some (inl none) = absurd_bool (sym (ap (λ n. n == 0) none) ∙ some)
      lt_of next some (inr lt) = lt

      by_zero : (met : Numbers) (next : ℕ) (is_zero : Bool) → (next == 0) ≡ is_zero → ((next ≡ 0) ⊎ (next < b))
          → (is_zero || is_free_page (Some a) met next) ≡ true → (is_zero || is_free_page (Some b) met next) ≡ true
      by_zero met next true e lt is = refl
      by_zero met next false e lt is = free_too a b met next is (lt_of next e lt)

      next_too : (met : Numbers) (next : ℕ) → is_next_page (Some a) met next ≡ true → ((next ≡ 0) ⊎ (next < b)) → is_next_page (Some b) met next ≡ true
      next_too met next is lt = by_zero met next (next == 0) refl lt is

-- the pages of a list are alike in two stores, and pages of the second
abbrev pub AreAlike : List ℕ → Pages → Pages → Type 0
AreAlike [] a b = Unit {0}
AreAlike (page ∷ pages) a b = (page < b.count) × (b.page page ≡ a.page page) × AreAlike pages a b

pub alike : (used : List ℕ) (a b : Pages) → SamePages used a b → AreAlike used a b
alike [] a b same = tt
alike (page ∷ pages) a b same =
    let here = same page (Contains-append_left (page ∷ []) pages page (0, omega arith, refl)) in
    (here.0, here.1, alike pages a b (λ p in_. same p (Contains-append_right (page ∷ []) pages p in_)))

alike_front : (xs ys : List ℕ) (a b : Pages) → AreAlike (xs ++ ys) a b → AreAlike xs a b
alike_front [] ys a b same = tt
alike_front (x ∷ xs) ys a b same = (same.0, same.1, alike_front xs ys a b same.2)

alike_back : (xs ys : List ℕ) (a b : Pages) → AreAlike (xs ++ ys) a b → AreAlike ys a b
alike_back [] ys a b same = same
alike_back (x ∷ xs) ys a b same = alike_back xs ys a b same.2

below_front : (count : ℕ) (xs ys : List CatEntry) → AreBelow count (xs ++ ys) → AreBelow count xs
below_front count [] ys below = tt
below_front count (Car car train page digest ∷ xs) ys below = (below.0, below_front count xs ys below.1)
below_front count (Root name at ∷ xs) ys below = below_front count xs ys below

below_back : (count : ℕ) (xs ys : List CatEntry) → AreBelow count (xs ++ ys) → AreBelow count ys
below_back count [] ys below = below
below_back count (Car car train page digest ∷ xs) ys below = below_back count xs ys below.1
below_back count (Root name at ∷ xs) ys below = below_back count xs ys below

undamaged_too : (a b : Pages) (page : ℕ) (kept : List ℕ) (u : Unit {0}) → undamaged a page kept ≡ Ok u → b.page page ≡ a.page page → undamaged b page kept ≡ Ok u
undamaged_too a b page kept u is same =
    ap (λ (bytes : List ℕ). if bytes_eq kept (sha256 bytes) then Ok tt else Err (Damaged page kept (sha256 bytes))) same ∙ is

on_page_ok : {A : Type 0} (page : ℕ) (read : Result A ℕ) (x : A) → on_page page read ≡ Ok x → read ≡ Ok x
on_page_ok page (Ok y) x is = ap Ok (ok_same y x is)
on_page_ok page (Err at) x is = cc

abbrev pub page_numbers : Catalog → List ℕ
page_numbers catalog = map (λ (page : ℕ × CatalogPage). page.0) catalog

abbrev pub car_pages : List KeptPage → List ℕ
car_pages cars = map (λ (kept : KeptPage). kept.page) cars

-- a chain begins with the page that it was looked for at
begins : (n : ℕ) (pages : Pages) (met : Met) (page : ℕ) (kept : List ℕ) (catalog : Catalog) → catalog_from n pages met page kept ≡ Ok catalog
    → (first : CatalogPage) × (others : Catalog) × (catalog ≡ (page, first) ∷ others)
unfolding catalog_from
begins zero pages met page kept catalog is = cc
begins (suc n) pages met page kept catalog is =
    let one = bind_ok (undamaged pages page kept) _ catalog is in
    let two = bind_ok (on_page page (catalog_at (Some pages.count) met (pages.page page))) _ catalog one.2 in
    let three = bind_ok (if two.0.next == 0 then Ok [] else catalog_from n pages (meeting_page met two.0) two.0.next two.0.digest) _ catalog two.2 in
    (two.0, three.0, sym (ok_same {A = Catalog} ((page, two.0) ∷ three.0) catalog three.2))

zero_or : (n : ℕ) → (n ≡ 0) ⊎ ((n == 0) ≡ false)
zero_or zero = inl refl
zero_or (suc n) = inr (grind (arith))

module _ (a b : Pages) where
  -- the tail of a chain, where the chain is read alike
  tail_too : (n : ℕ) (met : Met) (first : CatalogPage) (others : Catalog)
      → (catalog_from n a (meeting_page met first) first.next first.digest ≡ Ok others → catalog_from n b (meeting_page met first) first.next first.digest ≡ Ok others)
      → (ends : Bool) → (if ends then Ok [] else catalog_from n a (meeting_page met first) first.next first.digest) ≡ Ok others
      → (if ends then Ok [] else catalog_from n b (meeting_page met first) first.next first.digest) ≡ Ok others
  tail_too n met first others again true is = is
  tail_too n met first others again false is = again is

  next_of : (n : ℕ) (met : Met) (first : CatalogPage) (others : Catalog) → AreAlike (page_numbers others) a b
      → (if first.next == 0 then Ok [] else catalog_from n a (meeting_page met first) first.next first.digest) ≡ Ok others → (first.next ≡ 0) ⊎ (first.next < b.count)
  next_of n met first others same is = elim (zero_or first.next) [
    | inl none ↦ inl none
    | inr some ↦
        let tail : catalog_from n a (meeting_page met first) first.next first.digest ≡ Ok others
        = sym (ap (λ z. if z then Ok [] else catalog_from n a (meeting_page met first) first.next first.digest) some) ∙ is in
        let begun = begins n a (meeting_page met first) first.next first.digest others tail in
        inr ((subst (λ (c : Catalog). AreAlike (page_numbers c) a b) begun.2 same).0)
  ]

  -- a chain is read alike where its pages are alike
  chain_too : (n : ℕ) (met : Met) (page : ℕ) (kept : List ℕ) (catalog : Catalog) → catalog_from n a met page kept ≡ Ok catalog
      → AreAlike (page_numbers catalog) a b → AreBelow b.count (entries_of catalog) → catalog_from n b met page kept ≡ Ok catalog
  unfolding catalog_from
  chain_too zero met page kept catalog is same below = cc
  chain_too (suc n) met page kept catalog is same below =
      let one = bind_ok (undamaged a page kept) _ catalog is in
      let two = bind_ok (on_page page (catalog_at (Some a.count) met (a.page page))) _ catalog one.2 in
      let first = two.0 in
      let three = bind_ok (if first.next == 0 then Ok [] else catalog_from n a (meeting_page met first) first.next first.digest) _ catalog two.2 in
      let others = three.0 in
      let whole : ◌≡◌ {A = Catalog} ((page, first) ∷ others) catalog = ok_same {A = Catalog} ((page, first) ∷ others) catalog three.2 in
      let same_here : AreAlike (page ∷ page_numbers others) a b = subst (λ (c : Catalog). AreAlike (page_numbers c) a b) (sym whole) same in
      let below_here : AreBelow b.count (first.entries ++ entries_of others) = subst (λ (c : Catalog). AreBelow b.count (entries_of c)) (sym whole) below in
      let read = catalog_too a.count b.count met (a.page page) first (on_page_ok page _ first two.1) (next_of n met first others same_here.2 three.1) (below_front b.count first.entries (entries_of others) below_here) in
      bound _ _ one.0 _ (undamaged_too a b page kept one.0 one.1 same_here.1)
      (bound _ _ first _ (ap (λ (bytes : List ℕ). on_page page (catalog_at (Some b.count) met bytes)) same_here.1 ∙ ap (on_page page) read)
      (bound _ _ others _
      (tail_too n met first others
      (λ tail. chain_too n (meeting_page met first) first.next first.digest others tail same_here.2 (below_back b.count first.entries (entries_of others) below_here))
      (first.next == 0) three.1)
      three.2))

  -- the cars are read alike where their pages are alike
  cars_too : (most next : ℕ) (met : Numbers) (entries : List CatEntry) (cars : List KeptPage) → cars_from most next a met entries ≡ Ok cars → AreAlike (car_pages cars) a b
      → (cars_from most next b met entries ≡ Ok cars) × AreBelow b.count entries
  unfolding cars_from
  cars_too most next met [] cars is same = (is, tt)
  cars_too most next met (Root name at ∷ entries) cars is same = cars_too most next met entries cars is same
  cars_too most next met (Car car train page digest ∷ entries) cars is same =
      let scope : CarScope = record { most = most; next = next; number = Some car } in
      let one = bind_ok (undamaged a page digest) _ cars is in
      let two = bind_ok (on_page page (car_at scope met (a.page page))) _ cars one.2 in
      let image = two.0 in
      let three = bind_ok (cars_from most next a (with_identities met image.slots) entries) _ cars two.2 in
      let others = three.0 in
      let first : KeptPage = record { image = image; page = page; digest = digest } in
      let whole : ◌≡◌ {A = List KeptPage} (first ∷ others) cars = ok_same {A = List KeptPage} (first ∷ others) cars three.2 in
      let same_here : AreAlike (page ∷ car_pages others) a b = subst (λ (c : List KeptPage). AreAlike (car_pages c) a b) (sym whole) same in
      let rest = cars_too most next (with_identities met image.slots) entries others three.1 same_here.2 in (
        bound _ _ one.0 _ (undamaged_too a b page digest one.0 one.1 same_here.1)
            (bound _ _ image _ (ap (λ (bytes : List ℕ). on_page page (car_at scope met bytes)) same_here.1 ∙ two.1)
            (bound _ _ others _ rest.0 three.2)),
        (same_here.0, rest.1),
      )

  -- what stands behind a header is found alike
  pub graph_too : (header : Header) (graph : Graph) → graph_of a header ≡ Ok graph → SamePages (used_pages graph) a b → graph_of b header ≡ Ok graph
  unfolding graph_of
  graph_too header graph is same =
      let one = bind_ok (catalog_of a header) _ graph is in
      let catalog = one.0 in
      let two = bind_ok (cars_from (most_fields header.version) header.next a set.empty (entries_of catalog)) _ graph one.2 in
      let cars = two.0 in
      let three = bind_ok (linked (images_of cars) (sites_of catalog cars)) _ graph two.2 in
      let made : Graph = record { catalog = catalog; cars = cars } in
      let whole : made ≡ graph = ok_same made graph three.2 in
      let pages = alike (used_pages made) a b (subst (λ (g : Graph). SamePages (used_pages g) a b) (sym whole) same) in
      let read = cars_too (most_fields header.version) header.next set.empty (entries_of catalog) cars two.1 (alike_back (page_numbers catalog) (car_pages cars) a b pages) in
      bound _ _ catalog _ (chain_too most_pages _ header.first header.digest catalog one.1 (alike_front (page_numbers catalog) (car_pages cars) a b pages) read.1)
      (bound _ _ cars _ read.0 (bound _ _ three.0 _ three.1 three.2))

-- what opening found stands behind the current header
pub found_of : (bytes : List ℕ) (found : Opened) → opened bytes ≡ Ok found → (current bytes ≡ Ok found.current) × (graph_of (pages_of bytes) found.current.header ≡ Ok found.graph)
unfolding opened
found_of bytes found is =
    let one = bind_ok (current bytes) _ found is in
    let two = bind_ok (graph_of (pages_of bytes) one.0.header) _ found one.2 in
    let made : Opened = record { current = one.0; graph = two.0 } in
    let whole : made ≡ found = ok_same made found two.2 in (
      one.1 ∙ ap (λ (o : Opened). Ok o.current) whole,
      subst (λ (o : Opened). graph_of (pages_of bytes) o.current.header ≡ Ok o.graph) whole two.1,
    )

-- what stands behind the current header is what opening finds
pub opened_as : (bytes : List ℕ) (now : Current) (graph : Graph) → current bytes ≡ Ok now → graph_of (pages_of bytes) now.header ≡ Ok graph → opened bytes ≡ Ok (record { current = now; graph = graph })
unfolding opened
opened_as bytes now graph is_current is_graph = bound _ _ now _ is_current (bound _ _ graph _ is_graph refl)

-- bytes with the same current header, and the same pages behind it, stand for the same copy
pub bytes_too : (a b : List ℕ) (found : Opened) (slot : ℕ) → opened a ≡ Ok found → current b ≡ Ok (record { slot = slot; header = found.current.header })
    → SamePages (used_pages found.graph) (pages_of a) (pages_of b) → StandsForCopy b found.current.header.epoch (copy_in found)
bytes_too a b found slot is is_current same =
    let behind = (found_of a found is).1 in
    record {
      found = record { current = record { slot = slot; header = found.current.header }; graph = found.graph };
      is_found = opened_as b (record { slot = slot; header = found.current.header }) found.graph is_current
          (graph_too (pages_of a) (pages_of b) found.current.header found.graph behind same);
      is_number = refl;
      is_copy = refl;
    }
