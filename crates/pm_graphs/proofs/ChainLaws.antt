-- The pages of a catalog, read one after another.
use Rattle.std.proofs.Common.{Contains, ◌≡◌, ℕ, zero, suc, ◌+◌, ◌-◌, ◌<◌, ◌≤◌, ◌^◌, Bool, true, false, not, ◌&&◌, ◌||◌, ◌==◌, nat_lt, nat_le, List, [], ◌∷◌, ◌++◌, length, take, get_or, Option, Some, None, Result, Ok, Err, refl, sym, ap, subst, ◌∙◌, append_assoc, arith, if◌then◌else◌}
use Rattle.std.specs.List.{AllByRecursion}
use Rattle.std.proofs.lemmas.List.{append-nil, map-append}
use Rattle.std.proofs.lemmas.Bool.Decides.{nat_tests}
use Rattle.std.specs.FinSet as set
use Rattle.pm_types.specs.declared.limits.TheConstants.{ROOTS, PAGE_BYTES}
use Rattle.pm_types.specs.declared.fault.OpenFault.{OpenFault}
use Rattle.pm_types.specs.declared.fault.OpenFault.TheVariants.{NotAStore}
use Rattle.pm_image.specs.declared.catalog.CatEntry.{CatEntry}
use Rattle.pm_image.specs.declared.catalog.CatEntry.TheVariants.{Car, Root}
use Rattle.pm_image.specs.declared.catalog.CatalogPage.{CatalogPage}
use Rattle.pm_image.specs.declared.settled.KeptPage.{KeptPage}
use Rattle.pm_types.specs.Results.{◌>>=◌}
use Rattle.pm_image.specs.CarPages.{Numbers}
use Rattle.pm_image.specs.CatalogPages.{Met, meeting, meeting_next, meeting_all, meeting_page, is_free_page, HasCatalogPage, AreNext, catalog_at, catalog_used}
use Rattle.pm_image.specs.Graphs.{Pages as Store, Catalog, undamaged, on_page, catalog_from, catalog_of, entries_of, most_pages}
use Rattle.pm_layout.specs.declared.header.Header.{Header}
use Rattle.pm_image.specs.Opening.{is_placed}
use Rattle.pm_image.proofs.RuleLaws.{catalog_fault}
use Rattle.pm_image.proofs.Results.{both_true}
use Rattle.pm_types.proofs.Fronts.{with_front, regroup}
use Rattle.pm_types.proofs.Results.{bind_ok, bound, err_same}
use Rattle.pm_graphs.specs.declared.fault.ReadFault.{ReadFault}
use Rattle.pm_graphs.specs.Reading.{Fails, link_at, IsThere, IsEntryThere, IsEntryNamed, root_count, page_numbers, IsSound, MayFollow, AreRead, LeadsOn, car_list, with_car}
use Rattle.pm_graphs.proofs.Faults.{fails_too}
use Rattle.pm_graphs.proofs.Lists.{all_both}

-- the pages behind the first
abbrev others_of : ℕ → Store → Met → CatalogPage → Result Catalog OpenFault
others_of n store met first = if first.next == 0 then Ok [] else catalog_from n store (meeting_page met first) first.next first.digest

-- a link that was read goes to the front
step : (n : ℕ) (store : Store) (met : Met) (page : ℕ) (kept : List ℕ) (first : CatalogPage) (front : Catalog) → link_at store met page kept ≡ Ok first
    → with_front front (catalog_from (suc n) store met page kept) ≡ with_front (front ++ (page, first) ∷ []) (others_of n store met first)
unfolding catalog_from link_at
step n store met page kept first front is =
    let one = bind_ok (undamaged store page kept) _ first is in
    ap (with_front front) (bound (undamaged store page kept) _ one.0 _ one.1 (bound (on_page page (catalog_at (Some store.count) met (store.page page))) _ first _ one.2 refl))
    ∙ regroup front (page, first) (others_of n store met first)

zero_not : (n : ℕ) → (n ≡ 0 → ⊥) → (n == 0) ≡ false
zero_not zero some = absurd (some refl)
zero_not (suc n) some = grind (arith, nat_tests)

placed_in : (count : ℕ) (header : Header) → 2 ≤ header.first → header.first < count → is_placed count header ≡ true
placed_in count header low high =
    let from_2 : nat_le 2 header.first ≡ true = grind (arith, nat_tests) in
    let below : nat_lt header.first count ≡ true = grind (arith, nat_tests) in
    λ i. from_2 i && below i

-- a chain that is too long is none: no answer of the rules says so
pub never_long : (store : Store) (header : Header) → store.count ≤ 2 ^ 64 → IsThere store.count header.first → catalog_of store header ≡ Err NotAStore → ⊥
never_long store header few there is = catalog_fault store header NotAStore few (placed_in store.count header there.from_2 there.there) is

-- one of two steps failed
fails_pair : {A B C : Type 0} (first : Result A OpenFault) (second : Result B OpenFault) (rest : B → Result C OpenFault) (fault : OpenFault)
    → (first >>= λ a. second) ≡ Err fault → (first >>= λ a. second >>= rest) ≡ Err fault
fails_pair {A} {B} {C} (Err e) second rest fault is = ap (λ (e : OpenFault). Err e) (err_same {A = B} e fault is)
fails_pair {A} {B} {C} (Ok a) (Err e) rest fault is = ap (λ (e : OpenFault). Err e) (err_same {A = B} e fault is)
fails_pair (Ok a) (Ok b) rest fault is = cc

link_fault : (n : ℕ) (store : Store) (met : Met) (page : ℕ) (kept : List ℕ) (fault : OpenFault) → link_at store met page kept ≡ Err fault → catalog_from (suc n) store met page kept ≡ Err fault
unfolding catalog_from link_at
link_fault n store met page kept fault is = fails_pair (undamaged store page kept) (on_page page (catalog_at (Some store.count) met (store.page page))) _ fault is

link_fails : (n : ℕ) (store : Store) (met : Met) (page : ℕ) (kept : List ℕ) (front : Catalog) (fault : ReadFault) → Fails {X = CatalogPage} fault (link_at store met page kept)
    → Fails {X = Catalog} fault (with_front front (catalog_from (suc n) store met page kept))
link_fails n store met page kept front fault is =
    fails_too {A = CatalogPage} {B = Catalog} fault (link_at store met page kept) (with_front front (catalog_from (suc n) store met page kept)) (λ e failed. ap (with_front front) (link_fault n store met page kept e failed)) is

module _ (store : Store) (i : ℕ) (met : Met) (page : ℕ) (kept : List ℕ) (front : Catalog) (total : Result Catalog OpenFault) where
  rest_of : i < most_pages → with_front front (catalog_from (most_pages - i) store met page kept) ≡ total → with_front front (catalog_from (suc (most_pages - (i + 1))) store met page kept) ≡ total
  rest_of lt so_far =
      let k : most_pages - i ≡ suc (most_pages - (i + 1)) = omega arith in
      ap (λ (n : ℕ). with_front front (catalog_from n store met page kept)) (sym k) ∙ so_far

  -- one page more was read
  pub chain_on : (first : CatalogPage) → i < most_pages → link_at store met page kept ≡ Ok first → (first.next ≡ 0 → ⊥) → with_front front (catalog_from (most_pages - i) store met page kept) ≡ total
      → with_front (front ++ (page, first) ∷ []) (catalog_from (most_pages - (i + 1)) store (meeting_page met first) first.next first.digest) ≡ total
  chain_on first lt is some so_far =
      ap (λ (b : Bool). with_front (front ++ (page, first) ∷ []) (if b then Ok [] else catalog_from (most_pages - (i + 1)) store (meeting_page met first) first.next first.digest)) (sym (zero_not first.next some))
      ∙ sym (step (most_pages - (i + 1)) store met page kept first front is) ∙ rest_of lt so_far

  -- the last page was read
  pub chain_done : (first : CatalogPage) → i < most_pages → link_at store met page kept ≡ Ok first → first.next ≡ 0 → with_front front (catalog_from (most_pages - i) store met page kept) ≡ total
      → total ≡ Ok (front ++ (page, first) ∷ [])
  chain_done first lt is none so_far =
      sym (rest_of lt so_far) ∙ step (most_pages - (i + 1)) store met page kept first front is
      ∙ ap (λ (n : ℕ). with_front (front ++ (page, first) ∷ []) (if n == 0 then Ok [] else catalog_from (most_pages - (i + 1)) store (meeting_page met first) first.next first.digest)) none
      ∙ ap Ok (append-nil (front ++ (page, first) ∷ []))

  -- a page was refused
  pub chain_ends : (fault : ReadFault) → i < most_pages → Fails {X = CatalogPage} fault (link_at store met page kept) → with_front front (catalog_from (most_pages - i) store met page kept) ≡ total
      → Fails {X = Catalog} fault total
  chain_ends fault lt is so_far =
      subst (λ (r : Result Catalog OpenFault). Fails {X = Catalog} fault r) (rest_of lt so_far) (link_fails (most_pages - (i + 1)) store met page kept front fault is)

  -- there are more pages than any store has
  pub chain_long : most_pages ≤ i → with_front front (catalog_from (most_pages - i) store met page kept) ≡ total → total ≡ Err NotAStore
  unfolding catalog_from
  chain_long le so_far =
      let k : most_pages - i ≡ 0 = omega arith in
      sym so_far ∙ ap (λ (n : ℕ). with_front front (catalog_from n store met page kept)) k

-- ---- what is known of the pages

free_there : (count : ℕ) (met : Numbers) (page : ℕ) → is_free_page (Some count) met page ≡ true → IsThere count page
free_there count met page is =
    let one = both_true (nat_le 2 page) (nat_lt page count && not (set.contains met page)) is in
    let two = both_true (nat_lt page count) (not (set.contains met page)) one.1 in
    let low = one.0 in
    let high = two.0 in
    record { from_2 = grind (arith, nat_tests); there = grind (arith, nat_tests) }

entries_there : (count : ℕ) (met : Met) (entries : List CatEntry) → AreNext (Some count) met entries → AllByRecursion (IsEntryThere count) entries
entries_there count met [] next = tt
entries_there count met (Car car train page digest ∷ entries) next = (free_there count met.pages page next.0.free, entries_there count (meeting met (Car car train page digest)) entries next.1)
entries_there count met (Root name at ∷ entries) next = (tt, entries_there count (meeting met (Root name at)) entries next.1)

entries_named : (count : ℕ) (met : Met) (entries : List CatEntry) → AreNext (Some count) met entries → AllByRecursion IsEntryNamed entries
entries_named count met [] next = tt
entries_named count met (Car car train page digest ∷ entries) next = (tt, entries_named count (meeting met (Car car train page digest)) entries next.1)
entries_named count met (Root name at ∷ entries) next = (next.0.named, entries_named count (meeting met (Root name at)) entries next.1)

roots_met : (count : ℕ) (met : Met) (entries : List CatEntry) (before : ℕ) → AreNext (Some count) met entries → met.roots ≤ ROOTS → met.roots ≡ before
    → ((meeting_all met entries).roots ≡ before + root_count entries) × ((meeting_all met entries).roots ≤ ROOTS)
roots_met count met [] before next few is = (omega (arith, is), few)
roots_met count met (Car car train page digest ∷ entries) before next few is = roots_met count (meeting met (Car car train page digest)) entries before next.1 few is
roots_met count met (Root name at ∷ entries) before next few is =
    let left = next.0.left in
    let lt : met.roots < ROOTS = grind (arith, nat_tests) in
    let rest = roots_met count (meeting met (Root name at)) entries (before + 1) next.1 (omega arith) (ap (λ (n : ℕ). n + 1) is) in
    (omega (arith, rest.0), rest.1)

pub next_there : (count : ℕ) (met : Met) (read : CatalogPage) → HasCatalogPage (Some count) met read → (read.next ≡ 0 → ⊥) → IsThere count read.next
next_there count met read has some =
    free_there count met.pages read.next (ap (λ (b : Bool). b || is_free_page (Some count) met.pages read.next) (sym (zero_not read.next some)) ∙ has.next)

-- meeting a next page meets no root
same_roots : (met : Met) (next : ℕ) → (meeting_next met next).roots ≡ met.roots
same_roots met zero = refl
same_roots met (suc next) = refl

entries_both : (xs ys : Catalog) → entries_of (xs ++ ys) ≡ entries_of xs ++ entries_of ys
entries_both [] ys = refl
entries_both (x ∷ xs) ys = ap (λ (rest : List CatEntry). x.1.entries ++ rest) (entries_both xs ys) ∙ sym (append_assoc x.1.entries (entries_of xs) (entries_of ys))

pub numbers_both : (xs ys : Catalog) → page_numbers (xs ++ ys) ≡ page_numbers xs ++ page_numbers ys
numbers_both [] ys = refl
numbers_both (x ∷ xs) ys = ap (λ (rest : List ℕ). x.0 ∷ rest) (numbers_both xs ys)

count_both : (xs ys : List CatEntry) → root_count (xs ++ ys) ≡ root_count xs + root_count ys
count_both [] ys = omega arith
count_both (Car car train page digest ∷ xs) ys = count_both xs ys
count_both (Root name at ∷ xs) ys = let rest = count_both xs ys in omega (arith, rest)

one_more : (front : Catalog) (page : ℕ) (read : CatalogPage) → entries_of (front ++ (page, read) ∷ []) ≡ entries_of front ++ read.entries
one_more front page read = entries_both front ((page, read) ∷ []) ∙ ap (λ (es : List CatEntry). entries_of front ++ es) (append-nil read.entries)

-- the roots that were met are those that are listed
pub roots_on : (count : ℕ) (met : Met) (front : Catalog) (page : ℕ) (read : CatalogPage) → HasCatalogPage (Some count) met read → IsSound count front → met.roots ≡ root_count (entries_of front)
    → ((meeting_page met read).roots ≡ root_count (entries_of (front ++ (page, read) ∷ []))) × ((meeting_page met read).roots ≤ ROOTS)
roots_on count met front page read has sound is =
    let same = same_roots met read.next in
    let few : (meeting_next met read.next).roots ≤ ROOTS = omega (arith, same, is, sound.roots) in
    let all = roots_met count (meeting_next met read.next) read.entries (root_count (entries_of front)) has.entries few (same ∙ is) in
    (all.0 ∙ sym (count_both (entries_of front) read.entries) ∙ ap root_count (sym (one_more front page read)), all.1)

pub sound_on : (count : ℕ) (met : Met) (front : Catalog) (page : ℕ) (read : CatalogPage) → HasCatalogPage (Some count) met read → IsThere count page → IsSound count front → met.roots ≡ root_count (entries_of front)
    → IsSound count (front ++ (page, read) ∷ [])
sound_on count met front page read has there sound is =
    let roots = roots_on count met front page read has sound is in
    record {
      fits = all_both (λ (page : ℕ × CatalogPage). catalog_used page.1.entries ≤ PAGE_BYTES) front ((page, read) ∷ []) sound.fits (has.fits, tt);
      pages = subst (λ (ps : List ℕ). AllByRecursion (IsThere count) ps) (sym (numbers_both front ((page, read) ∷ []))) (all_both (IsThere count) (page_numbers front) (page ∷ []) sound.pages (there, tt));
      entries = subst (λ (es : List CatEntry). AllByRecursion (IsEntryThere count) es) (sym (one_more front page read))
          (all_both (IsEntryThere count) (entries_of front) read.entries sound.entries (entries_there count (meeting_next met read.next) read.entries has.entries));
      names = subst (λ (es : List CatEntry). AllByRecursion IsEntryNamed es) (sym (one_more front page read))
          (all_both IsEntryNamed (entries_of front) read.entries sound.names (entries_named count (meeting_next met read.next) read.entries has.entries));
      roots = omega (arith, roots.0, roots.1);
    }

-- the page that the chain begins with is one of its pages, once the next one was read
pub begun_on : (catalog : Catalog) (page first : ℕ) (read : CatalogPage) → Contains (page_numbers catalog ++ page ∷ []) first → Contains (page_numbers (catalog ++ (page, read) ∷ [])) first
begun_on catalog page first read begun = subst (λ (pages : List ℕ). Contains pages first) (sym (map-append (λ (link : ℕ × CatalogPage). link.0) catalog ((page, read) ∷ []))) begun

-- ---- each entry follows those before it

follows : (count : ℕ) (met : Met) (entries more : List CatEntry) → AreNext (Some count) met entries → MayFollow (meeting_all met entries).cars (meeting_all met entries).train (meeting_all met entries).name more → MayFollow met.cars met.train met.name (entries ++ more)
follows count met [] more next is = is
follows count met (Car car train page digest ∷ entries) more next is = (next.0.numbered, next.0.other, next.0.in_order, follows count (meeting met (Car car train page digest)) entries more next.1 is)
follows count met (Root name at ∷ entries) more next is = (next.0.in_order, follows count (meeting met (Root name at)) entries more next.1 is)

-- which page comes next does not matter
whatever_next : (met : Met) (next : ℕ) (entries : List CatEntry) → MayFollow (meeting_next met next).cars (meeting_next met next).train (meeting_next met next).name entries → MayFollow met.cars met.train met.name entries
whatever_next met zero entries is = is
whatever_next met (suc next) entries is = is

-- once a page was read its entries follow those before it, and so does what follows them
pub follow_more : (count : ℕ) (met : Met) (front : Catalog) (page : ℕ) (read : CatalogPage) (more : List CatEntry) → HasCatalogPage (Some count) met read
    → ((more : List CatEntry) → MayFollow met.cars met.train met.name more → MayFollow set.empty 0 None (entries_of front ++ more))
    → MayFollow (meeting_page met read).cars (meeting_page met read).train (meeting_page met read).name more → MayFollow set.empty 0 None (entries_of (front ++ (page, read) ∷ []) ++ more)
follow_more count met front page read more has so_far is =
    subst (MayFollow set.empty 0 None) (sym (append_assoc (entries_of front) read.entries more) ∙ ap (λ (es : List CatEntry). es ++ more) (sym (one_more front page read)))
    (so_far (read.entries ++ more) (whatever_next met read.next (read.entries ++ more) (follows count (meeting_next met read.next) read.entries more has.entries is)))

-- ---- the cars that are listed

pub leads_more : (most next : ℕ) (begun met : Numbers) (done : List CatEntry) (cars : List KeptPage) (entry : CatEntry) (car : Option KeptPage) → AreRead most next met (entry ∷ []) (car_list car)
    → LeadsOn most next begun done cars met → LeadsOn most next begun (done ++ entry ∷ []) (cars ++ car_list car) (with_car met car)
leads_more most next begun met done cars entry car one leads entries more is =
    subst (λ (es : List CatEntry). AreRead most next begun es ((cars ++ car_list car) ++ more)) (sym (append_assoc done (entry ∷ []) entries))
    (subst (λ (ks : List KeptPage). AreRead most next begun (done ++ entry ∷ entries) ks) (sym (append_assoc cars (car_list car) more)) (leads (entry ∷ entries) (car_list car ++ more) (first entry car one is)))
  where
    first : (entry : CatEntry) (car : Option KeptPage) → AreRead most next met (entry ∷ []) (car_list car) → AreRead most next (with_car met car) entries more → AreRead most next met (entry ∷ entries) (car_list car ++ more)
    first (Root name at) None one is = is
    first (Root name at) (Some kept) one is = absurd one
    first (Car car train page digest) None one is = absurd one
    first (Car car train page digest) (Some kept) one is = (one.0, one.1, is)

pub taken_more : {A : Type 0} (xs : List A) (i : ℕ) (x : A) → i < length xs → x ≡ get_or xs i x → take (i + 1) xs ≡ take i xs ++ x ∷ []
taken_more [] i x lt is = absurd (omega (arith, lt))
taken_more (y ∷ ys) zero x lt is = ap (λ k. k ∷ []) (sym is)
taken_more (y ∷ ys) (suc i) x lt is =
    let next : suc i + 1 ≡ suc (i + 1) = omega arith in
    ap (λ (k : ℕ). take k (y ∷ ys)) next ∙ ap (λ (rest : List _). y ∷ rest) (taken_more ys i x (omega (arith, lt)) is)

pub entries_more : (catalog : Catalog) (page : ℕ × CatalogPage) → entries_of (catalog ++ page ∷ []) ≡ entries_of catalog ++ page.1.entries
entries_more catalog page = one_more catalog page.0 page.1

pub reads_done : (most next : ℕ) (begun met : Numbers) (all : Catalog) (i : ℕ) (cars : List KeptPage) → length all ≤ i → LeadsOn most next begun (entries_of (take i all)) cars met → AreRead most next begun (entries_of all) cars
reads_done most next begun met all i cars past leads =
    subst (λ (es : List CatEntry). AreRead most next begun es cars) (append-nil (entries_of (take i all)) ∙ ap entries_of (all_taken all i past))
    (subst (λ (ks : List KeptPage). AreRead most next begun (entries_of (take i all) ++ []) ks) (append-nil cars) (leads [] [] tt))
  where
    all_taken : (xs : Catalog) (i : ℕ) → length xs ≤ i → take i xs ≡ xs
    all_taken [] zero past = refl
    all_taken [] (suc i) past = refl
    all_taken (x ∷ xs) zero past = absurd (omega (arith, past))
    all_taken (x ∷ xs) (suc i) past = ap (λ rest. x ∷ rest) (all_taken xs i (omega (arith, past)))
