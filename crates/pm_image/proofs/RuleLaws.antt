-- Opening has no answer but those of the rules: a page is never met twice, so no chain is longer than there are pages.
use Rattle.std.proofs.Common.{◌≡◌, inl, inr, ℕ, zero, suc, ◌+◌, ◌-◌, ◌*◌, ◌<◌, ◌≤◌, ◌^◌, Bool, true, false, not, cond, eqb, ltb, leb, ◌==◌, ◌||◌, ◌&&◌, nat_lt, nat_le, List, [], ◌∷◌, length, get_or, Option, Some, None, Result, Ok, Err, refl, sym, ap, subst, ◌∙◌, arith, if◌then◌else◌}
use Rattle.std.specs.List.{slice_range}
use Rattle.std.specs.Str.{bytes_eq}
use Rattle.std.specs.Option.{is_none}
use Rattle.std.specs.FinSet as set
use Rattle.std.proofs.lemmas.Bool.{ltb-true, leb-true}
use Rattle.sha2.specs.Sha256.{sha256}
use Rattle.pm_types.specs.declared.limits.TheConstants.{PAGE_BYTES, NAME_BYTES}
use Rattle.pm_types.specs.declared.fault.OpenFault.{OpenFault}
use Rattle.pm_types.specs.declared.fault.OpenFault.TheVariants.{NotAStore, Damaged, Malformed}
use Rattle.pm_layout.specs.declared.header.Header.{Header}
use Rattle.pm_layout.specs.declared.header.HeaderFault.{HeaderFault}
use Rattle.pm_layout.specs.declared.header.HeaderFault.TheVariants.{Magic, Version, Digest, Next}
use Rattle.pm_layout.specs.Headers.{header_at, most_fields}
use Rattle.pm_layout.specs.Reading.{number_from, address_at}
use Rattle.pm_layout.proofs.Steps.{chosen}
use Rattle.pm_types.proofs.Results.{bind_ok, ok_same, if_ok, wanted_ok, err_same, either_fails}
use Rattle.pm_image.specs.declared.catalog_kind.TheConstants.{ENTRIES, CAR_ENTRY_BYTES, ROOT_ENTRY_BYTES}
use Rattle.pm_image.specs.declared.catalog.CatEntry.{CatEntry}
use Rattle.pm_image.specs.declared.catalog.CatEntry.TheVariants.{Car, Root}
use Rattle.pm_image.specs.declared.catalog.CatalogPage.{CatalogPage}
use Rattle.pm_image.specs.declared.settled.KeptPage.{KeptPage}
use Rattle.pm_image.specs.Steps.{tested, magic_at, rest_at}
use Rattle.pm_image.specs.Rules.{IsOfPages, IsOfRules}
use Rattle.pm_image.specs.CarPages.{Numbers, car_at}
use Rattle.pm_image.specs.CatalogPages.{Met, meeting, meeting_next, meeting_all, meeting_page, catalog_magic, is_free_page, is_next_page, has_next_digest, is_next_name, has_root_left, bad_name_byte, name_bytes, car_entry_at, root_entry_at, entry_at, entries_at, catalog_at}
use Rattle.pm_image.specs.Opening.{Current, current, page_count, is_placed, header_refusal, sound_header, header_in, header_body_of, open_slot}
use Rattle.pm_image.specs.Graphs.{images_of, Pages, Catalog, Site, undamaged, on_page, catalog_from, catalog_of, entries_of, cars_from, with_identities, linked, leads, sites_of, graph_of, most_pages}
use Rattle.pm_image.specs.Stands.{opened, pages_of}
use Rattle.pm_image.proofs.Results.{both_true, not_false}
use Rattle.pm_image.proofs.PageEnds.{tested_ok}
use Rattle.pm_image.proofs.SetSizes.{AreWithin, few_members, within_insert, len_more, one_member, one_within}

-- a test that did not hold
if_fault : {A : Type 0} (b : Bool) (x : A) (e fault : OpenFault) → (if b then Ok x else Err e) ≡ Err fault → e ≡ fault
if_fault true x e fault is = cc
if_fault {A} false x e fault is = err_same {A = A} e fault is

-- ---- pages that are met

-- the pages of the met are pages of a store of so many, and are no fewer than before
record Grows (count before : ℕ) (pages : Numbers) : Type 0 where
  within : AreWithin (count - 1) pages
  more : before ≤ set.len pages

-- the page that an entry names is free, if it names one
abbrev IsFreeEntry : ℕ → Met → CatEntry → Type 0
IsFreeEntry count met (Car car train page digest) = is_free_page (Some count) met.pages page ≡ true
IsFreeEntry count met (Root name at) = Unit {0}

record IsFree (count : ℕ) (pages : Numbers) (page : ℕ) : Type 0 where
  some : 0 < page
  few : page ≤ count - 1
  other : set.contains pages page ≡ false

free_parts : (count : ℕ) (pages : Numbers) (page : ℕ) → is_free_page (Some count) pages page ≡ true → IsFree count pages page
free_parts count pages page is =
    let one = both_true (nat_le 2 page) (nat_lt page count && not (set.contains pages page)) is in
    let two = both_true (nat_lt page count) (not (set.contains pages page)) one.1 in
    let low : 2 ≤ page = leb-true 2 page one.0 in
    let high : page < count = ltb-true page count two.0 in
    record { some = omega arith; few = omega arith; other = untrue (set.contains pages page) two.1 }
  where
    untrue : (b : Bool) → not b ≡ true → b ≡ false
    untrue true is_not = cc
    untrue false is_not = refl

grows_once : (count before : ℕ) (pages : Numbers) (page : ℕ) → Grows count before pages → is_free_page (Some count) pages page ≡ true → Grows count (before + 1) (set.insert pages page)
grows_once count before pages page grows is =
    let free = free_parts count pages page is in
    let size = len_more pages page free.other in
    let more = grows.more in
    record { within = within_insert (count - 1) pages page grows.within free.some free.few; more = omega arith }

grows_less : (count before : ℕ) (pages : Numbers) → Grows count (before + 1) pages → Grows count before pages
grows_less count before pages grows = let more = grows.more in record { within = grows.within; more = omega arith }

car_free : (count : ℕ) (met : Met) (page : List ℕ) (place : ℕ) (x : CatEntry × ℕ) → car_entry_at (Some count) met page place ≡ Ok x → IsFreeEntry count met x.0
unfolding car_entry_at
car_free count met page place x read =
    let car = number_from 8 page (place + 1) in
    let train = number_from 8 page (place + 9) in
    let at = number_from 8 page (place + 17) in
    let made : CatEntry × ℕ = (Car car train at (slice_range page (place + 25) (place + CAR_ENTRY_BYTES)), place + CAR_ENTRY_BYTES) in
    let g = if_ok (eqb car 0 || set.contains met.cars car) (place + 1) (cond (ltb train met.train) (Err (place + 9)) (cond (not (is_free_page (Some count) met.pages at)) (Err (place + 17)) (Ok made))) x read in
    let h = if_ok (ltb train met.train) (place + 9) (cond (not (is_free_page (Some count) met.pages at)) (Err (place + 17)) (Ok made)) x g.1 in
    let k = if_ok (not (is_free_page (Some count) met.pages at)) (place + 17) (Ok made) x h.1 in
    subst (λ (y : CatEntry × ℕ). IsFreeEntry count met y.0) (ok_same made x k.1) (not_false (is_free_page (Some count) met.pages at) k.0)

root_free : (count : ℕ) (met : Met) (page : List ℕ) (place : ℕ) (x : CatEntry × ℕ) → root_entry_at (Some count) met page place ≡ Ok x → IsFreeEntry count met x.0
unfolding root_entry_at
root_free count met page place x read =
    let len = get_or page (place + 1) 0 in
    let name = slice_range page (place + 2) (place + 2 + len) in
    let at = address_at page (place + 2 + len) in
    let made : CatEntry × ℕ = (Root name at, place + ROOT_ENTRY_BYTES + len) in
    let a = bind_ok (tested (ltb 0 len && leb len NAME_BYTES) (place + 1)) _ x read in
    let b = bind_ok (name_bytes (place + 2) (bad_name_byte name)) _ x a.2 in
    let d = bind_ok (tested (is_next_name met.name name && has_root_left (Some count) met.roots) (place + 1)) _ x b.2 in
    let e = bind_ok (tested (ltb 0 at.car) (place + 2 + len)) (λ z. Ok made) x d.2 in
    subst (λ (y : CatEntry × ℕ). IsFreeEntry count met y.0) (ok_same made x e.2) tt

entry_free : (count : ℕ) (met : Met) (page : List ℕ) (place : ℕ) (x : CatEntry × ℕ) → entry_at (Some count) met page place ≡ Ok x → IsFreeEntry count met x.0
unfolding entry_at
entry_free count met page place x read =
    let kind = get_or page place 0 in
    let as_car = cond (ltb (length page) (place + CAR_ENTRY_BYTES) || not (is_none met.name)) (Err place) (car_entry_at (Some count) met page place) in
    let as_root = cond (ltb (length page) (place + ROOT_ENTRY_BYTES + get_or page (place + 1) 0)) (Err place) (root_entry_at (Some count) met page place) in
    elim (chosen (eqb kind 1) as_car (cond (eqb kind 2) as_root (Err place)) (Ok x) read) [
      | inl car ↦
          let g = if_ok (ltb (length page) (place + CAR_ENTRY_BYTES) || not (is_none met.name)) place (car_entry_at (Some count) met page place) x car.1 in
          car_free count met page place x g.1
      | inr other ↦
          let h = wanted_ok (eqb kind 2) place as_root x other.1 in
          let g = if_ok (ltb (length page) (place + ROOT_ENTRY_BYTES + get_or page (place + 1) 0)) place (root_entry_at (Some count) met page place) x h.1 in
          root_free count met page place x g.1
    ]

entry_grows : (count before : ℕ) (met : Met) (entry : CatEntry) → Grows count before met.pages → IsFreeEntry count met entry → Grows count before (meeting met entry).pages
entry_grows count before met (Car car train page digest) grows free = grows_less count before (set.insert met.pages page) (grows_once count before met.pages page grows free)
entry_grows count before met (Root name at) grows free = grows

entries_grow : (n count before : ℕ) (met : Met) (page : List ℕ) (place : ℕ) (x : List CatEntry × ℕ) → Grows count before met.pages → entries_at (Some count) met page n place ≡ Ok x → Grows count before (meeting_all met x.0).pages
unfolding entries_at
entries_grow zero count before met page place x grows read =
    let none : List CatEntry × ℕ = ([], place) in
    subst (λ (y : List CatEntry × ℕ). Grows count before (meeting_all met y.0).pages) {x = none} (ok_same none x read) grows
entries_grow (suc n) count before met page place x grows read =
    let a = bind_ok (entry_at (Some count) met page place) _ x read in
    let b = bind_ok (entries_at (Some count) (meeting met a.0.0) page n a.0.1) _ x a.2 in
    let made : List CatEntry × ℕ = (a.0.0 ∷ b.0.0, b.0.1) in
    subst (λ (y : List CatEntry × ℕ). Grows count before (meeting_all met y.0).pages) {x = made} (ok_same made x b.2)
    (entries_grow n count before (meeting met a.0.0) page a.0.1 b.0 (entry_grows count before met a.0.0 grows (entry_free count met page place a.0 a.1)) b.1)

-- one page more was met where there is a next one
next_grows : (count before : ℕ) (met : Met) (next : ℕ) → Grows count before met.pages → is_next_page (Some count) met.pages next ≡ true → (next == 0) ≡ false → Grows count (before + 1) (meeting_next met next).pages
next_grows count before met zero grows is some = cc
next_grows count before met (suc next) grows is some =
    grows_once count before met.pages (suc next) grows (ap (λ (b : Bool). b || is_free_page (Some count) met.pages (suc next)) (sym some) ∙ is)

page_grows : (count before : ℕ) (met : Met) (page : List ℕ) (read : CatalogPage) → Grows count before met.pages → catalog_at (Some count) met page ≡ Ok read → (read.next == 0) ≡ false → Grows count (before + 1) (meeting_page met read).pages
unfolding catalog_at
page_grows count before met page read grows is =
    let next = number_from 8 page 4 in
    let digest = slice_range page 12 44 in
    let made : List CatEntry → CatalogPage = λ es. record { next = next; digest = digest; entries = es } in
    let a = bind_ok (magic_at catalog_magic page) _ read is in
    let b = bind_ok (tested (is_next_page (Some count) met.pages next) 4) _ read a.2 in
    let d = bind_ok (tested (has_next_digest next digest) 12) _ read b.2 in
    let e = bind_ok (entries_at (Some count) (meeting_next met next) page (number_from 2 page 44) ENTRIES) _ read d.2 in
    let f = bind_ok (rest_at page e.0.1) (λ z. Ok (made e.0.0)) read e.2 in
    subst (λ (r : CatalogPage). (r.next == 0) ≡ false → Grows count (before + 1) (meeting_page met r).pages) {x = made e.0.0} (ok_same (made e.0.0) read f.2)
    (λ some. entries_grow (number_from 2 page 44) count (before + 1) (meeting_next met next) page ENTRIES e.0 (next_grows count before met next grows (tested_ok _ 4 b.0 b.1) some) e.1)

-- ---- the catalog

digest_fault : (pages : Pages) (page : ℕ) (kept : List ℕ) (fault : OpenFault) → undamaged pages page kept ≡ Err fault → IsOfPages fault
digest_fault pages page kept fault is =
    subst IsOfPages (if_fault {A = Unit {0}} (bytes_eq kept (sha256 (pages.page page))) tt (Damaged page kept (sha256 (pages.page page))) fault is) tt

page_fault : {A : Type 0} (page : ℕ) (read : Result A ℕ) (fault : OpenFault) → on_page page read ≡ Err fault → IsOfPages fault
page_fault page (Ok x) fault is = cc
page_fault {A} page (Err at) fault is = subst IsOfPages (err_same {A = A} (Malformed page at) fault is) tt

tail_fault : (next : ℕ) (rest : Result Catalog OpenFault) (fault : OpenFault) → (if next == 0 then Ok [] else rest) ≡ Err fault → ((next == 0) ≡ false) × (rest ≡ Err fault)
tail_fault zero rest fault is = cc
tail_fault (suc next) rest fault is = elim (suc next == 0) as (λ b. (if b then Ok [] else rest) ≡ Err fault → (b ≡ false) × (rest ≡ Err fault)) [ true ↦ λ same. cc same | false ↦ λ same. (refl, same) ] is

-- a chain that begins with these pages met is no longer than there are others
chain_fault : (n before : ℕ) (pages : Pages) (met : Met) (page : ℕ) (kept : List ℕ) (fault : OpenFault) → 0 < pages.count → Grows pages.count before met.pages → pages.count ≤ n + before
    → catalog_from n pages met page kept ≡ Err fault → IsOfPages fault
unfolding catalog_from
chain_fault zero before pages met page kept fault some grows left is =
    let few = few_members (pages.count - 1) met.pages grows.within in
    let more = grows.more in
    absurd (omega arith)
chain_fault (suc n) before pages met page kept fault some grows left is =
    elim (either_fails (undamaged pages page kept) _ fault is) [
      | inl damaged ↦ digest_fault pages page kept fault damaged
      | inr one ↦ elim (either_fails (on_page page (catalog_at (Some pages.count) met (pages.page page))) _ fault one.2) [
        | inl malformed ↦ page_fault page (catalog_at (Some pages.count) met (pages.page page)) fault malformed
        | inr two ↦ elim (either_fails (if two.0.next == 0 then Ok [] else catalog_from n pages (meeting_page met two.0) two.0.next two.0.digest) _ fault two.2) [
          | inl tail ↦
              let rest = tail_fault two.0.next (catalog_from n pages (meeting_page met two.0) two.0.next two.0.digest) fault tail in
              let read : catalog_at (Some pages.count) met (pages.page page) ≡ Ok two.0 = page_ok page (catalog_at (Some pages.count) met (pages.page page)) two.0 two.1 in
              chain_fault n (before + 1) pages (meeting_page met two.0) two.0.next two.0.digest fault some (page_grows pages.count before met (pages.page page) two.0 grows read rest.0) (omega arith) rest.1
          | inr three ↦ cc (three.2)
        ]
      ]
    ]
  where
    page_ok : (page : ℕ) (read : Result CatalogPage ℕ) (x : CatalogPage) → on_page page read ≡ Ok x → read ≡ Ok x
    page_ok page (Ok y) x is = ap Ok (ok_same y x is)
    page_ok page (Err at) x is = cc

-- the first catalog page is one of a store, which has no more pages than there are numbers of eight bytes
pub catalog_fault : (pages : Pages) (header : Header) (fault : OpenFault) → pages.count ≤ 2 ^ 64 → is_placed pages.count header ≡ true → catalog_of pages header ≡ Err fault → IsOfPages fault
catalog_fault pages header fault few placed is =
    let both = both_true (nat_le 2 header.first) (nat_lt header.first pages.count) placed in
    let low : 2 ≤ header.first = leb-true 2 header.first both.0 in
    let high : header.first < pages.count = ltb-true header.first pages.count both.1 in
    let size = one_member header.first in
    chain_fault most_pages 1 pages _ header.first header.digest fault (omega arith)
    (record { within = one_within (pages.count - 1) header.first (omega arith) (omega arith); more = omega arith }) (omega arith) is

-- ---- the cars and the addresses

cars_fault : (most next : ℕ) (pages : Pages) (met : Numbers) (entries : List CatEntry) (fault : OpenFault) → cars_from most next pages met entries ≡ Err fault → IsOfPages fault
unfolding cars_from
cars_fault most next pages met [] fault is = cc
cars_fault most next pages met (Root name at ∷ entries) fault is = cars_fault most next pages met entries fault is
cars_fault most next pages met (Car car train page digest ∷ entries) fault is =
    let read = car_at (record { most = most; next = next; number = Some car }) met (pages.page page) in
    elim (either_fails (undamaged pages page digest) _ fault is) [
      | inl damaged ↦ digest_fault pages page digest fault damaged
      | inr one ↦ elim (either_fails (on_page page read) _ fault one.2) [
        | inl malformed ↦ page_fault page read fault malformed
        | inr two ↦ elim (either_fails (cars_from most next pages (with_identities met two.0.slots) entries) _ fault two.2) [
          | inl others ↦ cars_fault most next pages (with_identities met two.0.slots) entries fault others
          | inr three ↦ cc (three.2)
        ]
      ]
    ]

by_test : (b : Bool) (rest : Result (Unit {0}) OpenFault) (e fault : OpenFault) → IsOfPages e → (rest ≡ Err fault → IsOfPages fault) → (if b then rest else Err e) ≡ Err fault → IsOfPages fault
by_test true rest e fault here there is = there is
by_test false rest e fault here there is = subst IsOfPages (err_same {A = Unit {0}} e fault is) here

link_fault : (cars : List KeptPage) (sites : List Site) (fault : OpenFault) → linked (images_of cars) sites ≡ Err fault → IsOfPages fault
unfolding linked
link_fault cars [] fault is = cc
link_fault cars (site ∷ sites) fault is = by_test (leads (images_of cars) site) (linked (images_of cars) sites) (Malformed site.page site.at) fault tt (λ rest. link_fault cars sites fault rest) is

-- behind a header that was found, the answer is of a page
pub graph_fault : (pages : Pages) (header : Header) (fault : OpenFault) → pages.count ≤ 2 ^ 64 → is_placed pages.count header ≡ true → graph_of pages header ≡ Err fault → IsOfPages fault
unfolding graph_of
graph_fault pages header fault few placed is =
    elim (either_fails (catalog_of pages header) _ fault is) [
      | inl catalog ↦ catalog_fault pages header fault few placed catalog
      | inr one ↦ elim (either_fails (cars_from (most_fields header.version) header.next pages set.empty (entries_of one.0)) _ fault one.2) [
        | inl cars ↦ cars_fault (most_fields header.version) header.next pages set.empty (entries_of one.0) fault cars
        | inr two ↦ elim (either_fails (linked (images_of two.0) (sites_of one.0 two.0)) _ fault two.2) [
          | inl links ↦ link_fault two.0 (sites_of one.0 two.0) fault links
          | inr three ↦ cc (three.2)
        ]
      ]
    ]

-- ---- the whole

of_rules : (fault : OpenFault) → IsOfPages fault → IsOfRules fault
of_rules (Damaged page kept found) is = tt
of_rules (Malformed page at) is = tt
of_rules fault is = absurd is

header_rule : (slot : ℕ) (fault : HeaderFault) → IsOfRules (header_refusal slot fault)
header_rule slot Magic = tt
header_rule slot (Version version) = tt
header_rule slot (Digest kept found) = tt
header_rule slot Next = tt

sound_fault : (count slot : ℕ) (read : Result Header HeaderFault) (fault : OpenFault) → sound_header count slot read ≡ Err fault → IsOfRules fault
sound_fault count slot (Err d) fault is = subst IsOfRules (err_same {A = Current} (header_refusal slot d) fault is) (header_rule slot d)
sound_fault count slot (Ok header) fault is = subst IsOfRules (if_fault {A = Current} (is_placed count header) (record { slot = slot; header = header }) (Malformed slot 24) fault is) tt

in_fault : (bytes : List ℕ) (slot : Option ℕ) (fault : OpenFault) → header_in bytes slot ≡ Err fault → IsOfRules fault
in_fault bytes None fault is = subst IsOfRules (err_same {A = Current} NotAStore fault is) tt
in_fault bytes (Some slot) fault is = sound_fault (page_count bytes) slot (header_at (header_body_of bytes slot)) fault is

short_or : (b : Bool) (rest : Result Current OpenFault) (fault : OpenFault) → (rest ≡ Err fault → IsOfRules fault) → (if b then Err NotAStore else rest) ≡ Err fault → IsOfRules fault
short_or true rest fault there is = subst IsOfRules (err_same {A = Current} NotAStore fault is) tt
short_or false rest fault there is = there is

current_fault : (bytes : List ℕ) (fault : OpenFault) → current bytes ≡ Err fault → IsOfRules fault
unfolding current
current_fault bytes fault is = short_or (nat_lt (length bytes) (2 * PAGE_BYTES)) (header_in bytes (open_slot bytes)) fault (in_fault bytes (open_slot bytes) fault) is

-- a header that was found names a page of the store
sound_placed : (count slot : ℕ) (read : Result Header HeaderFault) (now : Current) → sound_header count slot read ≡ Ok now → is_placed count now.header ≡ true
sound_placed count slot (Err d) now is = cc
sound_placed count slot (Ok header) now is =
    let found : Current = record { slot = slot; header = header } in
    let parts = wanted_ok (is_placed count header) (Malformed slot 24) (Ok found) now is in
    subst (λ (c : Current). is_placed count c.header ≡ true) (ok_same found now parts.1) parts.0

in_placed : (bytes : List ℕ) (slot : Option ℕ) (now : Current) → header_in bytes slot ≡ Ok now → is_placed (page_count bytes) now.header ≡ true
in_placed bytes None now is = cc
in_placed bytes (Some slot) now is = sound_placed (page_count bytes) slot (header_at (header_body_of bytes slot)) now is

pub current_placed : (bytes : List ℕ) (now : Current) → current bytes ≡ Ok now → is_placed (page_count bytes) now.header ≡ true
unfolding current
current_placed bytes now is = in_placed bytes (open_slot bytes) now (if_ok (nat_lt (length bytes) (2 * PAGE_BYTES)) NotAStore _ now is).1

pub opened_fault : (bytes : List ℕ) (fault : OpenFault) → page_count bytes ≤ 2 ^ 64 → opened bytes ≡ Err fault → IsOfRules fault
unfolding opened
opened_fault bytes fault few is =
    elim (either_fails (current bytes) _ fault is) [
      | inl first ↦ current_fault bytes fault first
      | inr one ↦ elim (either_fails (graph_of (pages_of bytes) one.0.header) _ fault one.2) [
        | inl graph ↦ of_rules fault (graph_fault (pages_of bytes) one.0.header fault few (current_placed bytes one.0 one.1) graph)
        | inr two ↦ cc (two.2)
      ]
    ]
