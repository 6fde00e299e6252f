-- What is spelled on a catalog page, and may come after what was met, is read there.
use Rattle.std.proofs.Common.{◌≡◌, ℕ, ◌+◌, ◌-◌, ◌*◌, ◌^◌, ◌<◌, ◌≤◌, Bool, true, false, not, cond, eqb, ltb, leb, ◌||◌, ◌&&◌, List, [], ◌∷◌, ◌++◌, length, get_or, take, drop, replicate, Option, Result, Ok, Err, refl, sym, ap, subst, ◌∙◌, arith, length-append}
use Rattle.std.specs.List.{flat_map, slice_range, AllByRecursion}
use Rattle.std.specs.FinSet as set
use Rattle.std.specs.Option.{is_none}
use Rattle.std.proofs.lemmas.Bool.{le-ltb, lt-ltb, le-leb}
use Rattle.std.proofs.lemmas.List.{take_at, drop_at}
use Rattle.byteorder.specs.Endian.{big_bytes}
use Rattle.pm_types.specs.declared.address.Addr.{Addr}
use Rattle.pm_types.specs.declared.limits.TheConstants.{PAGE_BYTES, NAME_BYTES}
use Rattle.pm_layout.specs.Spelling.{address, IsAddress, Stands}
use Rattle.pm_layout.specs.Reading.{number_from, address_at}
use Rattle.pm_layout.proofs.Steps.{other_than_zero}
use Rattle.pm_types.proofs.Results.{ok_same}
use Rattle.pm_layout.proofs.Texts.{Stands-split, Stands-end, number_is, byte_is}
use Rattle.pm_layout.proofs.Again.{address_again}
use Rattle.pm_image.specs.declared.catalog_kind.TheConstants.{ENTRIES, CAR_ENTRY_BYTES, ROOT_ENTRY_BYTES}
use Rattle.pm_image.specs.declared.fault.PageFault.{PageFault}
use Rattle.pm_image.specs.Answers.{Gives}
use Rattle.pm_image.specs.declared.catalog.CatEntry.{CatEntry}
use Rattle.pm_image.specs.declared.catalog.CatEntry.TheVariants.{Car, Root}
use Rattle.pm_image.specs.declared.catalog.CatalogPage.{CatalogPage}
use Rattle.pm_image.specs.Steps.{tested, magic_at, rest_at}
use Rattle.pm_types.specs.Results.{◌>>=◌}
use Rattle.pm_image.specs.CarPages.{padded}
use Rattle.pm_image.specs.CatalogPages.{Met, meeting, meeting_next, catalog_magic, entry_spelling, catalog_spelling, catalog_used, is_free_page, is_next_page, has_next_digest, is_next_name, has_root_left, bad_name_byte, name_bytes, car_entry_at, root_entry_at, entry_at, entries_at, catalog_at, IsNextCar, IsNextRoot, IsNextEntry, AreNext, HasCatalogPage, IsEntryInRange, IsCatalogInRange}
use Rattle.pm_image.proofs.CatalogReads.{no_bad_byte}
use Rattle.pm_image.proofs.PageEnds.{magic_again, rest_again}

-- a text that stands at a place is the part between its ends
part_is : (page text : List ℕ) (p q len : ℕ) → length text ≡ len → p + len ≡ q → Stands page p text q → slice_range page p q ≡ text
part_is page text p q len long end s = ap (λ (t : List ℕ). take (q - p) t) s.parts ∙ take_at text (drop q page) (q - p) (omega arith)

-- ---- the entry of a car

-- the numbers of a car's entry, and its digest
record CarRead (page : List ℕ) (place : ℕ) (car train at : ℕ) (digest : List ℕ) (next : ℕ) : Type 0 where
  kind : get_or page place 0 ≡ 1
  car_is : number_from 8 page (place + 1) ≡ car
  train_is : number_from 8 page (place + 9) ≡ train
  at_is : number_from 8 page (place + 17) ≡ at
  digest_is : slice_range page (place + 25) (place + CAR_ENTRY_BYTES) ≡ digest
  next_is : place + CAR_ENTRY_BYTES ≡ next
  inside : place + CAR_ENTRY_BYTES ≤ length page

car_read : (page : List ℕ) (place car train at : ℕ) (digest : List ℕ) (next : ℕ) → place ≤ length page → car < 2 ^ 64 → train < 2 ^ 64 → at < 2 ^ 64 → length digest ≡ 32 → Stands page place (entry_spelling (Car car train at digest)) next → CarRead page place car train at digest next
unfolding entry_spelling
car_read page place car train at digest next start small_car small_train small_at long s =
    let t3 = big_bytes 8 at ++ digest in
    let t2 = big_bytes 8 train ++ t3 in
    let t1 = big_bytes 8 car ++ t2 in
    let s0 = Stands-split page (1 ∷ []) t1 place (place + 1) next start refl s in
    let s1 = Stands-split page (big_bytes 8 car) t2 (place + 1) (place + 9) next s0.first.inside (omega arith) s0.second in
    let s2 = Stands-split page (big_bytes 8 train) t3 (place + 9) (place + 17) next s1.first.inside (omega arith) s1.second in
    let s3 = Stands-split page (big_bytes 8 at) digest (place + 17) (place + 25) next s2.first.inside (omega arith) s2.second in
    let ended : place + 25 + length digest ≡ next = Stands-end page digest (place + 25) next s3.first.inside s3.second in
    let last : next ≡ place + CAR_ENTRY_BYTES = omega arith in
    let here : Stands page (place + 25) digest (place + CAR_ENTRY_BYTES) = subst (λ (k : ℕ). Stands page (place + 25) digest k) last s3.second in
    record {
      kind = byte_is page t1 place next 1 s;
      car_is = number_is 8 page (place + 1) (place + 9) car small_car s1.first;
      train_is = number_is 8 page (place + 9) (place + 17) train small_train s2.first;
      at_is = number_is 8 page (place + 17) (place + 25) at small_at s3.first;
      digest_is = part_is page digest (place + 25) (place + CAR_ENTRY_BYTES) 32 long (omega arith) here;
      next_is = sym last;
      inside = here.inside;
    }

-- the tests of a car's entry, with its numbers
car_tested : (count : Option ℕ) (met : Met) (place car train at : ℕ) (digest : List ℕ) (next : ℕ) → IsNextCar count met car train at
    → (made : CatEntry × ℕ) → cond (eqb car 0 || set.contains met.cars car) (Err (place + 1)) (cond (ltb train met.train) (Err (place + 9)) (cond (not (is_free_page count met.pages at)) (Err (place + 17)) (Ok made))) ≡ Ok made
car_tested count met place car train at digest next fits made =
    let known : (eqb car 0 || set.contains met.cars car) ≡ false = ap (λ (b : Bool). b || set.contains met.cars car) (other_than_zero car fits.numbered) ∙ fits.other in
    let falls : ltb train met.train ≡ false = le-ltb train met.train fits.in_order in
    rw (known, falls, fits.free) refl

car_again : (count : Option ℕ) (met : Met) (page : List ℕ) (place car train at : ℕ) (digest : List ℕ) (next : ℕ) → CarRead page place car train at digest next → IsNextCar count met car train at → car_entry_at count met page place ≡ Ok (Car car train at digest, next)
unfolding car_entry_at
car_again count met page place car train at digest next r fits =
    let decided : ℕ → ℕ → ℕ → List ℕ → ℕ → Result (CatEntry × ℕ) ℕ = λ x y z t end. cond (eqb x 0 || set.contains met.cars x) (Err (place + 1)) (cond (ltb y met.train) (Err (place + 9)) (cond (not (is_free_page count met.pages z)) (Err (place + 17)) (Ok (Car x y z t, end)))) in
    ap (λ (x : ℕ). decided x (number_from 8 page (place + 9)) (number_from 8 page (place + 17)) (slice_range page (place + 25) (place + CAR_ENTRY_BYTES)) (place + CAR_ENTRY_BYTES)) r.car_is
    ∙ ap (λ (y : ℕ). decided car y (number_from 8 page (place + 17)) (slice_range page (place + 25) (place + CAR_ENTRY_BYTES)) (place + CAR_ENTRY_BYTES)) r.train_is
    ∙ ap (λ (z : ℕ). decided car train z (slice_range page (place + 25) (place + CAR_ENTRY_BYTES)) (place + CAR_ENTRY_BYTES)) r.at_is
    ∙ ap (λ (t : List ℕ). decided car train at t (place + CAR_ENTRY_BYTES)) r.digest_is
    ∙ ap (λ (end : ℕ). decided car train at digest end) r.next_is
    ∙ car_tested count met place car train at digest next fits (Car car train at digest, next)

-- ---- the entry of a root

record RootRead (page : List ℕ) (place : ℕ) (name : List ℕ) (at : Addr) (next : ℕ) : Type 0 where
  kind : get_or page place 0 ≡ 2
  len_is : get_or page (place + 1) 0 ≡ length name
  name_is : slice_range page (place + 2) (place + 2 + length name) ≡ name
  at_is : address_at page (place + 2 + length name) ≡ at
  next_is : place + ROOT_ENTRY_BYTES + length name ≡ next
  inside : place + ROOT_ENTRY_BYTES + length name ≤ length page

root_read : (page : List ℕ) (place : ℕ) (name : List ℕ) (at : Addr) (next : ℕ) → place ≤ length page → IsAddress at → Stands page place (entry_spelling (Root name at)) next → RootRead page place name at next
unfolding entry_spelling address
root_read page place name at next start small s =
    let text = big_bytes 8 at.car ++ big_bytes 4 at.slot in
    let s0 = Stands-split page (2 ∷ []) (length name ∷ (name ++ text)) place (place + 1) next start refl s in
    let two : place + 1 + length (length name ∷ []) ≡ place + 2 = omega arith in
    let s1 = Stands-split page (length name ∷ []) (name ++ text) (place + 1) (place + 2) next s0.first.inside two s0.second in
    let s2 = Stands-split page name text (place + 2) (place + 2 + length name) next s1.first.inside refl s1.second in
    let ended : place + 2 + length name + length text ≡ next = Stands-end page text (place + 2 + length name) next s2.first.inside s2.second in
    let r = address_again page (place + 2 + length name) next at.car at.slot s2.first.inside small.car small.slot s2.second in
    let made : ℕ → ℕ → Addr = λ car slot. record { car = car; slot = slot } in
    let last : place + ROOT_ENTRY_BYTES + length name ≡ next = omega arith in
    let inside = s2.second.inside in
    record {
      kind = byte_is page (length name ∷ (name ++ text)) place next 2 s;
      len_is = byte_is page (name ++ text) (place + 1) next (length name) s0.second;
      name_is = part_is page name (place + 2) (place + 2 + length name) (length name) refl refl s2.first;
      at_is = ap (λ (x : ℕ). made x (number_from 4 page (place + 2 + length name + 8))) r.car_is ∙ ap (λ (y : ℕ). made at.car y) r.slot_is;
      next_is = last;
      inside = omega arith;
    }

-- the tests of a root's entry, with its parts
root_tested : (count : Option ℕ) (met : Met) (place : ℕ) (name : List ℕ) (at : Addr) (next : ℕ) → IsNextRoot count met name at
    → (made : CatEntry × ℕ) → (tested (ltb 0 (length name) && leb (length name) NAME_BYTES) (place + 1) >>= λ u. name_bytes (place + 2) (bad_name_byte name) >>= λ v. tested (is_next_name met.name name && has_root_left count met.roots) (place + 1) >>= λ w. tested (ltb 0 at.car) (place + 2 + length name) >>= λ z. Ok made) ≡ Ok made
root_tested count met place name at next fits made =
    let some : ltb 0 (length name) ≡ true = lt-ltb 0 (length name) fits.named.some in
    let short : leb (length name) NAME_BYTES ≡ true = le-leb (length name) 64 fits.named.short in
    let has_car : ltb 0 at.car ≡ true = lt-ltb 0 at.car fits.has_car in
    rw (some, short, no_bad_byte name fits.named, fits.in_order, fits.left, has_car) refl

root_again : (count : Option ℕ) (met : Met) (page : List ℕ) (place : ℕ) (name : List ℕ) (at : Addr) (next : ℕ) → RootRead page place name at next → IsNextRoot count met name at → root_entry_at count met page place ≡ Ok (Root name at, next)
unfolding root_entry_at
root_again count met page place name at next r fits =
    let decided : ℕ → List ℕ → Addr → ℕ → Result (CatEntry × ℕ) ℕ = λ len word to end. tested (ltb 0 len && leb len NAME_BYTES) (place + 1) >>= λ u. name_bytes (place + 2) (bad_name_byte word) >>= λ v. tested (is_next_name met.name word && has_root_left count met.roots) (place + 1) >>= λ w. tested (ltb 0 to.car) (place + 2 + len) >>= λ z. Ok (Root word to, end) in
    ap (λ (len : ℕ). decided len (slice_range page (place + 2) (place + 2 + len)) (address_at page (place + 2 + len)) (place + ROOT_ENTRY_BYTES + len)) r.len_is
    ∙ ap (λ (word : List ℕ). decided (length name) word (address_at page (place + 2 + length name)) (place + ROOT_ENTRY_BYTES + length name)) r.name_is
    ∙ ap (λ (to : Addr). decided (length name) name to (place + ROOT_ENTRY_BYTES + length name)) r.at_is
    ∙ ap (λ (end : ℕ). decided (length name) name at end) r.next_is
    ∙ root_tested count met place name at next fits (Root name at, next)

-- ---- entries

entry_again : (count : Option ℕ) (met : Met) (page : List ℕ) (place : ℕ) (entry : CatEntry) (next : ℕ) → place ≤ length page → IsNextEntry count met entry → IsEntryInRange entry → Stands page place (entry_spelling entry) next → entry_at count met page place ≡ Ok (entry, next)
unfolding entry_at
entry_again count met page place (Car car train at digest) next start fits range s =
    let r = car_read page place car train at digest next start range.0 range.1 range.2 range.3 s in
    let decided : ℕ → Result (CatEntry × ℕ) ℕ = λ kind. cond (eqb kind 1) (cond (ltb (length page) (place + CAR_ENTRY_BYTES) || not (is_none met.name)) (Err place) (car_entry_at count met page place)) (cond (eqb kind 2) (cond (ltb (length page) (place + ROOT_ENTRY_BYTES + get_or page (place + 1) 0)) (Err place) (root_entry_at count met page place)) (Err place)) in
    let ends : ltb (length page) (place + CAR_ENTRY_BYTES) ≡ false = le-ltb _ _ r.inside in
    ap decided r.kind ∙ rw (ends, fits.before_roots) (car_again count met page place car train at digest next r fits)
entry_again count met page place (Root name at) next start fits range s =
    let r = root_read page place name at next start range s in
    let decided : ℕ → Result (CatEntry × ℕ) ℕ = λ kind. cond (eqb kind 1) (cond (ltb (length page) (place + CAR_ENTRY_BYTES) || not (is_none met.name)) (Err place) (car_entry_at count met page place)) (cond (eqb kind 2) (cond (ltb (length page) (place + ROOT_ENTRY_BYTES + get_or page (place + 1) 0)) (Err place) (root_entry_at count met page place)) (Err place)) in
    let inside : place + ROOT_ENTRY_BYTES + get_or page (place + 1) 0 ≤ length page = subst (λ (n : ℕ). place + ROOT_ENTRY_BYTES + n ≤ length page) (sym r.len_is) r.inside in
    let ends : ltb (length page) (place + ROOT_ENTRY_BYTES + get_or page (place + 1) 0) ≡ false = le-ltb _ _ inside in
    ap decided r.kind ∙ rw ends (root_again count met page place name at next r fits)

entries_again : (es : List CatEntry) (count : Option ℕ) (met : Met) (page : List ℕ) (place next : ℕ) → place ≤ length page → AreNext count met es → AllByRecursion IsEntryInRange es → Stands page place (flat_map entry_spelling es) next → entries_at count met page (length es) place ≡ Ok (es, next)
unfolding entries_at
entries_again [] count met page place next start fits range s =
    let ended : place + length {A = ℕ} [] ≡ next = Stands-end page [] place next start s in
    let same : place ≡ next = omega arith in
    ap (λ (k : ℕ). Ok ([], k)) same
entries_again (e ∷ es) count met page place next start fits range s =
    let mid = place + length (entry_spelling e) in
    let parts = Stands-split page (entry_spelling e) (flat_map entry_spelling es) place mid next start refl s in
    rw (entry_again count met page place e mid start fits.0 range.0 parts.first, entries_again es count (meeting met e) page mid next parts.first.inside fits.1 range.1 parts.second) refl

-- ---- pages

-- entries on a page are few
pub few_entries : (es : List CatEntry) → ENTRIES + ROOT_ENTRY_BYTES * length es ≤ catalog_used es
few_entries [] = omega arith
few_entries (Car car train at digest ∷ es) = let others = few_entries es in omega arith
few_entries (Root name at ∷ es) = let others = few_entries es in omega arith

-- a text stands at the front of its padding
front_stands : (text : List ℕ) → Stands (padded text) 0 text (length text)
front_stands text =
    let rest = replicate (PAGE_BYTES - length text) 0 in
    record { inside = omega (arith, length-append text rest); parts = ap (λ (t : List ℕ). text ++ t) (sym (drop_at text rest (length text) refl)) }

catalog_tested : (count : Option ℕ) (met : Met) (page : List ℕ) (c : CatalogPage) (end : ℕ) → HasCatalogPage count met c → magic_at catalog_magic page ≡ Ok tt → number_from 8 page 4 ≡ c.next → slice_range page 12 44 ≡ c.digest
    → entries_at count (meeting_next met c.next) page (number_from 2 page 44) ENTRIES ≡ Ok (c.entries, end) → rest_at page end ≡ Ok tt → catalog_at count met page ≡ Ok c
unfolding catalog_at
catalog_tested count met page c end has e0 next_is digest_is e1 e2 =
    let decided : ℕ → List ℕ → Result CatalogPage ℕ = λ next digest. magic_at catalog_magic page >>= λ u. tested (is_next_page count met.pages next) 4 >>= λ v. tested (has_next_digest next digest) 12 >>= λ w. entries_at count (meeting_next met next) page (number_from 2 page 44) ENTRIES >>= λ es. rest_at page es.1 >>= λ z. Ok (record { next = next; digest = digest; entries = es.0 }) in
    let one : decided c.next c.digest ≡ Ok c = rw (e0, has.next, has.next_digest, e1, e2) refl in
    ap (λ (next : ℕ). decided next (slice_range page 12 44)) next_is ∙ ap (λ (digest : List ℕ). decided c.next digest) digest_is ∙ one

-- what is written of a catalog page is read again
pub catalog_again : (count : Option ℕ) (met : Met) (c : CatalogPage) → HasCatalogPage count met c → IsCatalogInRange c → catalog_at count met (padded (catalog_spelling c)) ≡ Ok c
unfolding catalog_spelling
catalog_again count met c has range =
    let text = catalog_spelling c in
    let page = padded text in
    let end = length text in
    let t3 = flat_map entry_spelling c.entries in
    let t2 = big_bytes 2 (length c.entries) ++ t3 in
    let t1 = c.digest ++ t2 in
    let t0 = big_bytes 8 c.next ++ t1 in
    let s0 = Stands-split page catalog_magic t0 0 4 end (omega arith) refl (front_stands text) in
    let s1 = Stands-split page (big_bytes 8 c.next) t1 4 12 end s0.first.inside refl s0.second in
    let long : length c.digest ≡ 32 = range.digest in
    let s2 = Stands-split page c.digest t2 12 44 end s1.first.inside (omega arith) s1.second in
    let s3 = Stands-split page (big_bytes 2 (length c.entries)) t3 44 ENTRIES end s2.first.inside refl s2.second in
    let small : length c.entries < 65536 = omega (arith, few_entries c.entries, has.fits) in
    let counted : number_from 2 page 44 ≡ length c.entries = number_is 2 page 44 ENTRIES (length c.entries) small s3.first in
    let is_magic : take 4 page ≡ catalog_magic = ap (λ (t : List ℕ). take 4 t) s0.first.parts ∙ take_at catalog_magic (drop 4 page) 4 refl in
    let listed : entries_at count (meeting_next met c.next) page (number_from 2 page 44) ENTRIES ≡ Ok (c.entries, end) =
    ap (λ (n : ℕ). entries_at count (meeting_next met c.next) page n ENTRIES) counted ∙ entries_again c.entries count (meeting_next met c.next) page ENTRIES end s3.first.inside has.entries range.entries s3.second in
    catalog_tested count met page c end has (magic_again catalog_magic page is_magic) (number_is 8 page 4 12 c.next range.next s1.first) (part_is page c.digest 12 44 32 long refl s2.first) listed
    (rest_again page end (PAGE_BYTES - end) (drop_at text (replicate (PAGE_BYTES - end) 0) end refl))

-- two pages that are spelled alike are one
pub catalog_apart : (count : Option ℕ) (met : Met) (a b : CatalogPage) → HasCatalogPage count met a → IsCatalogInRange a → HasCatalogPage count met b → IsCatalogInRange b → padded (catalog_spelling a) ≡ padded (catalog_spelling b) → a ≡ b
catalog_apart count met a b has_a range_a has_b range_b e =
    ok_same a b (sym (catalog_again count met a has_a range_a) ∙ ap (λ (t : List ℕ). catalog_at count met t) e ∙ catalog_again count met b has_b range_b)

-- what is spelled is read, unless memory ran out
pub only_read : (count : Option ℕ) (met : Met) (page : List ℕ) (answered : Result CatalogPage PageFault) → Gives answered (catalog_at count met page) → (c : CatalogPage) → HasCatalogPage count met c → IsCatalogInRange c → page ≡ padded (catalog_spelling c) → Gives answered (Ok c)
only_read count met page answered given c has range e = subst (λ (r : Result CatalogPage ℕ). Gives answered r) (ap (λ (t : List ℕ). catalog_at count met t) e ∙ catalog_again count met c has range) given
