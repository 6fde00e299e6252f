-- What is read of a catalog page is spelled there, and may come after what was met.
use Rattle.std.proofs.Common.{◌≡◌, ℕ, zero, suc, ◌+◌, ◌-◌, ◌≤◌, Bool, true, false, not, cond, eqb, ltb, leb, ◌||◌, ◌&&◌, List, [], ◌∷◌, ◌++◌, length, get_or, take, drop, replicate, Option, Some, None, Result, Ok, Err, refl, sym, ap, subst, ◌∙◌, arith, length-take, length-drop, length-append, inl, inr}
use Rattle.std.specs.List.{flat_map, slice_range}
use Rattle.std.specs.FinSet as set
use Rattle.std.specs.Option.{is_none}
use Rattle.std.proofs.lemmas.Bool.{eqb-true, ltb-false, ltb-true, leb-true}
use Rattle.std.proofs.lemmas.List.{take-append-drop}
use Rattle.byteorder.specs.Endian.{big_bytes}
use Rattle.pm_types.specs.declared.address.Addr.{Addr}
use Rattle.pm_types.specs.declared.limits.TheConstants.{PAGE_BYTES, NAME_BYTES}
use Rattle.pm_types.proofs.NameLemmas.{name_from_bytes}
use Rattle.pm_layout.specs.Spelling.{address, Stands}
use Rattle.pm_layout.specs.Reading.{number_from, address_at}
use Rattle.pm_layout.proofs.Steps.{chosen, neither, not_zero}
use Rattle.pm_types.proofs.Results.{bind_ok, ok_same, if_ok, wanted_ok}
use Rattle.pm_layout.proofs.Numbers.{IsBytes, wide_2, wide_8}
use Rattle.pm_layout.proofs.Texts.{Stands-then, Stands-end, number_stands, byte_stands, between_stands}
use Rattle.pm_layout.proofs.Slots.{address_stands}
use Rattle.std.specs.Prelude.{IfOk}
use Rattle.pm_image.specs.declared.catalog_kind.TheConstants.{ENTRIES, CAR_ENTRY_BYTES, ROOT_ENTRY_BYTES}
use Rattle.pm_image.specs.declared.fault.PageFault.{PageFault}
use Rattle.pm_image.specs.Answers.{Gives}
use Rattle.pm_image.specs.declared.catalog.CatEntry.{CatEntry}
use Rattle.pm_image.specs.declared.catalog.CatEntry.TheVariants.{Car, Root}
use Rattle.pm_image.specs.declared.catalog.CatalogPage.{CatalogPage}
use Rattle.pm_image.specs.Steps.{tested, magic_at, rest_at}
use Rattle.pm_types.specs.Results.{◌>>=◌}
use Rattle.pm_image.specs.CarPages.{padded}
use Rattle.pm_image.specs.CatalogPages.{Met, meeting, meeting_next, catalog_magic, entry_spelling, entry_size, catalog_spelling, catalog_used, is_free_page, is_next_page, has_next_digest, is_next_name, has_root_left, bad_name_byte, name_bytes, car_entry_at, root_entry_at, entry_at, entries_at, catalog_at, IsNextEntry, AreNext, HasCatalogPage}
use Rattle.pm_image.proofs.CatalogReads.{part_length}
use Rattle.pm_image.proofs.PageEnds.{tested_ok, magic_takes, rest_takes}

-- an entry was read: it is spelled there, and may come after what was met
pub record EntryTaken (count : Option ℕ) (met : Met) (page : List ℕ) (place : ℕ) (entry : CatEntry) (next : ℕ) : Type 0 where
  pub stands : Stands page place (entry_spelling entry) next
  pub fits : IsNextEntry count met entry
  pub sized : length (entry_spelling entry) ≡ entry_size entry

-- what must not be false is true
not_false : (b : Bool) → not b ≡ false → b ≡ true
not_false true e = refl
not_false false e = absurd cc

both_true : (a b : Bool) → (a && b) ≡ true → (a ≡ true) × (b ≡ true)
both_true true b e = (refl, e)
both_true false b e = absurd cc

-- how many bytes an entry is spelled in
pub car_size : (car train at : ℕ) (digest : List ℕ) → length digest ≡ 32 → length (entry_spelling (Car car train at digest)) ≡ CAR_ENTRY_BYTES
unfolding entry_spelling
car_size car train at digest long = omega arith

pub root_size : (name : List ℕ) (at : Addr) → length (entry_spelling (Root name at)) ≡ ROOT_ENTRY_BYTES + length name
unfolding entry_spelling address
root_size name at = omega (arith, length-append name)

car_stands : (page : List ℕ) (place : ℕ) → IsBytes page → place + CAR_ENTRY_BYTES ≤ length page → get_or page place 0 ≡ 1
    → Stands page place (entry_spelling (Car (number_from 8 page (place + 1)) (number_from 8 page (place + 9)) (number_from 8 page (place + 17)) (slice_range page (place + 25) (place + CAR_ENTRY_BYTES)))) (place + CAR_ENTRY_BYTES)
unfolding entry_spelling
car_stands page place fits inside kind =
    let car = big_bytes 8 (number_from 8 page (place + 1)) in
    let train = big_bytes 8 (number_from 8 page (place + 9)) in
    let at = big_bytes 8 (number_from 8 page (place + 17)) in
    let digest = slice_range page (place + 25) (place + CAR_ENTRY_BYTES) in
    let s0 = byte_stands page place 1 (omega arith) kind in
    let s1 = number_stands 8 wide_8 page (place + 1) (place + 9) (omega arith) (omega arith) fits in
    let s2 = number_stands 8 wide_8 page (place + 9) (place + 17) (omega arith) (omega arith) fits in
    let s3 = number_stands 8 wide_8 page (place + 17) (place + 25) (omega arith) (omega arith) fits in
    let s4 = between_stands page (place + 25) (place + CAR_ENTRY_BYTES) (omega arith) inside in
    let t3 = Stands-then page at digest (place + 17) (place + 25) (place + CAR_ENTRY_BYTES) s3 s4 in
    let t2 = Stands-then page train (at ++ digest) (place + 9) (place + 17) (place + CAR_ENTRY_BYTES) s2 t3 in
    let t1 = Stands-then page car (train ++ (at ++ digest)) (place + 1) (place + 9) (place + CAR_ENTRY_BYTES) s1 t2 in
    Stands-then page (1 ∷ []) (car ++ (train ++ (at ++ digest))) place (place + 1) (place + CAR_ENTRY_BYTES) s0 t1

car_takes : (count : Option ℕ) (met : Met) (page : List ℕ) (place : ℕ) (x : CatEntry × ℕ) → IsBytes page → place + CAR_ENTRY_BYTES ≤ length page → get_or page place 0 ≡ 1 → is_none met.name ≡ true → car_entry_at count met page place ≡ Ok x → EntryTaken count met page place x.0 x.1
unfolding car_entry_at
car_takes count met page place x fits inside kind first read =
    let car = number_from 8 page (place + 1) in
    let train = number_from 8 page (place + 9) in
    let at = number_from 8 page (place + 17) in
    let made : CatEntry × ℕ = (Car car train at (slice_range page (place + 25) (place + CAR_ENTRY_BYTES)), place + CAR_ENTRY_BYTES) in
    let g = if_ok (eqb car 0 || set.contains met.cars car) (place + 1) (cond (ltb train met.train) (Err (place + 9)) (cond (not (is_free_page count met.pages at)) (Err (place + 17)) (Ok made))) x read in
    let h = if_ok (ltb train met.train) (place + 9) (cond (not (is_free_page count met.pages at)) (Err (place + 17)) (Ok made)) x g.1 in
    let k = if_ok (not (is_free_page count met.pages at)) (place + 17) (Ok made) x h.1 in
    let both = neither (eqb car 0) (set.contains met.cars car) g.0 in
    let taken : EntryTaken count met page place made.0 made.1 = record {
      stands = car_stands page place fits inside kind;
      fits = record { before_roots = first; numbered = not_zero car both.0; other = both.1; in_order = ltb-false train met.train h.0; free = not_false (is_free_page count met.pages at) k.0 };
      sized = car_size car train at (slice_range page (place + 25) (place + CAR_ENTRY_BYTES)) (omega (arith, length-take (place + CAR_ENTRY_BYTES - (place + 25)) (drop (place + 25) page), length-drop (place + 25) page));
    } in
    subst (λ (y : CatEntry × ℕ). EntryTaken count met page place y.0 y.1) (ok_same made x k.1) taken

root_stands : (page : List ℕ) (place : ℕ) → IsBytes page → place + ROOT_ENTRY_BYTES + get_or page (place + 1) 0 ≤ length page → get_or page place 0 ≡ 2
    → Stands page place (entry_spelling (Root (slice_range page (place + 2) (place + 2 + get_or page (place + 1) 0)) (address_at page (place + 2 + get_or page (place + 1) 0)))) (place + ROOT_ENTRY_BYTES + get_or page (place + 1) 0)
unfolding entry_spelling
root_stands page place fits inside kind =
    let len = get_or page (place + 1) 0 in
    let name = slice_range page (place + 2) (place + 2 + len) in
    let at = address_at page (place + 2 + len) in
    let end = place + ROOT_ENTRY_BYTES + len in
    let long : length name ≡ len = part_length page (place + 2) len (omega arith) in
    let s0 = byte_stands page place 2 (omega arith) kind in
    let two : place + 1 + 1 ≡ place + 2 = omega arith in
    let s1 : Stands page (place + 1) (length name ∷ []) (place + 2) = subst (λ (k : ℕ). Stands page (place + 1) (length name ∷ []) k) two (byte_stands page (place + 1) (length name) (omega arith) (sym long)) in
    let s2 = between_stands page (place + 2) (place + 2 + len) (omega arith) (omega arith) in
    let s3 = address_stands page (place + 2 + len) end (omega arith) inside fits in
    let t2 = Stands-then page name (address at) (place + 2) (place + 2 + len) end s2 s3 in
    let t1 = Stands-then page (length name ∷ []) (name ++ address at) (place + 1) (place + 2) end s1 t2 in
    Stands-then page (2 ∷ []) (length name ∷ (name ++ address at)) place (place + 1) end s0 t1

no_fault : (place : ℕ) (found : Option ℕ) (u : Unit {0}) → name_bytes place found ≡ Ok u → found ≡ None
no_fault place None u e = refl
no_fault place (Some ahead) u e = absurd cc

root_takes : (count : Option ℕ) (met : Met) (page : List ℕ) (place : ℕ) (x : CatEntry × ℕ) → IsBytes page → place + ROOT_ENTRY_BYTES + get_or page (place + 1) 0 ≤ length page → get_or page place 0 ≡ 2 → root_entry_at count met page place ≡ Ok x → EntryTaken count met page place x.0 x.1
unfolding root_entry_at
root_takes count met page place x fits inside kind read =
    let len = get_or page (place + 1) 0 in
    let name = slice_range page (place + 2) (place + 2 + len) in
    let at = address_at page (place + 2 + len) in
    let made : CatEntry × ℕ = (Root name at, place + ROOT_ENTRY_BYTES + len) in
    let long : length name ≡ len = part_length page (place + 2) len (omega arith) in
    let a = bind_ok (tested (ltb 0 len && leb len NAME_BYTES) (place + 1)) (λ u. name_bytes (place + 2) (bad_name_byte name) >>= λ v. tested (is_next_name met.name name && has_root_left count met.roots) (place + 1) >>= λ w. tested (ltb 0 at.car) (place + 2 + len) >>= λ z. Ok made) x read in
    let b = bind_ok (name_bytes (place + 2) (bad_name_byte name)) (λ v. tested (is_next_name met.name name && has_root_left count met.roots) (place + 1) >>= λ w. tested (ltb 0 at.car) (place + 2 + len) >>= λ z. Ok made) x a.2 in
    let d = bind_ok (tested (is_next_name met.name name && has_root_left count met.roots) (place + 1)) (λ w. tested (ltb 0 at.car) (place + 2 + len) >>= λ z. Ok made) x b.2 in
    let e = bind_ok (tested (ltb 0 at.car) (place + 2 + len)) (λ z. Ok made) x d.2 in
    let lens = both_true (ltb 0 len) (leb len NAME_BYTES) (tested_ok (ltb 0 len && leb len NAME_BYTES) (place + 1) a.0 a.1) in
    let some = ltb-true 0 len lens.0 in
    let short = leb-true len 64 lens.1 in
    let order = both_true (is_next_name met.name name) (has_root_left count met.roots) (tested_ok _ (place + 1) d.0 d.1) in
    let taken : EntryTaken count met page place made.0 made.1 = record {
      stands = root_stands page place fits inside kind;
      fits = record { named = name_from_bytes name (omega arith) (omega arith) (no_fault (place + 2) (bad_name_byte name) b.0 b.1); in_order = order.0; left = order.1; has_car = ltb-true 0 at.car (tested_ok _ (place + 2 + len) e.0 e.1) };
      sized = root_size name at;
    } in
    subst (λ (y : CatEntry × ℕ). EntryTaken count met page place y.0 y.1) (ok_same made x e.2) taken

-- an entry that was read is spelled there, and may come after what was met
pub entry_takes : (count : Option ℕ) (met : Met) (page : List ℕ) (place : ℕ) (x : CatEntry × ℕ) → IsBytes page → entry_at count met page place ≡ Ok x → EntryTaken count met page place x.0 x.1
unfolding entry_at
entry_takes count met page place x fits read =
    let kind = get_or page place 0 in
    let as_car = cond (ltb (length page) (place + CAR_ENTRY_BYTES) || not (is_none met.name)) (Err place) (car_entry_at count met page place) in
    let as_root = cond (ltb (length page) (place + ROOT_ENTRY_BYTES + get_or page (place + 1) 0)) (Err place) (root_entry_at count met page place) in
    let way = chosen (eqb kind 1) as_car (cond (eqb kind 2) as_root (Err place)) (Ok x) read in
    elim way [
      | inl car ↦
          let g = if_ok (ltb (length page) (place + CAR_ENTRY_BYTES) || not (is_none met.name)) place (car_entry_at count met page place) x car.1 in
          let both = neither (ltb (length page) (place + CAR_ENTRY_BYTES)) (not (is_none met.name)) g.0 in
          car_takes count met page place x fits (ltb-false _ _ both.0) (eqb-true kind 1 car.0) (not_false (is_none met.name) both.1) g.1
      | inr other ↦
          let h = wanted_ok (eqb kind 2) place as_root x other.1 in
          let g = if_ok (ltb (length page) (place + ROOT_ENTRY_BYTES + get_or page (place + 1) 0)) place (root_entry_at count met page place) x h.1 in
          root_takes count met page place x fits (ltb-false _ _ g.0) (eqb-true kind 2 h.0) g.1
    ]

-- an entry ends after its size
pub entry_end : (count : Option ℕ) (met : Met) (page : List ℕ) (place : ℕ) (entry : CatEntry) (next : ℕ) → place ≤ length page → EntryTaken count met page place entry next → place + entry_size entry ≡ next
entry_end count met page place entry next start taken = ap (λ (n : ℕ). place + n) (sym taken.sized) ∙ Stands-end page (entry_spelling entry) place next start taken.stands

-- so many entries were read: they are spelled there, and may come one after the other
pub record EntriesTaken (count : Option ℕ) (met : Met) (page : List ℕ) (place n : ℕ) (entries : List CatEntry) (next : ℕ) : Type 0 where
  pub stands : Stands page place (flat_map entry_spelling entries) next
  pub fits : AreNext count met entries
  pub counted : length entries ≡ n
  pub sized : ENTRIES + length (flat_map entry_spelling entries) ≡ catalog_used entries

pub entries_take : (n : ℕ) (count : Option ℕ) (met : Met) (page : List ℕ) (place : ℕ) (x : List CatEntry × ℕ) → IsBytes page → place ≤ length page → entries_at count met page n place ≡ Ok x → EntriesTaken count met page place n x.0 x.1
unfolding entries_at
entries_take zero count met page place x fits start read =
    let none : List CatEntry × ℕ = ([], place) in
    subst (λ (y : List CatEntry × ℕ). EntriesTaken count met page place 0 y.0 y.1) {x = none} (ok_same none x read) (record { stands = record { inside = start; parts = refl }; fits = tt; counted = refl; sized = refl })
entries_take (suc n) count met page place x fits start read =
    let a = bind_ok (entry_at count met page place) (λ first. entries_at count (meeting met first.0) page n first.1 >>= λ others. Ok (first.0 ∷ others.0, others.1)) x read in
    let b = bind_ok (entries_at count (meeting met a.0.0) page n a.0.1) (λ others. Ok (a.0.0 ∷ others.0, others.1)) x a.2 in
    let first = entry_takes count met page place a.0 fits a.1 in
    let others = entries_take n count (meeting met a.0.0) page a.0.1 b.0 fits first.stands.inside b.1 in
    let made : List CatEntry × ℕ = (a.0.0 ∷ b.0.0, b.0.1) in
    let taken : EntriesTaken count met page place (suc n) made.0 made.1 = record {
      stands = Stands-then page (entry_spelling a.0.0) (flat_map entry_spelling b.0.0) place a.0.1 b.0.1 first.stands others.stands;
      fits = (first.fits, others.fits);
      counted = ap suc others.counted;
      sized = omega (arith, length-append (entry_spelling a.0.0) (flat_map entry_spelling b.0.0), first.sized, others.sized);
    } in
    subst (λ (y : List CatEntry × ℕ). EntriesTaken count met page place (suc n) y.0 y.1) {x = made} (ok_same made x b.2) taken

-- the parts of a page that was read stand one after the other
page_stands : (page : List ℕ) (entries : List CatEntry) (end : ℕ) → IsBytes page → ENTRIES ≤ length page → take 4 page ≡ catalog_magic → length entries ≡ number_from 2 page 44 → Stands page ENTRIES (flat_map entry_spelling entries) end
    → Stands page 0 (catalog_spelling (record { next = number_from 8 page 4; digest = slice_range page 12 44; entries = entries })) end
unfolding catalog_spelling
page_stands page entries end fits long is_magic counted read =
    let next = big_bytes 8 (number_from 8 page 4) in
    let digest = slice_range page 12 44 in
    let len = big_bytes 2 (length entries) in
    let listed = flat_map entry_spelling entries in
    let s0 : Stands page 0 catalog_magic 4 = record { inside = omega arith; parts = sym (take-append-drop 4 page) ∙ ap (λ (t : List ℕ). t ++ drop 4 page) is_magic } in
    let s1 = number_stands 8 wide_8 page 4 12 refl (omega arith) fits in
    let s2 = between_stands page 12 44 (omega arith) (omega arith) in
    let s3 : Stands page 44 len ENTRIES = subst (λ (k : ℕ). Stands page 44 (big_bytes 2 k) ENTRIES) (sym counted) (number_stands 2 wide_2 page 44 ENTRIES refl long fits) in
    let t3 = Stands-then page len listed 44 ENTRIES end s3 read in
    let t2 = Stands-then page digest (len ++ listed) 12 44 end s2 t3 in
    let t1 = Stands-then page next (digest ++ (len ++ listed)) 4 12 end s1 t2 in
    Stands-then page catalog_magic (next ++ (digest ++ (len ++ listed))) 0 4 end s0 t1

-- a spelling that is followed by zeros is padded
is_padded : (page text : List ℕ) (end : ℕ) → length page ≡ PAGE_BYTES → Stands page 0 text end → drop end page ≡ replicate (length page - end) 0 → page ≡ padded text
is_padded page text end whole s rest =
    let long : 0 + length text ≡ end = Stands-end page text 0 end (omega arith) s in
    let left : length page - end ≡ PAGE_BYTES - length text = omega arith in
    s.parts ∙ ap (λ (t : List ℕ). text ++ t) (rest ∙ ap (λ (n : ℕ). replicate n 0) left)

-- a page that was read is spelled so, and may come after what was met
pub catalog_takes : (count : Option ℕ) (met : Met) (page : List ℕ) (read : CatalogPage) → length page ≡ PAGE_BYTES → IsBytes page → catalog_at count met page ≡ Ok read → HasCatalogPage count met read × (page ≡ padded (catalog_spelling read))
unfolding catalog_at
catalog_takes count met page read whole fits is =
    let next = number_from 8 page 4 in
    let digest = slice_range page 12 44 in
    let made : List CatEntry → CatalogPage = λ es. record { next = next; digest = digest; entries = es } in
    let is_next : Result (Unit {0}) ℕ = tested (is_next_page count met.pages next) 4 in
    let has_digest : Result (Unit {0}) ℕ = tested (has_next_digest next digest) 12 in
    let listed = entries_at count (meeting_next met next) page (number_from 2 page 44) ENTRIES in
    let a = bind_ok (magic_at catalog_magic page) (λ u. is_next >>= λ v. has_digest >>= λ w. listed >>= λ es. rest_at page es.1 >>= λ z. Ok (made es.0)) read is in
    let b = bind_ok is_next (λ v. has_digest >>= λ w. listed >>= λ es. rest_at page es.1 >>= λ z. Ok (made es.0)) read a.2 in
    let d = bind_ok has_digest (λ w. listed >>= λ es. rest_at page es.1 >>= λ z. Ok (made es.0)) read b.2 in
    let e = bind_ok listed (λ es. rest_at page es.1 >>= λ z. Ok (made es.0)) read d.2 in
    let f = bind_ok (rest_at page e.0.1) (λ z. Ok (made e.0.0)) read e.2 in
    let taken = entries_take (number_from 2 page 44) count (meeting_next met next) page ENTRIES e.0 fits (omega arith) e.1 in
    let end = Stands-end page (flat_map entry_spelling e.0.0) ENTRIES e.0.1 (omega arith) taken.stands in
    let inside = taken.stands.inside in
    let has : HasCatalogPage count met (made e.0.0) = record {
      fits = omega (arith, taken.sized, end, inside);
      next = tested_ok _ 4 b.0 b.1;
      next_digest = tested_ok _ 12 d.0 d.1;
      entries = taken.fits;
    } in
    let stands = page_stands page e.0.0 e.0.1 fits (omega arith) (magic_takes catalog_magic page a.0 a.1) taken.counted taken.stands in
    let spelled = is_padded page (catalog_spelling (made e.0.0)) e.0.1 whole stands (rest_takes page e.0.1 f.0 f.1) in
    let P : CatalogPage → Type 0 = λ c. HasCatalogPage count met c × (page ≡ padded (catalog_spelling c)) in
    subst P {x = made e.0.0} (ok_same (made e.0.0) read f.2) (has, spelled)

-- what was answered is spelled so, and may come after what was met
pub catalog_found : (count : Option ℕ) (met : Met) (page : List ℕ) (answered : Result CatalogPage PageFault) → length page ≡ PAGE_BYTES → IsBytes page → Gives answered (catalog_at count met page) → IfOk answered (λ read. HasCatalogPage count met read × (page ≡ padded (catalog_spelling read)))
catalog_found count met page (Ok read) whole fits given = catalog_takes count met page read whole fits given
catalog_found count met page (Err fault) whole fits given = tt
