-- What is read has numbers and digests such as the types can hold.
use Rattle.std.proofs.Common.{◌≡◌, ℕ, zero, suc, ◌+◌, ◌-◌, ◌<◌, ◌≤◌, ◌^◌, not, ◌||◌, ◌&&◌, cond, eqb, ltb, leb, List, [], ◌∷◌, length, get_or, drop, Option, Some, None, Result, Ok, Err, refl, subst, inl, inr, arith, length-take, length-drop}
use Rattle.std.specs.Option.{is_none}
use Rattle.std.specs.FinSet as set
use Rattle.std.specs.List.{slice_range, AllByRecursion}
use Rattle.std.specs.Prelude.{IfSome}
use Rattle.std.proofs.lemmas.Bool.{ltb-false}
use Rattle.byteorder.specs.Numbers.{big_from-lt}
use Rattle.pm_types.specs.declared.address.Addr.{Addr}
use Rattle.pm_types.specs.declared.limits.TheConstants.{LAST_SLOT, NAME_BYTES, PAGE_BYTES, CAR_HEAD_BYTES}
use Rattle.pm_types.specs.declared.object.Slot.{Slot}
use Rattle.pm_types.specs.declared.object.Slot.TheVariants.{Live, Moved}
use Rattle.pm_layout.specs.declared.fault.LayoutFault.{LayoutFault}
use Rattle.pm_layout.specs.declared.fault.LayoutFault.TheVariants.{Short, Kind, Null}
use Rattle.pm_layout.specs.Spelling.{IsAddress, IsInRange}
use Rattle.pm_layout.specs.Reading.{number_from, address_at, end_at, ident_at, field_count_at, byte_count_at, field_at, fields_at, live_at, target_at, moved_at, slot_at}
use Rattle.pm_layout.proofs.Steps.{chosen, neither}
use Rattle.pm_layout.proofs.Numbers.{IsBytes, IsBytes-drop}
use Rattle.pm_layout.proofs.Slots.{ident_takes}
use Rattle.pm_types.specs.Results.{◌>>=◌}
use Rattle.pm_types.proofs.Results.{bind_ok, ok_same, if_ok, wanted_ok}
use Rattle.pm_image.specs.declared.catalog_kind.TheConstants.{ENTRIES, CAR_ENTRY_BYTES, ROOT_ENTRY_BYTES}
use Rattle.pm_image.specs.declared.car.CarImage.{CarImage}
use Rattle.pm_image.specs.declared.catalog.CatEntry.{CatEntry}
use Rattle.pm_image.specs.declared.catalog.CatEntry.TheVariants.{Car, Root}
use Rattle.pm_image.specs.declared.catalog.CatalogPage.{CatalogPage}
use Rattle.pm_image.specs.Steps.{tested, magic_at, rest_at}
use Rattle.pm_image.specs.CarPages.{CarScope, Numbers, car_at, car_magic, is_named, is_short, is_taken, numbered, record_at, records_at, with_identity}
use Rattle.pm_image.specs.CarAnswers.{IsCarInRange}
use Rattle.pm_image.specs.CatalogPages.{IsCatalogInRange, IsEntryInRange, Met, bad_name_byte, car_entry_at, catalog_at, catalog_magic, entries_at, entry_at, has_next_digest, has_root_left, is_free_page, is_next_name, is_next_page, meeting, meeting_next, name_bytes, root_entry_at}
use Rattle.pm_image.proofs.CatalogReads.{part_length}

-- ---- numbers and addresses

eight : (bytes : List ℕ) (place : ℕ) → IsBytes bytes → number_from 8 bytes place < 2 ^ 64
eight bytes place fits = big_from-lt 0 8 (drop place bytes) (IsBytes-drop place bytes fits)

four : (bytes : List ℕ) (place : ℕ) → IsBytes bytes → number_from 4 bytes place < 2 ^ 32
four bytes place fits = big_from-lt 0 4 (drop place bytes) (IsBytes-drop place bytes fits)

address_range : (bytes : List ℕ) (place : ℕ) → IsBytes bytes → IsAddress (address_at bytes place)
address_range bytes place fits = record { car = eight bytes place fits; slot = four bytes (place + 8) fits }

-- ---- slots

field_range : (bytes : List ℕ) (place : ℕ) (field : Option Addr) → IsBytes bytes → field_at bytes place ≡ Ok field → IfSome field IsAddress
unfolding field_at
field_range bytes place field fits read =
    let a = address_at bytes place in
    let P : Option Addr → Type 0 = λ f. IfSome f IsAddress in
    elim (chosen (ltb 0 a.car) (Ok (Some a)) (cond (eqb a.slot 0) (Ok None) (Err (Null place))) (Ok field) read) [
      | inl some ↦ subst P (ok_same (Some a) field some.1) (address_range bytes place fits)
      | inr none ↦ let g = wanted_ok (eqb a.slot 0) (Null place) (Ok None) field none.1 in subst P (ok_same None field g.1) tt
    ]

fields_range : (n : ℕ) (bytes : List ℕ) (place : ℕ) (fields : List (Option Addr)) → IsBytes bytes → fields_at bytes n place ≡ Ok fields → AllByRecursion (λ f. IfSome f IsAddress) fields
unfolding fields_at
fields_range zero bytes place fields fits read =
    subst (AllByRecursion (λ f. IfSome f IsAddress)) (ok_same [] fields read) tt
fields_range (suc n) bytes place fields fits read =
    let a = bind_ok (field_at bytes place) _ fields read in
    let b = bind_ok (fields_at bytes n (place + 12)) _ fields a.2 in
    subst (AllByRecursion (λ f. IfSome f IsAddress)) (ok_same (a.0 ∷ b.0) fields b.2)
    (field_range bytes place a.0 fits a.1, fields_range n bytes (place + 12) b.0 fits b.1)

live_range : (most : ℕ) (bytes : List ℕ) (at : ℕ) (x : Slot × ℕ) → IsBytes bytes → live_at most bytes at ≡ Ok x → IsInRange x.0
unfolding live_at
live_range most bytes at x fits read =
    let made : ℕ → ℕ → ℕ → List (Option Addr) → Slot × ℕ = λ end id count fs. (Live (record { id = id; fields = fs; bytes = slice_range bytes (end - count) end }), end) in
    let a = bind_ok (end_at bytes at) _ x read in
    let b = bind_ok (ident_at bytes (at + 1)) _ x a.2 in
    let c = bind_ok (field_count_at most bytes (at + 9)) _ x b.2 in
    let d = bind_ok (byte_count_at bytes (at + 11)) _ x c.2 in
    let f = bind_ok (fields_at bytes c.0 (at + 13)) (λ fs. Ok (made a.0 b.0 d.0 fs)) x d.2 in
    subst (λ (y : Slot × ℕ). IsInRange y.0) {x = made a.0 b.0 d.0 f.0} (ok_same (made a.0 b.0 d.0 f.0) x f.2)
    ((ident_takes bytes (at + 1) b.0 b.1).2, fields_range c.0 bytes (at + 13) f.0 fits f.1)

moved_range : (bytes : List ℕ) (at : ℕ) (x : Slot × ℕ) → IsBytes bytes → moved_at bytes at ≡ Ok x → IsInRange x.0
unfolding moved_at target_at
moved_range bytes at x fits read =
    let made : Addr → Slot × ℕ = λ to. (Moved to, at + 13) in
    let here = address_at bytes (at + 1) in
    let g = if_ok (ltb (length bytes) (at + 13)) (Short at) (target_at bytes (at + 1) >>= λ to. Ok (made to)) x read in
    let a = bind_ok (target_at bytes (at + 1)) (λ to. Ok (made to)) x g.1 in
    let h = wanted_ok (ltb 0 here.car) (Null (at + 1)) (Ok here) a.0 a.1 in
    subst (λ (y : Slot × ℕ). IsInRange y.0) (ok_same (made a.0) x a.2) (subst IsAddress (ok_same here a.0 h.1) (address_range bytes (at + 1) fits))

slot_range : (most : ℕ) (bytes : List ℕ) (at : ℕ) (x : Slot × ℕ) → IsBytes bytes → slot_at most bytes at ≡ Ok x → IsInRange x.0
unfolding slot_at
slot_range most bytes at x fits read =
    let kind = get_or bytes at 0 in
    let g = if_ok (leb (length bytes) at) (Short at) (cond (eqb kind 1) (live_at most bytes at) (cond (eqb kind 2) (moved_at bytes at) (Err (Kind at kind)))) x read in
    elim (chosen (eqb kind 1) (live_at most bytes at) (cond (eqb kind 2) (moved_at bytes at) (Err (Kind at kind))) (Ok x) g.1) [
      | inl live ↦ live_range most bytes at x fits live.1
      | inr other ↦ let h = wanted_ok (eqb kind 2) (Kind at kind) (moved_at bytes at) x other.1 in moved_range bytes at x fits h.1
    ]

-- ---- cars

numbered_ok : (place number : ℕ) (read : Result (Slot × ℕ) LayoutFault) (x : (ℕ × Slot) × ℕ) → numbered place number read ≡ Ok x → (y : Slot × ℕ) × (read ≡ Ok y) × (((number, y.0), y.1) ≡ x)
numbered_ok place number (Ok (slot, end)) x e = ((slot, end), refl, ok_same ((number, slot), end) x e)
numbered_ok place number (Err fault) x e = absurd cc

record_range : (scope : CarScope) (met : Numbers) (least : ℕ) (page : List ℕ) (place : ℕ) (x : (ℕ × Slot) × ℕ) → IsBytes page → record_at scope met least page place ≡ Ok x → IsInRange x.0.1
unfolding record_at
record_range scope met least page place x fits is =
    let number = number_from 4 page place in
    let read = slot_at scope.most page (place + 4) in
    let id = number_from 8 page (place + 5) in
    let g = if_ok (is_short read || (ltb number least || ltb LAST_SLOT number)) place (cond (eqb (get_or page (place + 4) 0) 1 && is_taken scope.next met id) (Err (place + 5)) (numbered place number read)) x is in
    let h = if_ok (eqb (get_or page (place + 4) 0) 1 && is_taken scope.next met id) (place + 5) (numbered place number read) x g.1 in
    let n = numbered_ok place number read x h.1 in
    subst (λ (y : (ℕ × Slot) × ℕ). IsInRange y.0.1) {x = ((number, n.0.0), n.0.1)} n.2 (slot_range scope.most page (place + 4) n.0 fits n.1)

records_range : (scope : CarScope) (page : List ℕ) (n : ℕ) (met : Numbers) (least place : ℕ) (x : List (ℕ × Slot) × ℕ) → IsBytes page → records_at scope met least page n place ≡ Ok x → AllByRecursion (λ entry. IsInRange entry.1) x.0
unfolding records_at
records_range scope page zero met least place x fits read =
    let none : List (ℕ × Slot) × ℕ = ([], place) in
    subst (λ (y : List (ℕ × Slot) × ℕ). AllByRecursion (λ entry. IsInRange entry.1) y.0) {x = none} (ok_same none x read) tt
records_range scope page (suc n) met least place x fits read =
    let a = bind_ok (record_at scope met least page place) _ x read in
    let b = bind_ok (records_at scope (with_identity met a.0.0.1) (a.0.0.0 + 1) page n a.0.1) _ x a.2 in
    let made : List (ℕ × Slot) × ℕ = (a.0.0 ∷ b.0.0, b.0.1) in
    subst (λ (y : List (ℕ × Slot) × ℕ). AllByRecursion (λ entry. IsInRange entry.1) y.0) {x = made} (ok_same made x b.2)
    (record_range scope met least page place a.0 fits a.1, records_range scope page n (with_identity met a.0.0.1) (a.0.0.0 + 1) a.0.1 b.0 fits b.1)

-- a car that was read
pub car_range : (scope : CarScope) (met : Numbers) (page : List ℕ) (car : CarImage) → IsBytes page → car_at scope met page ≡ Ok car → IsCarInRange car
unfolding car_at
car_range scope met page car fits read =
    let made : List (ℕ × Slot) → CarImage = λ rs. record { number = number_from 8 page 4; slots = rs } in
    let a = bind_ok (magic_at car_magic page) _ car read in
    let b = bind_ok (tested (is_named scope.number (number_from 8 page 4)) 4) _ car a.2 in
    let c = bind_ok (records_at scope met 0 page (number_from 2 page 12) CAR_HEAD_BYTES) _ car b.2 in
    let d = bind_ok (rest_at page c.0.1) (λ is_all. Ok (made c.0.0)) car c.2 in
    subst IsCarInRange {x = made c.0.0} (ok_same (made c.0.0) car d.2)
    (record { number = eight page 4 fits; slots = records_range scope page (number_from 2 page 12) met 0 CAR_HEAD_BYTES c.0 fits c.1 })

-- ---- the catalog

car_entry_range : (count : Option ℕ) (met : Met) (page : List ℕ) (place : ℕ) (x : CatEntry × ℕ) → IsBytes page → place + CAR_ENTRY_BYTES ≤ length page → car_entry_at count met page place ≡ Ok x → IsEntryInRange x.0
unfolding car_entry_at
car_entry_range count met page place x fits inside read =
    let car = number_from 8 page (place + 1) in
    let train = number_from 8 page (place + 9) in
    let at = number_from 8 page (place + 17) in
    let digest = slice_range page (place + 25) (place + CAR_ENTRY_BYTES) in
    let made : CatEntry × ℕ = (Car car train at digest, place + CAR_ENTRY_BYTES) in
    let g = if_ok (eqb car 0 || set.contains met.cars car) (place + 1) (cond (ltb train met.train) (Err (place + 9)) (cond (not (is_free_page count met.pages at)) (Err (place + 17)) (Ok made))) x read in
    let h = if_ok (ltb train met.train) (place + 9) (cond (not (is_free_page count met.pages at)) (Err (place + 17)) (Ok made)) x g.1 in
    let k = if_ok (not (is_free_page count met.pages at)) (place + 17) (Ok made) x h.1 in
    let long : length digest ≡ 32 = omega (arith, length-take (place + CAR_ENTRY_BYTES - (place + 25)) (drop (place + 25) page), length-drop (place + 25) page) in
    subst (λ (y : CatEntry × ℕ). IsEntryInRange y.0) (ok_same made x k.1) (eight page (place + 1) fits, eight page (place + 9) fits, eight page (place + 17) fits, long)

root_entry_range : (count : Option ℕ) (met : Met) (page : List ℕ) (place : ℕ) (x : CatEntry × ℕ) → IsBytes page → root_entry_at count met page place ≡ Ok x → IsEntryInRange x.0
unfolding root_entry_at
root_entry_range count met page place x fits read =
    let len = get_or page (place + 1) 0 in
    let name = slice_range page (place + 2) (place + 2 + len) in
    let at = address_at page (place + 2 + len) in
    let made : CatEntry × ℕ = (Root name at, place + ROOT_ENTRY_BYTES + len) in
    let a = bind_ok (tested (ltb 0 len && leb len NAME_BYTES) (place + 1)) _ x read in
    let b = bind_ok (name_bytes (place + 2) (bad_name_byte name)) _ x a.2 in
    let d = bind_ok (tested (is_next_name met.name name && has_root_left count met.roots) (place + 1)) _ x b.2 in
    let e = bind_ok (tested (ltb 0 at.car) (place + 2 + len)) (λ z. Ok made) x d.2 in
    subst (λ (y : CatEntry × ℕ). IsEntryInRange y.0) (ok_same made x e.2) (address_range page (place + 2 + len) fits)

entry_range : (count : Option ℕ) (met : Met) (page : List ℕ) (place : ℕ) (x : CatEntry × ℕ) → IsBytes page → entry_at count met page place ≡ Ok x → IsEntryInRange x.0
unfolding entry_at
entry_range count met page place x fits read =
    let kind = get_or page place 0 in
    let as_car = cond (ltb (length page) (place + CAR_ENTRY_BYTES) || not (is_none met.name)) (Err place) (car_entry_at count met page place) in
    let as_root = cond (ltb (length page) (place + ROOT_ENTRY_BYTES + get_or page (place + 1) 0)) (Err place) (root_entry_at count met page place) in
    elim (chosen (eqb kind 1) as_car (cond (eqb kind 2) as_root (Err place)) (Ok x) read) [
      | inl car ↦
          let g = if_ok (ltb (length page) (place + CAR_ENTRY_BYTES) || not (is_none met.name)) place (car_entry_at count met page place) x car.1 in
          let inside = neither (ltb (length page) (place + CAR_ENTRY_BYTES)) (not (is_none met.name)) g.0 in
          car_entry_range count met page place x fits (ltb-false _ _ inside.0) g.1
      | inr other ↦
          let h = wanted_ok (eqb kind 2) place as_root x other.1 in
          let g = if_ok (ltb (length page) (place + ROOT_ENTRY_BYTES + get_or page (place + 1) 0)) place (root_entry_at count met page place) x h.1 in
          root_entry_range count met page place x fits g.1
    ]

entries_range : (n : ℕ) (count : Option ℕ) (met : Met) (page : List ℕ) (place : ℕ) (x : List CatEntry × ℕ) → IsBytes page → entries_at count met page n place ≡ Ok x → AllByRecursion IsEntryInRange x.0
unfolding entries_at
entries_range zero count met page place x fits read =
    let none : List CatEntry × ℕ = ([], place) in
    subst (λ (y : List CatEntry × ℕ). AllByRecursion IsEntryInRange y.0) {x = none} (ok_same none x read) tt
entries_range (suc n) count met page place x fits read =
    let a = bind_ok (entry_at count met page place) _ x read in
    let b = bind_ok (entries_at count (meeting met a.0.0) page n a.0.1) _ x a.2 in
    let made : List CatEntry × ℕ = (a.0.0 ∷ b.0.0, b.0.1) in
    subst (λ (y : List CatEntry × ℕ). AllByRecursion IsEntryInRange y.0) {x = made} (ok_same made x b.2)
    (entry_range count met page place a.0 fits a.1, entries_range n count (meeting met a.0.0) page a.0.1 b.0 fits b.1)

-- a page of the catalog that was read
pub catalog_range : (count : Option ℕ) (met : Met) (page : List ℕ) (read : CatalogPage) → length page ≡ PAGE_BYTES → IsBytes page → catalog_at count met page ≡ Ok read → IsCatalogInRange read
unfolding catalog_at
catalog_range count met page read whole fits is =
    let next = number_from 8 page 4 in
    let digest = slice_range page 12 44 in
    let made : List CatEntry → CatalogPage = λ es. record { next = next; digest = digest; entries = es } in
    let a = bind_ok (magic_at catalog_magic page) _ read is in
    let b = bind_ok (tested (is_next_page count met.pages next) 4) _ read a.2 in
    let d = bind_ok (tested (has_next_digest next digest) 12) _ read b.2 in
    let e = bind_ok (entries_at count (meeting_next met next) page (number_from 2 page 44) ENTRIES) _ read d.2 in
    let f = bind_ok (rest_at page e.0.1) (λ z. Ok (made e.0.0)) read e.2 in
    subst IsCatalogInRange {x = made e.0.0} (ok_same (made e.0.0) read f.2)
    (record { next = eight page 4 fits; digest = part_length page 12 32 (omega arith); entries = entries_range (number_from 2 page 44) count (meeting_next met next) page ENTRIES e.0 fits e.1 })
