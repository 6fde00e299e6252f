-- What is spelled as a car's page is read.
use Rattle.std.proofs.Common.{◌≡◌, ℕ, ◌+◌, ◌-◌, ◌<◌, ◌≤◌, Bool, true, false, cond, eqb, ltb, ◌||◌, ◌&&◌, List, [], ◌∷◌, ◌++◌, length, get_or, take, drop, replicate, Result, Ok, Err, refl, sym, ap, ◌∙◌, arith, length-append}
use Rattle.std.specs.List.{flat_map, AllByRecursion}
use Rattle.std.proofs.lemmas.Bool.{le-ltb}
use Rattle.std.proofs.lemmas.List.{take_at, drop_at, length-replicate}
use Rattle.byteorder.specs.Endian.{big_bytes}
use Rattle.pm_types.specs.declared.limits.TheConstants.{PAGE_BYTES, LAST_SLOT, CAR_HEAD_BYTES}
use Rattle.pm_types.specs.declared.object.Slot.{Slot}
use Rattle.pm_types.specs.declared.object.Slot.TheVariants.{Live, Moved}
use Rattle.pm_layout.specs.declared.fault.LayoutFault.{LayoutFault}
use Rattle.pm_layout.specs.Spelling.{spelling, slot_size, IsInRange, Stands}
use Rattle.pm_layout.specs.Reading.{number_from, slot_at}
use Rattle.pm_layout.proofs.Steps.{passes}
use Rattle.pm_layout.proofs.Texts.{Stands-split, Stands-end, number_is}
use Rattle.pm_layout.proofs.Again.{slot_again}
use Rattle.pm_image.specs.declared.car.CarImage.{CarImage}
use Rattle.pm_image.specs.Steps.{tested, rest_at}
use Rattle.pm_types.specs.Results.{◌>>=◌}
use Rattle.pm_image.specs.CarPages.{CarScope, Numbers, HasCarPage, AreFree, car_at, car_magic, car_spelling, is_named, is_short, is_taken, numbered, padded, record_at, record_spelling, records_at, with_identity}
use Rattle.pm_image.specs.CarAnswers.{IsCarInRange}
use Rattle.pm_image.proofs.PageEnds.{magic_again, rest_again}
use Rattle.pm_image.proofs.SlotIdents.{ident_of, slot_front}
use Rattle.pm_image.proofs.CarSizes.{record_length, spelling_used, few_slots}
use Rattle.pm_image.proofs.CarTakes.{IsFree, IsRecord, AreRecords}

-- two tests do not both hold where the second does not once the first does
not_both : (a b : Bool) → (a ≡ true → b ≡ false) → (a && b) ≡ false
not_both true b h = h refl
not_both false b h = refl

record_again : (scope : CarScope) (met : Numbers) (least : ℕ) (page : List ℕ) (place number : ℕ) (slot : Slot) (end : ℕ) → scope.most < 65536 → place ≤ length page → IsInRange slot → IsRecord scope met least page place number slot end → record_at scope met least page place ≡ Ok ((number, slot), end)
unfolding record_at
record_again scope met least page place number slot end small start range r =
    let high = r.high in
    let parts = Stands-split page (big_bytes 4 number) (spelling slot) place (place + 4) end start refl r.stands in
    let number_read : number_from 4 page place ≡ number = number_is 4 page place (place + 4) number (omega arith) parts.first in
    let slot_read : slot_at scope.most page (place + 4) ≡ Ok (slot, end) = slot_again scope.most page (place + 4) slot end small parts.first.inside range (record { fits = r.has; stands = parts.second }) in
    let front = slot_front scope.most page (place + 4) (slot, end) slot_read in
    let id = number_from 8 page (place + 5) in
    let there : place + 5 ≡ place + 4 + 1 = omega arith in
    let live = eqb (get_or page (place + 4) 0) 1 in
    let free : (live && is_taken scope.next met id) ≡ false = not_both live (is_taken scope.next met id) (λ is.
    let is_live = sym front.kind ∙ is in
    let ident : id ≡ ident_of slot = ap (λ (k : ℕ). number_from 8 page k) there ∙ front.ident is_live in
    ap (λ (k : ℕ). is_taken scope.next met k) ident ∙ r.free is_live) in
    let range_right : (ltb number least || ltb LAST_SLOT number) ≡ false = ap (λ (b : Bool). b || ltb LAST_SLOT number) (le-ltb _ _ r.low) ∙ le-ltb _ _ r.high in
    let right : Result ((ℕ × Slot) × ℕ) ℕ = Ok ((number, slot), end) in
    let tested_slot : ℕ → Result (Slot × ℕ) LayoutFault → Result ((ℕ × Slot) × ℕ) ℕ = λ n read.
    cond (is_short read || (ltb n least || ltb LAST_SLOT n)) (Err place) (cond (live && is_taken scope.next met id) (Err (place + 5)) (numbered place n read)) in
    ap (λ (n : ℕ). tested_slot n (slot_at scope.most page (place + 4))) number_read
    ∙ ap (λ (read : Result (Slot × ℕ) LayoutFault). tested_slot number read) slot_read
    ∙ passes (ltb number least || ltb LAST_SLOT number) (Err place) (cond (live && is_taken scope.next met id) (Err (place + 5)) right) range_right
    ∙ passes (live && is_taken scope.next met id) (Err (place + 5)) right free

free_first : (next : ℕ) (met : Numbers) (number : ℕ) (slot : Slot) (rs : List (ℕ × Slot)) → AreFree next met ((number, slot) ∷ rs) → IsFree next met slot
free_first next met number (Live o) rs free = λ live. free.0
free_first next met number (Moved to) rs free = λ live. absurd cc

free_others : (next : ℕ) (met : Numbers) (number : ℕ) (slot : Slot) (rs : List (ℕ × Slot)) → AreFree next met ((number, slot) ∷ rs) → AreFree next (with_identity met slot) rs
free_others next met number (Live o) rs free = free.1
free_others next met number (Moved to) rs free = free

records_again : (scope : CarScope) (page : List ℕ) (rs : List (ℕ × Slot)) (met : Numbers) (least place end : ℕ) → scope.most < 65536 → place ≤ length page → AllByRecursion (λ entry. IsInRange entry.1) rs → AreRecords scope met least page place rs end
    → records_at scope met least page (length rs) place ≡ Ok (rs, end)
unfolding records_at
records_again scope page [] met least place end small start range r =
    let same : place ≡ end = let e = Stands-end page [] place end start r.stands in omega arith in
    ap (λ (k : ℕ). Ok ([], k)) same
records_again scope page ((number, slot) ∷ rs) met least place end small start range r =
    let mid = place + (4 + slot_size slot) in
    let parts = Stands-split page (record_spelling (number, slot)) (flat_map record_spelling rs) place mid end start (ap (λ (k : ℕ). place + k) (record_length (number, slot))) r.stands in
    let first : IsRecord scope met least page place number slot mid = record { stands = parts.first; low = r.ascend.0; high = r.ascend.1; free = free_first scope.next met number slot rs r.free; has = r.slots.0 } in
    let others : AreRecords scope (with_identity met slot) (number + 1) page mid rs end = record { stands = parts.second; ascend = r.ascend.2; free = free_others scope.next met number slot rs r.free; slots = r.slots.1 } in
    rw (record_again scope met least page place number slot mid small start range.0 first, records_again scope page rs (with_identity met slot) (number + 1) mid end small parts.first.inside range.1 others) refl

-- a car's page has the bytes of a page
pub page_length : (car : CarImage) → length (car_spelling car) ≤ PAGE_BYTES → length (padded (car_spelling car)) ≡ PAGE_BYTES
page_length car fits =
    let text = car_spelling car in
    omega (arith, length-append text (replicate (PAGE_BYTES - length text) 0), length-replicate {A = ℕ} (PAGE_BYTES - length text) 0)

-- the parts of the page that is spelled so
record CarParts (page : List ℕ) (car : CarImage) (end : ℕ) : Type 0 where
  magic : take 4 page ≡ car_magic
  number : Stands page 4 (big_bytes 8 car.number) 12
  count : Stands page 12 (big_bytes 2 (length car.slots)) CAR_HEAD_BYTES
  records : Stands page CAR_HEAD_BYTES (flat_map record_spelling car.slots) end

parts_of : (page : List ℕ) (car : CarImage) (end : ℕ) → Stands page 0 (car_spelling car) end → CarParts page car end
unfolding car_spelling
parts_of page car end whole =
    let records = flat_map record_spelling car.slots in
    let count = big_bytes 2 (length car.slots) in
    let number = big_bytes 8 car.number in
    let s0 = Stands-split page car_magic (number ++ (count ++ records)) 0 4 end (omega arith) refl whole in
    let s1 = Stands-split page number (count ++ records) 4 12 end s0.first.inside refl s0.second in
    let s2 = Stands-split page count records 12 CAR_HEAD_BYTES end s1.first.inside refl s1.second in
    record { magic = ap (λ (t : List ℕ). take 4 t) s0.first.parts ∙ take_at car_magic (drop 4 page) 4 refl; number = s1.first; count = s2.first; records = s2.second }

-- what is spelled as a car's page is read
pub car_again : (scope : CarScope) (met : Numbers) (page : List ℕ) (car : CarImage) → scope.most < 65536 → HasCarPage scope met car → IsCarInRange car → is_named scope.number car.number ≡ true → page ≡ padded (car_spelling car) → car_at scope met page ≡ Ok car
unfolding car_at
car_again scope met page car small has range named spelled =
    let text = car_spelling car in
    let zeros : List ℕ = replicate (PAGE_BYTES - length text) 0 in
    let rs = car.slots in
    let fits : length text ≤ PAGE_BYTES = let used = has.fits in omega (arith, spelling_used car) in
    let len : length page ≡ PAGE_BYTES = ap length spelled ∙ page_length car fits in
    let whole : Stands page 0 text (length text) = record { inside = omega arith; parts = spelled ∙ ap (λ (t : List ℕ). text ++ t) (sym (drop_at text zeros (length text) refl) ∙ ap (λ (t : List ℕ). drop (length text) t) (sym spelled)) } in
    let parts = parts_of page car (length text) whole in
    let rest : drop (length text) page ≡ zeros = ap (λ (t : List ℕ). drop (length text) t) spelled ∙ drop_at text zeros (length text) refl in
    let number_read : number_from 8 page 4 ≡ car.number = number_is 8 page 4 12 car.number range.number parts.number in
    let count_read : number_from 2 page 12 ≡ length rs = number_is 2 page 12 CAR_HEAD_BYTES (length rs) (few_slots rs has.fits) parts.count in
    let records_read : records_at scope met 0 page (length rs) CAR_HEAD_BYTES ≡ Ok (rs, length text) = records_again scope page rs met 0 CAR_HEAD_BYTES (length text) small parts.count.inside range.slots (record { stands = parts.records; ascend = has.ascend; free = has.free; slots = has.slots }) in
    let after : ℕ → List (ℕ × Slot) × ℕ → Result CarImage ℕ = λ number records. rest_at page records.1 >>= λ is_all. Ok (record { number = number; slots = records.0 }) in
    let counted : ℕ → ℕ → Result CarImage ℕ = λ number n. records_at scope met 0 page n CAR_HEAD_BYTES >>= after number in
    let numbered_ : ℕ → Result CarImage ℕ = λ number. tested (is_named scope.number number) 4 >>= λ is_right. counted number (number_from 2 page 12) in
    rw (magic_again car_magic page parts.magic)
    (ap numbered_ number_read
    ∙ ap (λ (b : Bool). tested {E = ℕ} b 4 >>= λ is_right. counted car.number (number_from 2 page 12)) named
    ∙ ap (counted car.number) count_read
    ∙ ap (λ (read : Result (List (ℕ × Slot) × ℕ) ℕ). read >>= after car.number) records_read
    ∙ ap (λ (read : Result (Unit {0}) ℕ). read >>= λ is_all. Ok (record { number = car.number; slots = rs })) (rest_again page (length text) (PAGE_BYTES - length text) rest))
