-- Packed slots, and what they are.
use Rattle.std.proofs.Common.{◌≡◌, ℕ, zero, suc, ◌+◌, ◌-◌, ◌<◌, ◌≤◌, Bool, true, false, get_or, replicate, List, [], ◌∷◌, ◌++◌, length, take, drop, refl, sym, ap, subst, ◌∙◌, append_assoc, arith, length-append}
use Rattle.std.specs.List.{flat_map, AllByRecursion}
use Rattle.std.specs.FinSet as set
use Rattle.std.proofs.lemmas.List.{take_at, drop_at, take_more}
use Rattle.byteorder.specs.Endian.{big_bytes, big_number}
use Rattle.byteorder.specs.Numbers.{big_number-reads_back}
use Rattle.pm_types.specs.declared.limits.TheConstants.{FIELDS, PAGE_BYTES, CAR_HEAD_BYTES}
use Rattle.pm_types.specs.declared.object.Slot.{Slot}
use Rattle.pm_layout.specs.Spelling.{IsInRange, slot_size, spelling}
use Rattle.pm_layout.proofs.Laws.{apart}
use Rattle.pm_image.specs.declared.car.CarImage.{CarImage}
use Rattle.pm_image.specs.CarPages.{HasCarPage, car_spelling, car_used, one_car, padded, record_spelling}
use Rattle.pm_image.proofs.CarAgain.{car_again}
use Rattle.pm_image.proofs.CarSizes.{record_length, records_length, used_counts}
use Rattle.pm_graphs.specs.Settled.Packed.{IsPacked, IsRecord, slots_read, unpacked}

ranges : (slots : List (ℕ × Slot)) → AllByRecursion IsRecord slots → AllByRecursion (λ entry. IsInRange entry.1) slots
ranges [] all = tt
ranges (entry ∷ slots) all = (all.0.range, ranges slots all.1)

-- slots that have a page are what their records spell
pub unpacked_again : (slots : List (ℕ × Slot)) → HasCarPage (one_car FIELDS) set.empty (record { number = 0; slots = slots }) → AllByRecursion IsRecord slots → unpacked (length slots) (flat_map record_spelling slots) ≡ slots
unfolding unpacked car_spelling
unpacked_again slots has all =
    let car : CarImage = record { number = 0; slots = slots } in
    ap slots_read (car_again (one_car FIELDS) set.empty (padded (car_spelling car)) car (omega arith) has (record { number = omega arith; slots = ranges slots all }) refl refl)

-- so they are packed
pub is_packed : (slots : List (ℕ × Slot)) → HasCarPage (one_car FIELDS) set.empty (record { number = 0; slots = slots }) → AllByRecursion IsRecord slots → IsPacked (length slots) (flat_map record_spelling slots)
is_packed slots has all =
    let same = unpacked_again slots has all in
    record {
      counted = sym (ap length same);
      spelled = sym (ap (flat_map record_spelling) same);
      each = subst (AllByRecursion IsRecord) (sym same) all;
    }

-- two records with which one text begins are one
one_record : (a b : ℕ × Slot) (x y : List ℕ) → IsRecord a → IsRecord b → record_spelling a ++ x ≡ record_spelling b ++ y → (a ≡ b) × (x ≡ y)
one_record a b x y is_a is_b same =
    let split : big_bytes 4 a.0 ++ (spelling a.1 ++ x) ≡ big_bytes 4 b.0 ++ (spelling b.1 ++ y) = sym (append_assoc (big_bytes 4 a.0) (spelling a.1) x) ∙ same ∙ append_assoc (big_bytes 4 b.0) (spelling b.1) y in
    let number : a.0 ≡ b.0 =
    sym (big_number-reads_back 4 a.0 (spelling a.1 ++ x) (let fits = is_a.number in omega (arith, fits))) ∙ ap (λ (t : List ℕ). big_number 4 t) split ∙ big_number-reads_back 4 b.0 (spelling b.1 ++ y) (let fits = is_b.number in omega (arith, fits)) in
    let behind : spelling a.1 ++ x ≡ spelling b.1 ++ y = sym (drop_at (big_bytes 4 a.0) (spelling a.1 ++ x) 4 refl) ∙ ap (λ (t : List ℕ). drop 4 t) split ∙ drop_at (big_bytes 4 b.0) (spelling b.1 ++ y) 4 refl in
    let slot = apart FIELDS a.1 b.1 x y (omega arith) is_a.has is_a.range is_b.has is_b.range behind in
    ((λ i. (number i, slot.0 i)), slot.1)

some_bytes : (entry : ℕ × Slot) (x : List ℕ) → [] ≡ record_spelling entry ++ x → ⊥
some_bytes entry x same = let len = ap length same in let more = length-append (record_spelling entry) x in let record_len = record_length entry in omega (arith, len, more, record_len)

-- the records of two lists of slots are the same only where these are
pub one_list : (a b : List (ℕ × Slot)) → AllByRecursion IsRecord a → AllByRecursion IsRecord b → flat_map record_spelling a ≡ flat_map record_spelling b → a ≡ b
one_list [] [] all_a all_b same = refl
one_list [] (y ∷ b) all_a all_b same = absurd (some_bytes y (flat_map record_spelling b) same)
one_list (x ∷ a) [] all_a all_b same = absurd (some_bytes x (flat_map record_spelling a) (sym same))
one_list (x ∷ a) (y ∷ b) all_a all_b same =
    let first = one_record x y (flat_map record_spelling a) (flat_map record_spelling b) all_a.0 all_b.0 same in
    (λ i. first.0 i ∷ one_list a b all_a.1 all_b.1 first.1 i)

-- ---- a car with no slot

no_page : HasCarPage (one_car FIELDS) set.empty (record { number = 0; slots = [] })
no_page = record { fits = omega arith; ascend = tt; free = tt; slots = tt }

pub none_unpacked : unpacked 0 [] ≡ []
none_unpacked = unpacked_again [] no_page tt

pub none_packed : IsPacked 0 []
none_packed = is_packed [] no_page tt

-- ---- a car that is packed

-- the records of a car's page
pub page_records : (car : CarImage) → take (car_used car.slots - CAR_HEAD_BYTES) (drop CAR_HEAD_BYTES (padded (car_spelling car))) ≡ flat_map record_spelling car.slots
unfolding car_spelling
page_records car =
    let records = flat_map record_spelling car.slots in
    let zeros : List ℕ = replicate (PAGE_BYTES - length (car_spelling car)) 0 in
    let behind : drop CAR_HEAD_BYTES (padded (car_spelling car)) ≡ records ++ zeros = refl in
    let counted : car_used car.slots - CAR_HEAD_BYTES ≡ length records = let all = records_length car.slots in omega (arith, all) in
    ap (take (car_used car.slots - CAR_HEAD_BYTES)) behind ∙ ap (λ (n : ℕ). take n (records ++ zeros)) counted ∙ take_at records zeros (length records) refl

-- a car whose slots have a page has one under any number
pub under_none : (car : CarImage) → HasCarPage (one_car FIELDS) set.empty car → HasCarPage (one_car FIELDS) set.empty (record { number = 0; slots = car.slots })
under_none car has = record { fits = has.fits; ascend = has.ascend; free = has.free; slots = has.slots }

-- ---- slots that are compared

either : (result : Bool) → (result ≡ false → ⊥) → result ≡ true
either true not = refl
either false not = absurd (not refl)

pub compared : (result : Bool) (bytes records : List ℕ) (count : ℕ) (slots : List (ℕ × Slot)) → IsPacked count records → bytes ≡ records
    → (result ≡ true → (bytes ≡ flat_map record_spelling slots) × AllByRecursion IsRecord slots)
    → (result ≡ false → AllByRecursion IsRecord slots → bytes ≡ flat_map record_spelling slots → ⊥)
    → (result ≡ true → slots ≡ unpacked count records) × (slots ≡ unpacked count records → result ≡ true)
compared result bytes records count slots packed same when_true when_false = (
  (λ is. let found = when_true is in one_list slots (unpacked count records) found.1 packed.each (sym found.0 ∙ same ∙ packed.spelled)),
  (λ are. either result (λ is. when_false is (subst (AllByRecursion IsRecord) (sym are) packed.each) (same ∙ packed.spelled ∙ ap (flat_map record_spelling) (sym are)))),
)

-- ---- how many bytes are used

used_last : (slots : List (ℕ × Slot)) (entry : ℕ × Slot) → car_used (slots ++ entry ∷ []) ≡ car_used slots + (4 + slot_size entry.1)
used_last [] (number, slot) = omega arith
used_last ((number, slot) ∷ slots) entry = omega (arith, used_last slots entry)

-- one slot more
pub used_more : (slots : List (ℕ × Slot)) (i : ℕ) (entry : ℕ × Slot) → i < length slots → entry ≡ get_or slots i entry → car_used (take (i + 1) slots) ≡ car_used (take i slots) + (4 + slot_size entry.1)
used_more slots i entry inside is =
    ap car_used (take_more slots i entry inside) ∙ used_last (take i slots) (get_or slots i entry) ∙ ap (λ (e : ℕ × Slot). car_used (take i slots) + (4 + slot_size e.1)) (sym is)

-- the front uses no more than all
pub used_front : (slots : List (ℕ × Slot)) (i : ℕ) → car_used (take i slots) ≤ car_used slots
used_front [] zero = omega arith
used_front [] (suc i) = omega arith
used_front ((number, slot) ∷ slots) zero = let all = used_counts slots in omega (arith, all)
used_front ((number, slot) ∷ slots) (suc i) = omega (arith, used_front slots i)
