-- The parts of a car's page, written one behind the other.
use Rattle.std.proofs.Common.{◌≡◌, ℕ, zero, suc, ◌+◌, ◌-◌, ◌<◌, ◌≤◌, List, [], ◌∷◌, ◌++◌, length, take, drop, get_or, replicate, refl, sym, ap, subst, ◌∙◌, append_assoc, arith, length-append}
use Rattle.std.specs.List.{flat_map}
use Rattle.std.proofs.lemmas.List.{drop-replicate, length-replicate, take_at}
use Rattle.byteorder.specs.Endian.{big_bytes}
use Rattle.pm_types.specs.declared.limits.TheConstants.{PAGE_BYTES, CAR_HEAD_BYTES}
use Rattle.pm_types.specs.declared.object.Slot.{Slot}
use Rattle.pm_layout.specs.Spelling.{spelling}
use Rattle.pm_image.specs.declared.car.CarImage.{CarImage}
use Rattle.pm_image.specs.CarPages.{car_magic, car_spelling, car_used, padded, record_spelling}
use Rattle.pm_image.proofs.CarSizes.{records_length, spelling_used}

-- a record of some ends where they end, or before
room_for : (rs : List (ℕ × Slot)) (i : ℕ) (d : ℕ × Slot) → i < length rs → length (flat_map record_spelling (take i rs)) + length (record_spelling (get_or rs i d)) ≤ length (flat_map record_spelling rs)
room_for [] i d lt = absurd (omega arith)
room_for (r ∷ rs) zero d lt = omega (arith, length-append (record_spelling r) (flat_map record_spelling rs))
room_for (r ∷ rs) (suc i) d lt =
    let rest = room_for rs i d (omega (arith, lt)) in
    omega (arith, rest, length-append (record_spelling r) (flat_map record_spelling rs), length-append (record_spelling r) (flat_map record_spelling (take i rs)))

pub record_fits : (rs : List (ℕ × Slot)) (i : ℕ) (entry : ℕ × Slot) → i < length rs → entry ≡ get_or rs i entry → length (flat_map record_spelling (take i rs)) + (4 + length (spelling entry.1)) ≤ length (flat_map record_spelling rs)
record_fits rs i (number, slot) lt is =
    let whole = subst (λ (r : ℕ × Slot). length (flat_map record_spelling (take i rs)) + length (record_spelling r) ≤ length (flat_map record_spelling rs)) (sym is) (room_for rs i (number, slot) lt) in
    omega (arith, whole, length-append (big_bytes 4 number) (spelling slot))

-- the head of a car's page
abbrev car_head : CarImage → List ℕ
car_head car = car_magic ++ (big_bytes 8 car.number ++ big_bytes 2 (length car.slots))

-- the zeros behind the records
abbrev left_over : CarImage → List ℕ
left_over car = replicate (PAGE_BYTES - length (car_spelling car)) 0

head_used : (car : CarImage) → car_head car ++ flat_map record_spelling car.slots ≡ car_spelling car
unfolding car_spelling
head_used car = refl

cut_zeros : (n m all : ℕ) (zeros : List ℕ) → zeros ≡ replicate all 0 → drop n (drop m zeros) ≡ replicate (all - m - n) 0
cut_zeros n m all zeros are = ap (λ (t : List ℕ). drop n (drop m t)) are ∙ ap (drop n) (drop-replicate m all 0) ∙ drop-replicate n (all - m) 0

zeros_left : (car : CarImage) (zeros : List ℕ) → zeros ≡ replicate PAGE_BYTES 0 → drop (length (flat_map record_spelling car.slots)) (drop CAR_HEAD_BYTES zeros) ≡ left_over car
zeros_left car zeros are_zeros =
    let records = flat_map record_spelling car.slots in
    let left : PAGE_BYTES - CAR_HEAD_BYTES - length records ≡ PAGE_BYTES - length (car_spelling car) = omega (arith, spelling_used car, records_length car.slots) in
    cut_zeros (length records) CAR_HEAD_BYTES PAGE_BYTES zeros are_zeros ∙ ap (λ (n : ℕ). replicate n 0) left

-- the head, the records, and zeros behind them are the page
pub all_written : (car : CarImage) (head text zeros : List ℕ) → head ≡ car_magic ++ (big_bytes 8 car.number ++ big_bytes 2 (length car.slots)) → zeros ≡ replicate PAGE_BYTES 0
    → text ≡ flat_map record_spelling car.slots ++ drop (length (flat_map record_spelling car.slots)) (drop CAR_HEAD_BYTES zeros) → head ++ text ≡ padded (car_spelling car)
all_written car head text zeros is_head are_zeros is_text =
    let records = flat_map record_spelling car.slots in
    ap (λ (t : List ℕ). t ++ text) is_head
    ∙ ap (λ (t : List ℕ). car_head car ++ t) (is_text ∙ ap (λ (t : List ℕ). records ++ t) (zeros_left car zeros are_zeros))
    ∙ sym (append_assoc (car_head car) records (left_over car))
    ∙ ap (λ (t : List ℕ). t ++ left_over car) (head_used car)

-- a page is all that was written
pub whole_page : (car : CarImage) (written items : List ℕ) (len : ℕ) → written ≡ padded (car_spelling car) → len ≡ PAGE_BYTES → car_used car.slots ≤ PAGE_BYTES → take len (written ++ drop (length written) items) ≡ padded (car_spelling car)
whole_page car written items len is counted fits =
    let page = padded (car_spelling car) in
    let zeros = PAGE_BYTES - length (car_spelling car) in
    let long : length page ≡ len = omega (arith, counted, fits, spelling_used car, length-append (car_spelling car) (replicate zeros 0), length-replicate {A = ℕ} zeros 0) in
    ap (λ (t : List ℕ). take len (t ++ drop (length t) items)) is ∙ take_at page (drop (length page) items) len long
