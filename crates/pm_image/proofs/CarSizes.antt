-- How long the spellings of cars are.
use Rattle.std.proofs.Common.{◌≡◌, ℕ, ◌+◌, ◌*◌, ◌<◌, ◌≤◌, List, [], ◌∷◌, length, arith, length-append}
use Rattle.std.specs.List.{flat_map}
use Rattle.byteorder.specs.Endian.{big_bytes}
use Rattle.pm_types.specs.declared.limits.TheConstants.{PAGE_BYTES, CAR_HEAD_BYTES}
use Rattle.pm_types.specs.declared.object.Slot.{Slot}
use Rattle.pm_types.specs.declared.object.Slot.TheVariants.{Live, Moved}
use Rattle.pm_layout.specs.Spelling.{spelling, slot_size}
use Rattle.pm_layout.proofs.Sizes.{spelling_length}
use Rattle.pm_image.specs.declared.car.CarImage.{CarImage}
use Rattle.pm_image.specs.CarPages.{record_spelling, car_used, car_spelling}

-- a record has four bytes more than its slot
pub record_length : (r : ℕ × Slot) → length (record_spelling r) ≡ 4 + slot_size r.1
record_length (number, slot) = omega (arith, length-append (big_bytes 4 number) (spelling slot), spelling_length slot)

-- the records have the bytes that are used, but for the head's
pub records_length : (rs : List (ℕ × Slot)) → CAR_HEAD_BYTES + length (flat_map record_spelling rs) ≡ car_used rs
records_length [] = omega arith
records_length ((number, slot) ∷ rs) = omega (arith, length-append (record_spelling (number, slot)) (flat_map record_spelling rs), record_length (number, slot), records_length rs)

-- a car has the bytes that are used
pub spelling_used : (car : CarImage) → length (car_spelling car) ≡ car_used car.slots
unfolding car_spelling
spelling_used car = omega (arith, records_length car.slots)

slot_has : (slot : Slot) → 13 ≤ slot_size slot
slot_has (Live o) = omega arith
slot_has (Moved to) = omega arith

-- each record has 17 bytes at least
pub used_counts : (rs : List (ℕ × Slot)) → CAR_HEAD_BYTES + 17 * length rs ≤ car_used rs
used_counts [] = omega arith
used_counts ((number, slot) ∷ rs) = omega (arith, slot_has slot, used_counts rs)

-- two bytes count the slots of a page
pub few_slots : (rs : List (ℕ × Slot)) → car_used rs ≤ PAGE_BYTES → length rs < 65536
few_slots rs fits = omega (arith, used_counts rs)
