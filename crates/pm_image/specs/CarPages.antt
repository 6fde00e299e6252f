-- How the page of a car is spelled, and how it is read from left to right with the first fault that is met. A
-- fault is the place in the page of the first byte of the field at fault.
use Rattle.std.specs.Prelude.{◌≡◌, ℕ, zero, suc, ◌+◌, ◌-◌, ◌≤◌, List, [], ◌∷◌, ◌++◌, length, replicate, slice_index, Option, Some, None, Result, Ok, Err, nat_lt, nat_le, ◌==◌, ◌||◌, ◌&&◌, if◌then◌else◌, Bool, true, false}
use Rattle.std.specs.List.{flat_map, AllByRecursion}
use Rattle.std.specs.Ordering.{nat_cmp}
use Rattle.std.specs.FinSet as set
use Rattle.byteorder.specs.Endian.{big_bytes}
use Rattle.pm_types.specs.declared.limits.TheConstants.{PAGE_BYTES, LAST_SLOT, CAR_HEAD_BYTES, END_ID}
use Rattle.pm_types.specs.declared.object.Slot.{Slot}
use Rattle.pm_types.specs.declared.object.Slot.TheVariants.{Live, Moved}
use Rattle.pm_layout.specs.declared.fault.LayoutFault.{LayoutFault}
use Rattle.pm_layout.specs.declared.fault.LayoutFault.TheVariants.{Short, Kind, Fields, Count, Null, Ident, Memory}
use Rattle.pm_layout.specs.Spelling.{spelling, slot_size, HasSpelling}
use Rattle.pm_layout.specs.Reading.{number_from, slot_at}
use Rattle.pm_image.specs.declared.car.CarImage.{CarImage}
use Rattle.pm_image.specs.Steps.{tested, magic_at, rest_at}
use Rattle.pm_types.specs.Results.{◌>>=◌}

-- PCAR
abbrev pub car_magic : List ℕ
car_magic = 0x50 ∷ 0x43 ∷ 0x41 ∷ 0x52 ∷ []

-- a record: the number of the slot, and the slot
abbrev pub record_spelling : ℕ × Slot → List ℕ
record_spelling (number, slot) = big_bytes 4 number ++ spelling slot

-- the used bytes of a car's page: the magic, the number, how many slots are listed, and their records
unfoldable pub car_spelling : CarImage → List ℕ
car_spelling car = car_magic ++ (big_bytes 8 car.number ++ (big_bytes 2 (length car.slots) ++ flat_map record_spelling car.slots))

-- so many bytes are used
abbrev pub car_used : List (ℕ × Slot) → ℕ
car_used [] = CAR_HEAD_BYTES
car_used ((number, slot) ∷ records) = (4 + slot_size slot) + car_used records

-- used bytes, and zeros to the page's end
abbrev pub padded : List ℕ → List ℕ
padded used = used ++ replicate (PAGE_BYTES - length used) 0

-- sets of numbers: identities, cars, pages
abbrev pub Numbers : Type 0
Numbers = set.FinSet nat_cmp

-- What the page of a car is read against: the most fields of an object, the next identity, and the number that
-- the car must have, if it is known.
pub record CarScope : Type 0 where
  pub most : ℕ
  pub next : ℕ
  pub number : Option ℕ

-- a page by itself: any car, and each identity that there is
abbrev pub one_car : ℕ → CarScope
one_car most = record { most = most; next = END_ID; number = None }

-- the slot does not end inside the page
abbrev pub is_short : {X : Type 0} → Result X LayoutFault → Bool
is_short (Ok x) = false
is_short (Err (Short at)) = true
is_short (Err (Kind at byte)) = false
is_short (Err (Fields at n)) = false
is_short (Err (Count at n)) = false
is_short (Err (Null at)) = false
is_short (Err (Ident at)) = false
is_short (Err (Memory _)) = false

-- where the first fault of a slot stands (one that is cut, and one that could not be read for want of memory, have none but its beginning)
abbrev pub fault_place : ℕ → LayoutFault → ℕ
fault_place place (Short at) = place
fault_place place (Kind at byte) = at
fault_place place (Fields at n) = at
fault_place place (Count at n) = at
fault_place place (Null at) = at
fault_place place (Ident at) = at
fault_place place (Memory _) = place

-- this slot that was read has this number, or the fault stands where the slot's stands
abbrev pub numbered : ℕ → ℕ → Result (Slot × ℕ) LayoutFault → Result ((ℕ × Slot) × ℕ) ℕ
numbered place number (Ok (slot, end)) = Ok ((number, slot), end)
numbered place number (Err fault) = Err (fault_place place fault)

-- no object can have this identity: it is 0, not below the next one, or was met before
abbrev pub is_taken : ℕ → Numbers → ℕ → Bool
is_taken next met id = (id == 0) || (nat_le next id || set.contains met id)

-- A record: it ends inside the page, its slot is not below the least that it may have, nor over the last, its
-- kind is one of the two, its identity is not taken, its counts are within the limits, its addresses have a car.
unfoldable pub record_at : CarScope → Numbers → ℕ → List ℕ → ℕ → Result ((ℕ × Slot) × ℕ) ℕ
record_at scope met least page place =
    let number = number_from 4 page place in
    let read = slot_at scope.most page (place + 4) in
    if is_short read || (nat_lt number least || nat_lt LAST_SLOT number) then Err place else
    if (slice_index page (place + 4) == 1) && is_taken scope.next met (number_from 8 page (place + 5)) then Err (place + 5) else
    numbered place number read

-- the identity that a slot has, if it has one
abbrev pub with_identity : Numbers → Slot → Numbers
with_identity met (Live object) = set.insert met object.id
with_identity met (Moved to) = met

-- so many records from a place on, and the place after the last of them
unfoldable pub records_at : CarScope → Numbers → ℕ → List ℕ → ℕ → ℕ → Result (List (ℕ × Slot) × ℕ) ℕ
records_at scope met least page zero place = Ok ([], place)
records_at scope met least page (suc n) place = do
  first ← record_at scope met least page place
  others ← records_at scope (with_identity met first.0.1) (first.0.0 + 1) page n first.1
  Ok (first.0 ∷ others.0, others.1)

-- the number is the one that the car must have
abbrev pub is_named : Option ℕ → ℕ → Bool
is_named None number = true
is_named (Some expected) number = number == expected

-- The page of a car, with these identities met before: its magic, its number, its records, and zeros.
unfoldable pub car_at : CarScope → Numbers → List ℕ → Result CarImage ℕ
car_at scope met page = do
  is_car ← magic_at car_magic page
  is_right ← tested (is_named scope.number (number_from 8 page 4)) 4
  records ← records_at scope met 0 page (number_from 2 page 12) CAR_HEAD_BYTES
  is_all ← rest_at page records.1
  Ok (record { number = number_from 8 page 4; slots = records.0 })

-- each slot's number is over those before it, and none is over the last
abbrev pub Ascend : ℕ → List (ℕ × Slot) → Type 0
Ascend least [] = Unit {0}
Ascend least ((number, slot) ∷ records) = (least ≤ number) × (number ≤ LAST_SLOT) × Ascend (number + 1) records

-- the identities of a list of slots are not taken, and differ
abbrev pub AreFree : ℕ → Numbers → List (ℕ × Slot) → Type 0
AreFree next met [] = Unit {0}
AreFree next met ((number, Live object) ∷ records) = (is_taken next met object.id ≡ false) × AreFree next (set.insert met object.id) records
AreFree next met ((number, Moved to) ∷ records) = AreFree next met records

-- A car has a page: it fits one, its slots ascend, its identities differ, and each slot has a spelling.
pub record HasCarPage (scope : CarScope) (met : Numbers) (car : CarImage) : Type 0 where
  pub fits : car_used car.slots ≤ PAGE_BYTES
  pub ascend : Ascend 0 car.slots
  pub free : AreFree scope.next met car.slots
  pub slots : AllByRecursion (λ entry. HasSpelling scope.most entry.1) car.slots
