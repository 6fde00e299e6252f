-- What the used bytes of a car's page spell.
use Rattle.std.specs.Prelude.{◌≡◌, ℕ, ◌<◌, ◌^◌, List, [], ◌∷◌, ◌++◌, length, Result, Ok, Err}
use Rattle.std.specs.List.{flat_map, AllByRecursion}
use Rattle.std.specs.FinSet as set
use Rattle.byteorder.specs.Endian.{big_bytes}
use Rattle.pm_types.specs.declared.limits.TheConstants.{FIELDS}
use Rattle.pm_types.specs.declared.object.Slot.{Slot}
use Rattle.pm_layout.specs.Spelling.{HasSpelling, IsInRange}
use Rattle.pm_image.specs.declared.car.CarImage.{CarImage}
use Rattle.pm_image.specs.CarPages.{car_at, car_magic, one_car, padded, record_spelling}

-- the first bytes of an object's spelling: its kind, its identity, and how many fields and bytes it has
abbrev pub head_spelling : ℕ → ℕ → ℕ → List ℕ
head_spelling id fields count = 1 ∷ (big_bytes 8 id ++ (big_bytes 2 fields ++ big_bytes 2 count))

-- a slot has a spelling, and its numbers are such as the types can hold
pub record IsRecord (entry : ℕ × Slot) : Type 0 where
  pub number : entry.0 < 2 ^ 32
  pub has : HasSpelling FIELDS entry.1
  pub range : IsInRange entry.1

-- the slots of a page that is read, none where it is no car's
abbrev pub slots_read : Result CarImage ℕ → List (ℕ × Slot)
slots_read (Ok car) = car.slots
slots_read (Err at) = []

-- the slots that so many records spell, as a page would list them
unfoldable pub unpacked : ℕ → List ℕ → List (ℕ × Slot)
unpacked count records =
    slots_read (car_at (one_car FIELDS) set.empty (padded (car_magic ++ (big_bytes 8 0 ++ (big_bytes 2 count ++ records)))))

-- the bytes are the records of the slots that they spell, as many as are counted
pub record IsPacked (count : ℕ) (records : List ℕ) : Type 0 where
  pub counted : count ≡ length (unpacked count records)
  pub spelled : records ≡ flat_map record_spelling (unpacked count records)
  pub each : AllByRecursion IsRecord (unpacked count records)
