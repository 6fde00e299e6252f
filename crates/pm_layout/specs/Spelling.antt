-- How slots are spelled, and which have a spelling.
use Rattle.std.specs.Prelude.{◌≡◌, ℕ, ◌<◌, ◌≤◌, ◌+◌, ◌*◌, ◌^◌, List, ◌∷◌, ◌++◌, length, drop, replicate, Option, Some, None, IfSome}
use Rattle.std.specs.List.{flat_map, AllByRecursion}
use Rattle.byteorder.specs.Endian.{big_bytes}
use Rattle.pm_types.specs.declared.limits.TheConstants.{OBJECT_BYTES, LAST_ID}
use Rattle.pm_types.specs.declared.address.Addr.{Addr}
use Rattle.pm_types.specs.declared.object.Slot.{Slot}
use Rattle.pm_types.specs.declared.object.Slot.TheVariants.{Live, Moved}

-- an address: eight bytes of car and four of slot, the highest byte first
unfoldable pub address : Addr → List ℕ
address a = big_bytes 8 a.car ++ big_bytes 4 a.slot

-- a field: its address, or twelve zero bytes for null
unfoldable pub field : Option Addr → List ℕ
field None = replicate 12 0
field (Some a) = address a

-- a Live slot: 01, identity, number of fields, number of bytes, the fields, the bytes; a Moved slot: 02, address
unfoldable pub spelling : Slot → List ℕ
spelling (Live o) = 1 ∷ (big_bytes 8 o.id ++ (big_bytes 2 (length o.fields) ++ (big_bytes 2 (length o.bytes) ++ (flat_map field o.fields ++ o.bytes))))
spelling (Moved to) = 2 ∷ address to

-- how many bytes a slot is spelled in
abbrev pub slot_size : Slot → ℕ
slot_size (Live o) = 13 + 12 * length o.fields + length o.bytes
slot_size (Moved to) = 13

-- an address has a car from 1 on, and a field is null or has one
abbrev pub HasCar : Option Addr → Type 0
HasCar f = IfSome f (λ a. 0 < a.car)

-- the fields and the bytes of a slot are no more than the limits
abbrev pub IsWithinLimits : ℕ → Slot → Type 0
IsWithinLimits most (Live o) = (length o.fields ≤ most) × (length o.bytes ≤ OBJECT_BYTES)
IsWithinLimits most (Moved to) = Unit {0}

-- the identity is over 0, and each address names a car
abbrev pub IsNumbered : Slot → Type 0
IsNumbered (Live o) = (0 < o.id) × AllByRecursion HasCar o.fields
IsNumbered (Moved to) = 0 < to.car

-- a slot of at most so many fields has a spelling
pub record HasSpelling (most : ℕ) (slot : Slot) : Type 0 where
  pub within : IsWithinLimits most slot
  pub numbered : IsNumbered slot

-- an address is one that the types can hold
pub record IsAddress (a : Addr) : Type 0 where
  pub car : a.car < 2 ^ 64
  pub slot : a.slot < 2 ^ 32

-- the identity and the addresses of a slot are such as the types can hold
abbrev pub IsInRange : Slot → Type 0
IsInRange (Live o) = (o.id ≤ LAST_ID) × AllByRecursion (λ f. IfSome f IsAddress) o.fields
IsInRange (Moved to) = IsAddress to

-- a text stands in the bytes, from a place on and up to the next
pub record Stands (bytes : List ℕ) (place : ℕ) (text : List ℕ) (next : ℕ) : Type 0 where
  pub inside : next ≤ length bytes
  pub parts : drop place bytes ≡ text ++ drop next bytes

-- a slot of at most so many fields is spelled in the bytes, from a place on and up to the next
pub record IsSpelled (most : ℕ) (bytes : List ℕ) (place : ℕ) (slot : Slot) (next : ℕ) : Type 0 where
  pub fits : HasSpelling most slot
  pub stands : Stands bytes place (spelling slot) next
