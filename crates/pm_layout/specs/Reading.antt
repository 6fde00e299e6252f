-- Reading a slot from left to right, with the first fault that is met. Bytes are read at places of the whole.
use Rattle.std.specs.Prelude.{◌≡◌, ℕ, zero, suc, ◌+◌, ◌-◌, ◌*◌, List, [], ◌∷◌, length, drop, slice_index, slice_range, Option, Some, None, Result, Ok, Err, nat_lt, nat_le, ◌==◌, ◌||◌, if◌then◌else◌}
use Rattle.pm_types.specs.Results.{◌>>=◌}
use Rattle.byteorder.specs.Endian.{big_number}
use Rattle.pm_types.specs.declared.limits.TheConstants.{OBJECT_BYTES, LAST_ID}
use Rattle.pm_types.specs.declared.address.Addr.{Addr}
use Rattle.pm_types.specs.declared.object.Slot.{Slot}
use Rattle.pm_types.specs.declared.object.Slot.TheVariants.{Live, Moved}
use Rattle.pm_layout.specs.declared.fault.LayoutFault.{LayoutFault}
use Rattle.pm_layout.specs.declared.fault.LayoutFault.TheVariants.{Short, Kind, Fields, Count, Null, Ident, Memory}

-- Memory runs out only once a slot's kind, length, identity and counts were read without a fault: then
-- the slot has no fault, or that of an address. (Reading itself never gives Memory.)
abbrev pub CanRunOut : {X : Type 0} → Result X LayoutFault → Type 0
CanRunOut (Ok x) = Unit {0}
CanRunOut (Err (Short at)) = ⊥
CanRunOut (Err (Kind at byte)) = ⊥
CanRunOut (Err (Fields at n)) = ⊥
CanRunOut (Err (Count at n)) = ⊥
CanRunOut (Err (Null at)) = Unit {0}
CanRunOut (Err (Ident at)) = ⊥
CanRunOut (Err (Memory _)) = Unit {0}

-- an error that was answered is the fault that reading meets, or memory ran out
abbrev pub Fails : {X : Type 0} → LayoutFault → Result X LayoutFault → Type 0
Fails (Memory _) read = CanRunOut read
Fails (Short at) read = read ≡ Err (Short at)
Fails (Kind at byte) read = read ≡ Err (Kind at byte)
Fails (Fields at n) read = read ≡ Err (Fields at n)
Fails (Count at n) read = read ≡ Err (Count at n)
Fails (Null at) read = read ≡ Err (Null at)
Fails (Ident at) read = read ≡ Err (Ident at)

-- what was answered is what reading gives, unless memory ran out
abbrev pub Gives : {X : Type 0} → Result X LayoutFault → Result X LayoutFault → Type 0
Gives (Ok x) read = read ≡ Ok x
Gives (Err e) read = Fails e read

-- the number in the n bytes from a place on, the highest byte first
abbrev pub number_from : ℕ → List ℕ → ℕ → ℕ
number_from n bytes place = big_number n (drop place bytes)

-- the place after the head of 13 bytes, the fields and the bytes of a Live slot, by the counts that it has
abbrev pub live_end : List ℕ → ℕ → ℕ
live_end bytes at = at + 13 + 12 * number_from 2 bytes (at + 9) + number_from 2 bytes (at + 11)

-- that place, where it is inside the bytes
unfoldable pub end_at : List ℕ → ℕ → Result ℕ LayoutFault
end_at bytes at =
    if nat_lt (length bytes) (at + 13) then Err (Short at) else
    if nat_lt (length bytes) (live_end bytes at) then Err (Short at) else Ok (live_end bytes at)

-- an identity, from 1 to the last
unfoldable pub ident_at : List ℕ → ℕ → Result ℕ LayoutFault
ident_at bytes place =
    let id = number_from 8 bytes place in
    if (id == 0) || nat_lt LAST_ID id then Err (Ident place) else Ok id

-- a number of fields, within the limit
unfoldable pub field_count_at : ℕ → List ℕ → ℕ → Result ℕ LayoutFault
field_count_at most bytes place =
    let n = number_from 2 bytes place in
    if nat_lt most n then Err (Fields place n) else Ok n

-- a number of bytes, within the limit
unfoldable pub byte_count_at : List ℕ → ℕ → Result ℕ LayoutFault
byte_count_at bytes place =
    let n = number_from 2 bytes place in
    if nat_lt OBJECT_BYTES n then Err (Count place n) else Ok n

-- an address, whatever its numbers are
abbrev pub address_at : List ℕ → ℕ → Addr
address_at bytes place = record { car = number_from 8 bytes place; slot = number_from 4 bytes (place + 8) }

-- a field: with car 0 it is null, and its slot is 0
unfoldable pub field_at : List ℕ → ℕ → Result (Option Addr) LayoutFault
field_at bytes place =
    let a = address_at bytes place in
    if nat_lt 0 a.car then Ok (Some a) else
    if a.slot == 0 then Ok None else Err (Null place)

-- so many fields, of 12 bytes each
unfoldable pub fields_at : List ℕ → ℕ → ℕ → Result (List (Option Addr)) LayoutFault
fields_at bytes zero place = Ok []
fields_at bytes (suc n) place = do
  first ← field_at bytes place
  others ← fields_at bytes n (place + 12)
  Ok (first ∷ others)

-- a Live slot, and the place after it
unfoldable pub live_at : ℕ → List ℕ → ℕ → Result (Slot × ℕ) LayoutFault
live_at most bytes at = do
  end ← end_at bytes at
  id ← ident_at bytes (at + 1)
  fields ← field_count_at most bytes (at + 9)
  count ← byte_count_at bytes (at + 11)
  addresses ← fields_at bytes fields (at + 13)
  Ok (Live (record { id = id; fields = addresses; bytes = slice_range bytes (end - count) end }), end)

-- the address that a Moved slot keeps, which is not null
unfoldable pub target_at : List ℕ → ℕ → Result Addr LayoutFault
target_at bytes place =
    let a = address_at bytes place in
    if nat_lt 0 a.car then Ok a else Err (Null place)

-- a Moved slot, and the place after it
unfoldable pub moved_at : List ℕ → ℕ → Result (Slot × ℕ) LayoutFault
moved_at bytes at =
    if nat_lt (length bytes) (at + 13) then Err (Short at) else do
      to ← target_at bytes (at + 1)
      Ok (Moved to, at + 13)

-- a slot of at most so many fields, and the place after it
unfoldable pub slot_at : ℕ → List ℕ → ℕ → Result (Slot × ℕ) LayoutFault
slot_at most bytes at =
    if nat_le (length bytes) at then Err (Short at) else
    if slice_index bytes at == 1 then live_at most bytes at else
    if slice_index bytes at == 2 then moved_at bytes at else Err (Kind at (slice_index bytes at))
