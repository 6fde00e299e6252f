-- Which header of a store is current, and whether it is sound.
use Rattle.std.specs.Prelude.{ℕ, ◌+◌, ◌*◌, ◌/◌, List, length, drop, take, slice_index, Option, Some, None, Result, Ok, Err, nat_lt, nat_le, ◌==◌, ◌&&◌, if◌then◌else◌, Bool}
use Rattle.pm_types.specs.declared.limits.TheConstants.{PAGE_BYTES}
use Rattle.pm_types.specs.declared.fault.OpenFault.{OpenFault}
use Rattle.pm_types.specs.declared.fault.OpenFault.TheVariants.{NotAStore, Version as OtherVersion, Damaged, Malformed}
use Rattle.pm_layout.specs.declared.header.Header.{Header}
use Rattle.pm_layout.specs.declared.header.HeaderFault.{HeaderFault}
use Rattle.pm_layout.specs.declared.header.HeaderFault.TheVariants.{Magic, Version, Digest, Next}
use Rattle.pm_layout.specs.Headers.{header_at}
use Rattle.pm_layout.specs.Reading.{number_from}

-- the bytes of a page
abbrev pub page_of : List ℕ → ℕ → List ℕ
page_of bytes page = take PAGE_BYTES (drop (PAGE_BYTES * page) bytes)

-- how many whole pages there are
abbrev pub page_count : List ℕ → ℕ
page_count bytes = length bytes / PAGE_BYTES

-- the body of the header in slot 0 or 1, which is on the page of that number
abbrev pub header_body_of : List ℕ → ℕ → List ℕ
header_body_of bytes slot = take 96 (drop (PAGE_BYTES * slot) bytes)

-- the place of the gate of a slot: the last byte of its page
abbrev pub gate_place : ℕ → ℕ
gate_place slot = PAGE_BYTES * slot + 16383

-- the gate of an open slot
abbrev pub open_gate : ℕ
open_gate = 0xa5

-- the slot's gate is open
abbrev pub is_open : List ℕ → ℕ → Bool
is_open bytes slot = slice_index bytes (gate_place slot) == open_gate

-- the epoch that stands in a slot
abbrev pub epoch_in : List ℕ → ℕ → ℕ
epoch_in bytes slot = number_from 4 (header_body_of bytes slot) 12

-- of two open slots the one of the greater epoch, and of equal epochs slot 0
abbrev pub greater_slot : ℕ → ℕ → ℕ
greater_slot zeroth first = if nat_lt zeroth first then 1 else 0

-- the open slot; of two, the greater; none where neither is open
abbrev pub open_slot : List ℕ → Option ℕ
open_slot bytes =
    if is_open bytes 0 && is_open bytes 1 then Some (greater_slot (epoch_in bytes 0) (epoch_in bytes 1)) else
    if is_open bytes 0 then Some 0 else
    if is_open bytes 1 then Some 1 else None

-- a header with the slot that it stands in
pub record Current : Type 0 where
  pub slot : ℕ
  pub header : Header

-- what a fault of a header is for the store
abbrev pub header_refusal : ℕ → HeaderFault → OpenFault
header_refusal slot Magic = NotAStore
header_refusal slot (Version version) = OtherVersion version
header_refusal slot (Digest kept found) = Damaged slot kept found
header_refusal slot Next = Malformed slot 16

-- the first catalog page is one of the store's, after the headers
abbrev pub is_placed : ℕ → Header → Bool
is_placed count header = nat_le 2 header.first && nat_lt header.first count

-- the header that stands in this slot of a store of so many pages
abbrev pub sound_header : ℕ → ℕ → Result Header HeaderFault → Result Current OpenFault
sound_header count slot (Err fault) = Err (header_refusal slot fault)
sound_header count slot (Ok header) = if is_placed count header then Ok (record { slot = slot; header = header }) else Err (Malformed slot 24)

-- the header in the slot that is open, if one is
abbrev pub header_in : List ℕ → Option ℕ → Result Current OpenFault
header_in bytes None = Err NotAStore
header_in bytes (Some slot) = sound_header (page_count bytes) slot (header_at (header_body_of bytes slot))

-- The current header of a store, or the first of these that applies: it is too short, or no slot is open; the
-- header in the open slot is none, is of another version, is damaged, or names what can not be.
unfoldable pub current : List ℕ → Result Current OpenFault
current bytes = if nat_lt (length bytes) (2 * PAGE_BYTES) then Err NotAStore else header_in bytes (open_slot bytes)
