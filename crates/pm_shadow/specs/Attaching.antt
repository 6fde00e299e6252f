-- What is read of a store to find its current header, and why none is found.
use Rattle.std.specs.Prelude.{◌≡◌, ℕ, ◌*◌, ◌<◌, ◌≤◌, Bool, not, List, length, Option, Some, None, Result, Ok, Err, MatchOption, ◌==◌, ◌&&◌, if◌then◌else◌, slice_index}
use Rattle.pm_types.specs.Counts.{ShowsRise}
use Rattle.pm_types.specs.declared.limits.TheConstants.{PAGE_BYTES}
use Rattle.pm_types.specs.declared.fault.OpenFault.{OpenFault}
use Rattle.pm_types.specs.declared.fault.OpenFault.TheVariants.{NotAStore, Version, Damaged, Malformed, Disk, Memory}
use Rattle.pm_layout.specs.Headers.{header_at}
use Rattle.pm_layout.specs.Reading.{number_from}
use Rattle.pm_image.specs.Opening.{Current, current, greater_slot, sound_header, open_gate, is_open, gate_place, header_body_of, page_count}
use Rattle.pm_shadow.specs.State.{State, other}
use Rattle.pm_shadow.specs.declared.attaching.Found.{Found}
use Rattle.pm_shadow.specs.declared.attaching.SlotRead.{SlotRead}
use Rattle.pm_shadow.specs.declared.attaching.Seen.{Seen}

-- a fault that a rule of a header may give
abbrev pub IsOfHeader : OpenFault → Type 0
IsOfHeader NotAStore = Unit {0}
IsOfHeader (Version version) = Unit {0}
IsOfHeader (Damaged page kept found) = Unit {0}
IsOfHeader (Malformed page at) = Unit {0}
IsOfHeader (Disk before after) = ⊥
IsOfHeader (Memory _) = ⊥

-- the rule of a header that these bytes fail, or the disk failed
abbrev pub IsFaultOf : List ℕ → OpenFault → Type 0
IsFaultOf bytes NotAStore = current bytes ≡ Err NotAStore
IsFaultOf bytes (Version version) = current bytes ≡ Err (Version version)
IsFaultOf bytes (Damaged page kept found) = current bytes ≡ Err (Damaged page kept found)
IsFaultOf bytes (Malformed page at) = current bytes ≡ Err (Malformed page at)
IsFaultOf bytes (Disk before after) = Unit {0}
IsFaultOf bytes (Memory _) = ⊥

-- A failure of the disk has raised its count, and comes with the count before and after; any other fault is one
-- of a header, and the count stands still.
abbrev pub IsAttachFault : ℕ → ℕ → OpenFault → Type 0
IsAttachFault before after NotAStore = after ≡ before
IsAttachFault before after (Version version) = after ≡ before
IsAttachFault before after (Damaged page kept found) = after ≡ before
IsAttachFault before after (Malformed page at) = after ≡ before
IsAttachFault before after (Disk b a) = ShowsRise b a before after
IsAttachFault before after (Memory _) = ⊥

-- what was found in bytes that alone a crash may leave
pub record IsFoundIn (bytes : List ℕ) (images : List ℕ → Type 0) (found : Found) : Type 0 where
  pub only : (image : List ℕ) → images image → image ≡ bytes
  pub count : found.count ≡ page_count bytes
  pub now : current bytes ≡ Ok (record { slot = found.slot; header = found.header })
  pub closed : found.closed ≡ not (is_open bytes (other found.slot))

-- the header that was found is the current one of these bytes, and what is known beside it is so
pub record HasFound (s : State) (bytes : List ℕ) : Type 0 where
  pub now : current bytes ≡ Ok (record { slot = s.slot; header = s.header })
  pub count : s.count ≡ page_count bytes
  pub closed : s.closed ≡ not (is_open bytes (other s.slot))

-- a slot as it was read
pub record IsSlotOf (bytes : List ℕ) (slot : ℕ) (read : SlotRead) : Type 0 where
  pub body : read.body ≡ header_body_of bytes slot
  pub gate : read.gate ≡ slice_index bytes (gate_place slot)

-- both slots, of bytes that have them
pub record AreSlotsOf (bytes : List ℕ) (seen : Seen) : Type 0 where
  pub long : 2 * PAGE_BYTES ≤ length bytes
  pub count : seen.count ≡ page_count bytes
  pub zeroth : IsSlotOf bytes 0 seen.zeroth
  pub first : IsSlotOf bytes 1 seen.first

-- nothing where the bytes have no two pages
abbrev pub IsSeenIn : List ℕ → Option Seen → Type 0
IsSeenIn bytes seen = MatchOption seen (length bytes < 2 * PAGE_BYTES) (AreSlotsOf bytes)

-- the gate that was read is open
abbrev pub is_on : SlotRead → Bool
is_on read = read.gate == open_gate

-- the slot that is open; of two, the greater
abbrev pub picked_in : Seen → Option ℕ
picked_in seen =
    if is_on seen.zeroth && is_on seen.first then Some (greater_slot (number_from 4 seen.zeroth.body 12) (number_from 4 seen.first.body 12)) else
    if is_on seen.zeroth then Some 0 else
    if is_on seen.first then Some 1 else None

-- one of the slots
abbrev pub slot_in : Seen → ℕ → SlotRead
slot_in seen slot = if slot == 0 then seen.zeroth else seen.first

-- the header in the slot that was picked
abbrev pub header_seen : Seen → Option ℕ → Result Current OpenFault
header_seen seen None = Err NotAStore
header_seen seen (Some slot) = sound_header seen.count slot (header_at (slot_in seen slot).body)
