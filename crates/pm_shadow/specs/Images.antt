-- What a crash may leave of a store while the next copy is written beside the current one.
use Rattle.std.specs.Prelude.{◌≡◌, ℕ, ◌*◌, ◌<◌, ◌≤◌, true, false, if◌then◌else◌, List, [], ◌∷◌, length, Some, Ok}
use Rattle.pm_types.specs.declared.limits.TheConstants.{PAGE_BYTES}
use Rattle.pm_layout.specs.declared.header.Header.{Header}
use Rattle.pm_layout.specs.Headers.{header_at, header_spelling}
use Rattle.pm_disk.specs.Writes.{written}
use Rattle.pm_image.specs.Opening.{page_of, page_count, header_body_of, gate_place, is_open, epoch_in, greater_slot, open_slot}
use Rattle.pm_shadow.specs.State.{State, other, keeps}

-- This slot is the one that is open, or the one of the greater epoch of two, and this header stands in it.
pub record Heads (image : List ℕ) (slot : ℕ) (header : Header) : Type 0 where
  pub long : 2 * PAGE_BYTES ≤ length image
  pub picked : open_slot image ≡ Some slot
  pub stands : header_at (header_body_of image slot) ≡ Ok header

-- The image has the current header, and each page of the current copy as it is in these bytes. The gate of the
-- other slot is closed; where it is not known to be, the header in the other slot has no greater claim.
pub record Holds (s : State) (bytes image : List ℕ) : Type 0 where
  pub heads : Heads image s.slot s.header
  pub shut : s.closed ≡ true → is_open image (other s.slot) ≡ false
  pub outdone : s.closed ≡ false → greater_slot (epoch_in image 0) (epoch_in image 1) ≡ s.slot
  pub pages : (page : ℕ) → keeps s page ≡ true → 2 ≤ page → page < s.settled → (page < page_count image) × (page_of image page ≡ page_of bytes page)

-- The image has this header in the other slot, as the current one, and each page from page 2 on as it is in these bytes.
pub record Renews (s : State) (header : Header) (bytes image : List ℕ) : Type 0 where
  pub heads : Heads image (other s.slot) header
  pub length : length image ≡ length bytes
  pub pages : (page : ℕ) → 2 ≤ page → page_of image page ≡ page_of bytes page

-- What is known of a disk that holds these bytes: it has at least so many pages, and a crash leaves the current
-- header with its pages.
pub record IsSoundState (s : State) (bytes : List ℕ) (images : List ℕ → Type 0) : Type 0 where
  pub counted : s.count ≤ page_count bytes
  pub each : (image : List ℕ) → images image → Holds s bytes image

-- This page has these bytes, and every other page that there was is as it was.
pub record WritesPage (page : ℕ) (bytes was now : List ℕ) : Type 0 where
  pub there : page < page_count now
  pub here : page_of now page ≡ bytes
  pub others : (other : ℕ) → (other ≡ page → ⊥) → other < page_count was → page_of now other ≡ page_of was other

-- the place where a page begins
abbrev pub place_of : ℕ → ℕ
place_of page = PAGE_BYTES * page

-- bytes with this header in the slot
abbrev pub with_header : ℕ → Header → List ℕ → List ℕ
with_header slot header bytes = written (place_of slot) (header_spelling header) bytes

-- bytes with this gate of the slot
abbrev pub with_gate : ℕ → ℕ → List ℕ → List ℕ
with_gate slot gate bytes = written (gate_place slot) (gate ∷ []) bytes

-- Bytes in which the gate of the other slot is closed. It is written only where it is open,
abbrev pub with_shut_gate : State → List ℕ → List ℕ
with_shut_gate s bytes = if s.closed then bytes else with_gate (other s.slot) 0 bytes

-- by so many writes, and as many syncs.
abbrev pub shutting : State → ℕ
shutting s = if s.closed then 0 else 1
