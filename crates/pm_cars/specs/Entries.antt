-- How a car keeps its slots: a list of them with what they hold, in their order.
use Rattle.std.specs.Prelude.{◌≡◌, ℕ, ◌+◌, ◌<◌, ◌≤◌, ◌==◌, ◌≢◌, Bool, true, false, cond, List, [], ◌∷◌, length, map, slice_index, Option, Some, None}
use Rattle.std.specs.List.{position_or_len}
use Rattle.std.specs.FinMap.{from_entries}
use Rattle.pm_types.specs.declared.object.Slot.{Slot}
use Rattle.pm_types.specs.declared.object.Slot.TheVariants.{Live, Moved}
use Rattle.pm_cars.specs.Cars.{Slots, total, slot_room, one_live}
use Rattle.pm_types.specs.declared.limits.TheConstants.{CAR_BYTES, CAR_HEAD_BYTES, LAST_SLOT}

-- a slot, and what it holds
abbrev pub Entry : Type 0
Entry = ℕ × Slot

-- the slots of the entries, in their order
abbrev pub numbers : List Entry → List ℕ
numbers es = map (λ e. e.0) es

-- what the first entry of this slot holds
abbrev pub content_at : List Entry → ℕ → Option Slot
content_at [] q = None
content_at (e ∷ es) q = cond (e.0 == q) (Some e.1) (content_at es q)

-- the entries as a map
abbrev pub slots_of : List Entry → Slots
slots_of es = from_entries es

-- the entries, with this in the first entry of the slot
abbrev pub with_content : List Entry → ℕ → Slot → List Entry
with_content [] k content = []
with_content (e ∷ es) k content = cond (e.0 == k) ((k, content) ∷ es) (e ∷ with_content es k content)

-- the entries without the first of the slot
abbrev pub without : List Entry → ℕ → List Entry
without [] k = []
without (e ∷ es) k = cond (e.0 == k) es (e ∷ without es k)

-- a slot that holds this is Live
abbrev pub holds_object : Slot → Bool
holds_object (Live object) = true
holds_object (Moved to) = false

-- the entry's slot is Live
abbrev pub is_live : Entry → Bool
is_live e = holds_object e.1

-- the place of the first Live entry, or the number of entries where there is none
abbrev pub first_place : List Entry → ℕ
first_place es = position_or_len is_live es

-- the numbers rise
abbrev pub IsAscending : List ℕ → Type 0
IsAscending ks = (i j : ℕ) → i < j → j < length ks → slice_index ks i < slice_index ks j

-- the entry at this place is of this slot
pub record IsAt (es : List Entry) (slot place : ℕ) : Type 0 where
  pub within : place < length es
  pub here : slice_index (numbers es) place ≡ slot

-- no entry is of this slot
abbrev pub HasNone : List Entry → ℕ → Type 0
HasNone es slot = (i : ℕ) → i < length es → slice_index (numbers es) i ≢ slot

-- what a car keeps: entries in order and below the next slot, their room, how many are Live and which is the first, and
-- space for births
pub record IsKept (es : List Entry) (next used live first spare capacity : ℕ) : Type 0 where
  pub ascending : IsAscending (numbers es)
  pub below : (i : ℕ) → i < length (numbers es) → slice_index (numbers es) i < next
  pub last : next ≤ LAST_SLOT + 1
  pub counted : used ≡ CAR_HEAD_BYTES + total slot_room (slots_of es)
  pub within : used ≤ CAR_BYTES
  pub lives : live ≡ total one_live (slots_of es)
  pub lowest : first ≡ first_place es
  pub space : length es + spare ≤ capacity
