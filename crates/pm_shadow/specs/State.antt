-- What contracts see of the pages of a store, beside the disk.
use Rattle.std.specs.Prelude.{◌≡◌, ℕ, ◌-◌, ◌+◌, ◌<◌, ◌≤◌, Bool, true, false, not, List, [], length, max}
use Rattle.pm_layout.specs.declared.header.Header.{Header}
use Rattle.pm_image.specs.Blank.{blank_header}
use Rattle.pm_shadow.specs.declared.page_use.PageUse.{PageUse}
use Rattle.pm_shadow.specs.declared.page_use.PageUse.TheVariants.{Free, Current, Claimed, Kept}
use Rattle.pm_layout.specs.Headers.{HasHeaderSpelling}
use Rattle.pm_types.specs.declared.limits.TheConstants.{PAGE_BYTES}
use Rattle.pm_shadow.specs.Uses.{use_of, with_use, is_next, new_uses, renewed_uses, abandoned_uses}

-- The current header and the slot where it stands; how many pages the store had when that header was found or
-- published, and how many it has now; whether the pages of the current copy are known, and what each page is used
-- for; whether the gate of the other slot is closed, whatever a crash leaves; whether a publish has failed.
pub record State : Type 0 where
  pub slot : ℕ
  pub header : Header
  pub settled : ℕ
  pub count : ℕ
  pub known : Bool
  pub uses : ℕ → PageUse
  pub closed : Bool
  pub failed : Bool

-- the slot where the next header goes
abbrev pub other : ℕ → ℕ
other slot = 1 - slot

-- The current copy may stand on a page of this use. Where its pages are not known, it may stand on any that
-- was not claimed.
abbrev pub keeps_by : Bool → PageUse → Bool
keeps_by known Free = not known
keeps_by known Current = true
keeps_by known Claimed = false
keeps_by known Kept = true

-- the current copy may stand on this page
abbrev pub keeps : State → ℕ → Bool
keeps s page = keeps_by s.known (s.uses page)

-- a page that may be listed as one of the current copy: it was there when the copy became current, or was found
pub record IsListable (s : State) (page : ℕ) : Type 0 where
  pub from_2 : 2 ≤ page
  pub there : page < s.settled

-- a page of the current copy, whose pages are known: the next copy may keep it
pub record IsKeepable (s : State) (page : ℕ) : Type 0 where
  pub known : s.known ≡ true
  pub from_2 : 2 ≤ page
  pub kept : keeps s page ≡ true

-- a page that was claimed may be written whole, while no publish has failed
pub record IsWritable (s : State) (page : ℕ) (bytes : List ℕ) : Type 0 where
  pub claimed : s.uses page ≡ Claimed
  pub len : length bytes ≡ PAGE_BYTES
  pub sound : s.failed ≡ false

-- a header may be published: the other gate is closed, no publish has failed, and it can be spelled and comes later
pub record IsPublishable (s : State) (header : Header) : Type 0 where
  pub closed : s.closed ≡ true
  pub sound : s.failed ≡ false
  pub spelled : HasHeaderSpelling header
  pub later : s.header.epoch < header.epoch

-- nothing is claimed or kept for a next copy
abbrev pub IsIdle : State → Type 0
IsIdle s = (page : ℕ) → is_next (s.uses page) ≡ false

-- a header was found: no page is known to be used, and none is claimed
abbrev pub attached : ℕ → Header → ℕ → Bool → State
attached slot header count closed = record { slot = slot; header = header; settled = count; count = count; known = false; uses = use_of []; closed = closed; failed = false }

-- A store was just made: its header is in slot 0, the gate of the other slot is closed, and of its three pages the
-- current copy stands on page 2.
abbrev pub new_store : State
new_store = record { slot = 0; header = blank_header; settled = 3; count = 3; known = true; uses = new_uses; closed = true; failed = false }

-- the pages have these uses
abbrev pub with_uses : State → (ℕ → PageUse) → State
with_uses s uses = record s { uses = uses }

-- the pages of the current copy are known now
abbrev pub known_by : State → (ℕ → PageUse) → State
known_by s uses = record s { known = true; uses = uses }

-- a page was claimed
abbrev pub with_claimed : State → ℕ → State
with_claimed s page = with_uses s (with_use page Claimed s.uses)

-- a page is kept for the next copy
abbrev pub with_kept : State → ℕ → State
with_kept s page = with_uses s (with_use page Kept s.uses)

-- the next copy was given up
abbrev pub abandoned_in : State → State
abandoned_in s = with_uses s (abandoned_uses s.uses)

-- there are so many pages
abbrev pub with_count : State → ℕ → State
with_count s n = record s { count = n }

-- a page was written, maybe behind the end
abbrev pub with_page : State → ℕ → State
with_page s page = with_count s (max s.count (page + 1))

-- the other gate is closed now
abbrev pub with_closed : State → State
with_closed s = record s { closed = true }

-- a publish has failed
abbrev pub with_failed : State → State
with_failed s = record s { failed = true }

-- the header in the other slot is the current one now, and its pages are known
abbrev pub published_with : State → Header → (ℕ → PageUse) → State
published_with s header uses = record s { slot = other s.slot; header = header; settled = s.count; known = true; uses = uses; closed = false; failed = false }

-- and they are those that were claimed or kept
abbrev pub published : State → Header → State
published s header = published_with s header (renewed_uses s.uses)
