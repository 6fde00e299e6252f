-- What pages are used for, and which are free.
use Rattle.std.specs.Prelude.{◌≡◌, ◌≢◌, ℕ, ◌+◌, ◌-◌, ◌<◌, ◌≤◌, Bool, true, false, List, [], ◌∷◌, Contains, nat_lt, ◌==◌, if◌then◌else◌, slice_index_or, slice_set}
use Rattle.pm_shadow.specs.declared.page_use.PageUse.{PageUse}
use Rattle.pm_shadow.specs.declared.page_use.PageUse.TheVariants.{Free, Current, Claimed, Kept}

-- The use of a page, where the list begins with that of page 2, and pages behind its end are free. The
-- pages of the two headers are always in use.
abbrev pub use_of : List PageUse → ℕ → PageUse
use_of uses page = if nat_lt page 2 then Current else slice_index_or uses (page - 2) Free

abbrev pub is_free : PageUse → Bool
is_free Free = true
is_free Current = false
is_free Claimed = false
is_free Kept = false

-- the current copy stands on the page
abbrev pub is_current : PageUse → Bool
is_current Free = false
is_current Current = true
is_current Claimed = false
is_current Kept = true

-- the page is one of the next copy: it was claimed or kept for it
abbrev pub is_next : PageUse → Bool
is_next Free = false
is_next Current = false
is_next Claimed = true
is_next Kept = true

-- the free pages, of which the list's first use is that of page n, in ascending order
abbrev pub free_from : ℕ → List PageUse → List ℕ
free_from n [] = []
free_from n (use_ ∷ uses) = if is_free use_ then n ∷ free_from (n + 1) uses else free_from (n + 1) uses

-- the use of a page once the claimed and the kept pages are those of the current copy
abbrev pub renewed : PageUse → PageUse
renewed Free = Free
renewed Current = Free
renewed Claimed = Current
renewed Kept = Current

-- the use of a page once nothing is claimed or kept for the next copy
abbrev pub abandoned : PageUse → PageUse
abandoned Free = Free
abandoned Current = Current
abandoned Claimed = Free
abandoned Kept = Current

-- the page is the lowest one that is free
pub record IsLowestFree (uses : ℕ → PageUse) (page : ℕ) : Type 0 where
  pub from_2 : 2 ≤ page
  pub free : uses page ≡ Free
  pub lowest : (below : ℕ) → below < page → uses below ≢ Free

-- this page has this use now, and each other page the use that it had
abbrev pub with_use : ℕ → PageUse → (ℕ → PageUse) → ℕ → PageUse
with_use page use_ uses other = if other == page then use_ else uses other

-- each of these pages is used
abbrev pub all_used : List ℕ → (ℕ → PageUse) → ℕ → PageUse
all_used [] uses = uses
all_used (page ∷ pages) uses = all_used pages (with_use page Claimed uses)

-- each of these pages is the lowest one that is free, once those before it are used
abbrev pub AreLowestFree : (ℕ → PageUse) → List ℕ → Type 0
AreLowestFree uses [] = Unit {0}
AreLowestFree uses (page ∷ pages) = IsLowestFree uses page × AreLowestFree (with_use page Claimed uses) pages

-- the claimed and the kept pages are those of the current copy now, and all others from page 2 on are free
abbrev pub renewed_uses : (ℕ → PageUse) → ℕ → PageUse
renewed_uses uses page = if nat_lt page 2 then Current else renewed (uses page)

-- the claimed pages are free again, and the kept ones are pages of the current copy alone
abbrev pub abandoned_uses : (ℕ → PageUse) → ℕ → PageUse
abandoned_uses uses page = abandoned (uses page)

-- the pages of this list are those of the current copy
abbrev pub marked : List ℕ → List PageUse → List PageUse
marked [] uses = uses
marked (page ∷ pages) uses = marked pages (slice_set uses (page - 2) Current)

-- the listed pages are those of the current copy, and all others from page 2 on are free
pub record UsesOnlyListed (pages : List ℕ) (uses : ℕ → PageUse) : Type 0 where
  pub headers : (page : ℕ) → page < 2 → uses page ≡ Current
  pub listed : (page : ℕ) → Contains pages page → uses page ≡ Current
  pub others : (page : ℕ) → 2 ≤ page → (Contains pages page → ⊥) → uses page ≡ Free

-- in a store that was just made page 2 is the current copy's, as the headers are in use, and all others are free
abbrev pub new_uses : ℕ → PageUse
new_uses page = if nat_lt page 3 then Current else Free
