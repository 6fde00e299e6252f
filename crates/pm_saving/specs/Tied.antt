-- What holds of a saver, the frozen cars of its space and the pages of its store between calls.
use Rattle.std.specs.Prelude.{◌≡◌, ℕ, ◌<◌, ◌≤◌, ◌+◌, true, false, List, [], ◌∷◌, Contains, length, map, option_map, Option, Some, None}
use Rattle.std.specs.List.{AllByRecursion}
use Rattle.std.specs.FinSet as set
use Rattle.pm_types.specs.declared.limits.TheConstants.{FIELDS, PAGE_BYTES}
use Rattle.pm_disk.specs.Disk.{IfTold}
use Rattle.pm_disk.specs.Writes.{written}
use Rattle.pm_model.specs.World.{Copy}
use Rattle.pm_image.specs.declared.settled.KeptPage.{KeptPage}
use Rattle.pm_image.specs.Graphs.{Graph, copy_of as copy_of_graph}
use Rattle.pm_image.specs.CarPages.{HasCarPage, one_car}
use Rattle.pm_image.specs.Opening.{open_gate, page_count, page_of}
use Rattle.pm_shadow.specs.declared.page_use.PageUse.TheVariants.{Claimed, Free, Kept}
use Rattle.pm_shadow.specs.Uses.{AreLowestFree, IsLowestFree}
use Rattle.pm_shadow.specs.State.{State, keeps, other, with_claimed, with_kept, with_page as with_page_there}
use Rattle.pm_shadow.specs.Images.{place_of, with_gate, with_header, with_shut_gate}
use Rattle.pm_shadow.specs.Copies.{KeepsGraph, NextGraph}
use Rattle.pm_view.specs.View.{Cars}
use Rattle.pm_copies.specs.Apart.{AreApart}
use Rattle.pm_copies.specs.Writing.{MayBeWritten}
use Rattle.pm_saving.specs.Progress.{Progress, Saving, car_pages, copy_of}
use Rattle.pm_saving.specs.Paging.{Put, NextPage, CarPage, PartPage, header_of, kept_pages, left, left_of, newly_kept, next_page, put_on, puts_of, text_of, with_page, written_on}
use Rattle.pm_saving.specs.Beginning.{IsInProgress}

-- this copy stands behind the current header, and its pages are kept
pub record HasCopy (s : State) (bytes : List ℕ) (copy : Copy) : Type 0 where
  pub graph : Graph
  pub keeps : KeepsGraph s bytes graph
  pub is_copy : copy ≡ copy_of_graph s.header.next graph

-- the settled cars are those of the current copy, in the order of its catalog
pub record AreSettled (settled : List KeptPage) (s : State) (bytes : List ℕ) : Type 0 where
  pub graph : Graph
  pub keeps : KeepsGraph s bytes graph
  pub cars : graph.cars ≡ settled

-- the page of a settled car is one of the current copy
pub record IsOnPage (s : State) (kept : KeptPage) : Type 0 where
  pub from_2 : 2 ≤ kept.page
  pub keeps : keeps s kept.page ≡ true

-- a page that was written is there, behind the headers' two, and reads as it was written
pub record IsPut (s : State) (contents : Option (List ℕ)) (put : Put) : Type 0 where
  pub from_2 : 2 ≤ put.0
  pub there : put.0 < s.count
  pub whole : length put.1 ≡ PAGE_BYTES
  pub reads : IfTold contents (λ bytes. page_of bytes put.0 ≡ put.1)

-- the pages that were written for a copy in progress, if there is one, and those that are kept for it
abbrev pub all_puts : Option Progress → List Put
all_puts None = []
all_puts (Some progress) = puts_of progress

abbrev pub all_kept : Option Progress → List ℕ
all_kept None = []
all_kept (Some progress) = kept_pages progress

-- The pages of the next copy are those of the copy in progress: what is claimed was written for it, and what is kept is
-- kept for it. Where none is in progress nothing is claimed or kept.
pub record AreItsPages (progress : Option Progress) (s : State) (contents : Option (List ℕ)) : Type 0 where
  pub claimed : (page : ℕ) → s.uses page ≡ Claimed → Contains (map (λ (put : Put). put.0) (all_puts progress)) page
  pub written : AllByRecursion (λ (put : Put). s.uses put.0 ≡ Claimed) (all_puts progress)
  pub apart : AreApart (map (λ (put : Put). put.0) (all_puts progress))
  pub read : AllByRecursion (IsPut s contents) (all_puts progress)
  pub kept : (page : ℕ) → s.uses page ≡ Kept → Contains (all_kept progress) page
  pub are_kept : AllByRecursion (λ (page : ℕ). s.uses page ≡ Kept) (all_kept progress)

-- The copy in progress was begun from this space, whose cars are frozen as of then, and its number is later than that of
-- the current one. Where none is in progress the cars are not frozen.
abbrev pub IsBegun : List KeptPage → Option Progress → Option Cars → ℕ → Type 0
IsBegun settled None None epoch = Unit {0}
IsBegun settled None (Some cars) epoch = ⊥
IsBegun settled (Some progress) None epoch = ⊥
IsBegun settled (Some progress) (Some cars) epoch = IsInProgress settled cars progress × (epoch < progress.number)

-- What holds between calls, of any disk: no publish has failed, the pages of the current copy are known, the store has as
-- many pages as then or more, the settled cars are that copy's, each on a page of it; the pages of the next copy are
-- those of the copy in progress; and that copy was begun from this space.
pub record IsTied (saving : Saving) (frozen : Option Cars) (s : State) (contents : Option (List ℕ)) : Type 0 where
  pub sound : s.failed ≡ false
  pub known : s.known ≡ true
  pub grown : s.settled ≤ s.count
  pub current : IfTold contents (AreSettled saving.settled s)
  pub on_pages : AllByRecursion (IsOnPage s) saving.settled
  pub pages : AreItsPages saving.progress s contents
  pub begun : IsBegun saving.settled saving.progress frozen s.header.epoch

-- ---- what a call leaves

-- the pages of this list are kept for the next copy
abbrev pub with_all_kept : List ℕ → State → State
with_all_kept [] s = s
with_all_kept (page ∷ pages) s = with_all_kept pages (with_kept s page)

-- The next page of the copy was written here: on the lowest page that was free, by one write of a whole page. The pages
-- of the clean cars are kept from then on. One page less is left, and nothing else changed.
pub record WritesNext (old new : Saving) (cars : Cars) (s t : State) (was now : Option (List ℕ)) (page : ℕ) : Type 0 where
  pub progress : Progress
  pub is_progress : old.progress ≡ Some progress
  pub next : NextPage
  pub is_next : next_page cars progress ≡ Some next
  pub saving : new ≡ record old { progress = Some (with_page page progress next) }
  pub lowest : IsLowestFree s.uses page
  pub whole : length (text_of progress next) ≡ PAGE_BYTES
  pub state : t ≡ with_page_there (with_claimed (with_all_kept (newly_kept progress) s) page) page
  pub contents : now ≡ option_map (written (place_of page) (text_of progress next)) was
  pub left : left_of new.progress + 1 ≡ left_of old.progress

-- A page may be written: a car has a page by itself, and entries have one behind which each page may be named as the next.
abbrev pub HasPage : NextPage → Type 0
HasPage (CarPage image) = HasCarPage (one_car FIELDS) set.empty image
HasPage (PartPage entries) = MayBeWritten entries

-- The copy is whole on the pages that were claimed or kept, behind its header: the graph that is found there has its
-- cars, each on the page where it stands, and is the copy.
pub record IsWhole (s : State) (bytes : List ℕ) (cars : Cars) (progress : Progress) : Type 0 where
  pub graph : Graph
  pub next : NextGraph s bytes (header_of progress) graph
  pub cars_are : graph.cars ≡ car_pages progress
  pub is_copy : copy_of cars progress ≡ copy_of_graph progress.next_id graph

-- the copy is in progress still: more of its pages may have been written, and all else of it stays
pub record GoesOn (old new : Progress) : Type 0 where
  pub number : new.number ≡ old.number
  pub roots : new.roots ≡ old.roots
  pub next_id : new.next_id ≡ old.next_id
  pub copy : (cars : Cars) → copy_of cars new ≡ copy_of cars old
  pub left : left new ≤ left old

-- ---- what a settle leaves

-- No page is another but these and that of the other slot, among those that there were.
abbrev pub ChangesOnly : State → List ℕ → List ℕ → List ℕ → Type 0
ChangesOnly s pages before after =
    (page : ℕ) → page < page_count before → (page ≡ other s.slot → ⊥) → (Contains pages page → ⊥)
    → page_of after page ≡ page_of before page

-- These bytes once the copy settled: its next pages were written on these pages, one after another; then the gate of the
-- other slot was closed, where it was open; and then its header was written in that slot, and the gate opened.
abbrev pub settled_on : Cars → List ℕ → Progress → State → List ℕ → List ℕ
settled_on cars pages progress s bytes =
    with_gate (other s.slot) open_gate
    (with_header (other s.slot) (header_of (written_on cars pages progress)) (with_shut_gate s (put_on cars pages progress bytes)))

-- The copy in progress became the settled one: what was left of it was written on these pages, as many as were left, each
-- of them the lowest one that was free at its time; its header is the current one, in the other slot; its cars are settled
-- and none is in progress. What the disk holds is what it held with these writes, and so no other page changed.
pub record Settles (old new : Saving) (cars : Cars) (s t : State) (was now : Option (List ℕ)) (number : ℕ) : Type 0 where
  pub progress : Progress
  pub is_progress : old.progress ≡ Some progress
  pub number_is : number ≡ progress.number
  pub pages : List ℕ
  pub count : length pages ≡ left progress
  pub free : AllByRecursion (λ (page : ℕ). s.uses page ≡ Free) pages
  pub apart : AreApart pages
  pub lowest : AreLowestFree s.uses pages
  pub saving : new ≡ record { settled = car_pages (written_on cars pages progress); progress = None }
  pub header : t.header ≡ header_of (written_on cars pages progress)
  pub slot : t.slot ≡ other s.slot
  pub contents : now ≡ option_map (settled_on cars pages progress s) was
  pub only : IfTold was (λ before. IfTold now (ChangesOnly s pages before))

-- Memory ran out before all of the copy was written: something was left, it is in progress still, no header and no page
-- but free ones changed, and nothing was published.
pub record StaysInProgress (old new : Saving) (s t : State) (was now : Option (List ℕ)) : Type 0 where
  pub before : Progress
  pub after : Progress
  pub is_before : old.progress ≡ Some before
  pub saving : new ≡ record old { progress = Some after }
  pub some_left : 0 < left before
  pub goes_on : GoesOn before after
  pub header : t.header ≡ s.header
  pub slot : t.slot ≡ s.slot
  pub closed : t.closed ≡ s.closed
  pub only : IfTold was (λ told. IfTold now (λ told_now. (page : ℕ) → page < page_count told
      → (s.uses page ≡ Free → ⊥) → page_of told_now page ≡ page_of told page))
