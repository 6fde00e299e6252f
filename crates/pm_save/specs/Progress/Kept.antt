-- What a saver keeps of a copy in progress beside what is seen of it.
use Rattle.std.specs.Prelude.{◌≡◌, ℕ, ◌+◌, ◌<◌, ◌≤◌, Bool, true, false, if◌then◌else◌, List, [], ◌∷◌, ◌++◌, length, map, take, Option, Some, None, vec_capacity}
use Rattle.std.specs.List.{AllByRecursion}
use Rattle.pm_image.specs.declared.settled.KeptPage.{KeptPage}
use Rattle.pm_copies.specs.Plans.{chain_of, digest_of}
use Rattle.pm_copies.specs.Cutting.{OnePage, cut}
use Rattle.pm_saving.specs.Progress.{Progress, catalog_left, catalog_of, draft_entry, roots_of}
use Rattle.pm_saving.specs.Beginning.{AreLast}
use Rattle.pm_save.specs.declared.progress.place.Place.{Place}
use Rattle.pm_save.specs.declared.progress.place.Place.TheVariants.{Clean, Unwritten, Written}
use Rattle.pm_save.specs.declared.progress.place.PlacedCar.{PlacedCar}
use Rattle.pm_save.specs.declared.progress.place.InProgress.{InProgress}
use Rattle.pm_save.specs.Progress.Seen.{progress_seen}

-- no page was written for the car, and it is not clean
abbrev pub is_open : Place → Bool
is_open (Clean index) = false
is_open Unwritten = true
is_open (Written kept) = false

-- how many cars stand on none
abbrev pub open_count : List PlacedCar → ℕ
open_count [] = 0
open_count (one ∷ cars) = (if is_open one.place then 1 else 0) + open_count cars

-- the car stands on a page
abbrev pub IsPlaced : PlacedCar → Type 0
IsPlaced one = is_open one.place ≡ false

-- a clean car's settled car is there
abbrev pub IsWithin : List KeptPage → Place → Type 0
IsWithin settled (Clean index) = index < length settled
IsWithin settled Unwritten = Unit {0}
IsWithin settled (Written kept) = Unit {0}

-- how many entries each page of the catalog has
abbrev pub counts_of : Progress → List ℕ
counts_of progress = map (λ (page : OnePage). length page) (cut (map draft_entry progress.cars ++ roots_of progress))

-- The cars at the front stand on pages; each clean car is a settled one; the pages of the catalog that were not written have
-- so many entries, and those that were are its last ones, of which the first has this digest, and none is page 0; and
-- there is room for the rest of them and for all cars.
pub record IsKept (settled : List KeptPage) (it : InProgress) : Type 0 where
  pub placed : AllByRecursion IsPlaced (take it.placed it.cars.items)
  pub within : AllByRecursion (λ (one : PlacedCar). IsWithin settled one.place) it.cars.items
  pub counts : it.counts.items ≡ take (catalog_left (progress_seen settled it)) (counts_of (progress_seen settled it))
  pub last : AreLast (progress_seen settled it)
  pub digest : it.digest ≡ digest_of (chain_of (catalog_of (progress_seen settled it)))
  pub pages : AllByRecursion (λ (page : ℕ). 0 < page) it.parts.items
  pub parts_room : length it.parts.items + length it.counts.items ≤ vec_capacity it.parts
  pub empty : it.room.items ≡ []
  pub cars_room : length it.cars.items ≤ vec_capacity it.room

-- the same, if a copy is in progress
abbrev pub AreKept : List KeptPage → Option InProgress → Type 0
AreKept settled None = Unit {0}
AreKept settled (Some it) = IsKept settled it
