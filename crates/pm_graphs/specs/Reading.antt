-- What the readers of the pages of a store may answer, by what the definitions give.
use Rattle.std.specs.Prelude.{◌≡◌, ℕ, ◌+◌, ◌<◌, ◌≤◌, List, [], ◌∷◌, ◌++◌, map, Option, Some, None, Result, Ok, Err, true, false}
use Rattle.std.specs.FinSet as set
use Rattle.std.specs.List.{AllByRecursion}
use Rattle.pm_types.specs.Memory.{no_memory}
use Rattle.pm_types.specs.Counts.{Rose}
use Rattle.pm_types.specs.declared.limits.TheConstants.{FIELDS, ROOTS, PAGE_BYTES}
use Rattle.pm_types.specs.Names.{IsName}
use Rattle.pm_types.specs.declared.fault.OpenFault.{OpenFault}
use Rattle.pm_types.specs.declared.fault.OpenFault.TheVariants.{Damaged, Malformed as MalformedAt}
use Rattle.pm_disk.specs.declared.disk.Disk.{Ghosts}
use Rattle.pm_layout.specs.Spelling.{IsWithinLimits}
use Rattle.pm_types.specs.declared.object.Slot.{Slot}
use Rattle.pm_image.specs.declared.fault.PageFault.{PageFault}
use Rattle.pm_image.specs.declared.fault.PageFault.TheVariants.{Malformed, Memory as NoPageMemory}
use Rattle.pm_image.specs.declared.catalog.CatEntry.{CatEntry}
use Rattle.pm_image.specs.declared.catalog.CatEntry.TheVariants.{Car, Root}
use Rattle.pm_image.specs.declared.catalog.CatalogPage.{CatalogPage}
use Rattle.pm_image.specs.declared.settled.KeptPage.{KeptPage}
use Rattle.pm_types.specs.Results.{◌>>=◌}
use Rattle.pm_image.specs.CarPages.{Numbers, Ascend, HasCarPage, car_at, car_used}
use Rattle.pm_image.specs.CarAnswers.{a_car}
use Rattle.pm_image.specs.CatalogPages.{Met, is_next_name, catalog_at, catalog_used}
use Rattle.pm_image.specs.Opening.{page_of}
use Rattle.pm_image.specs.Graphs.{images_of, Pages as Store, Graph, Catalog, undamaged, on_page, entries_of, with_identities, linked, sites_of}
use Rattle.pm_shadow.specs.declared.pages.Pages.{Pages}
use Rattle.pm_shadow.specs.Pages.{state, disk_of}
use Rattle.pm_shadow.specs.Runs.{OnlyLooks}
use Rattle.pm_graphs.specs.declared.fault.ReadFault.{ReadFault}
use Rattle.pm_graphs.specs.declared.fault.ReadFault.TheVariants.{Damaged as DamagedPage, Malformed as MalformedPage, Failed, Memory}

-- a fault of a page
abbrev pub of_page : ℕ → PageFault → ReadFault
of_page page (Malformed at) = MalformedPage page at
of_page page (NoPageMemory _) = Memory no_memory

-- The page that is at fault is the first that the definition refuses, and so is the place. Where the disk or memory
-- failed nothing is said.
abbrev pub Fails : {X : Type 0} → ReadFault → Result X OpenFault → Type 0
Fails (DamagedPage page kept found) read = read ≡ Err (Damaged page kept found)
Fails (MalformedPage page at) read = read ≡ Err (MalformedAt page at)
Fails Failed read = Unit {0}
Fails (Memory _) read = Unit {0}

-- what was read is what the definition gives, or its first fault
abbrev pub Gives : {X : Type 0} → Result X ReadFault → Result X OpenFault → Type 0
Gives (Ok x) read = read ≡ Ok x
Gives (Err fault) read = Fails fault read

-- A failure of the disk has raised its count, which stands still otherwise.
abbrev pub Counts : {X : Type 0} → ℕ → ℕ → Result X ReadFault → Type 0
Counts before after (Ok x) = after ≡ before
Counts before after (Err (DamagedPage page kept found)) = after ≡ before
Counts before after (Err (MalformedPage page at)) = after ≡ before
Counts before after (Err Failed) = Rose before after
Counts before after (Err (Memory _)) = after ≡ before

-- the pages of a store are as they were, and nothing was written
pub record Looked {D : Type 0} {g : Ghosts D} (old new : Pages D g) : Type 0 where
  pub same : state new ≡ state old
  pub looks : OnlyLooks g.contents g.image g.moment g.since (disk_of old) (disk_of new)
  -- no sync, no write, and no read past the end of what the disk told
  pub made : (state old).failed ≡ false → g.made (disk_of new) ≡ g.made (disk_of old)

-- a store of so many pages, with these bytes
abbrev pub store_of : ℕ → List ℕ → Store
store_of count bytes = record { count = count; page = page_of bytes }

-- the catalog page that stands on a page, which has this digest
unfoldable pub link_at : Store → Met → ℕ → List ℕ → Result CatalogPage OpenFault
link_at store met page kept = do
  is_kept ← undamaged store page kept
  on_page page (catalog_at (Some store.count) met (store.page page))

-- the car of objects of at most so many fields that stands on a page, which has this digest
unfoldable pub car_on : ℕ → ℕ → Store → Numbers → ℕ → ℕ → List ℕ → Result KeptPage OpenFault
car_on most next store met car page digest = do
  is_kept ← undamaged store page digest
  image ← on_page page (car_at (a_car most next (Some car)) met (store.page page))
  Ok (record { image = image; page = page; digest = digest })

-- the car that an entry lists, if it lists one
abbrev pub listed_car : Result KeptPage OpenFault → Result (Option KeptPage) OpenFault
listed_car read = read >>= λ kept. Ok (Some kept)

abbrev pub entry_car : ℕ → ℕ → Store → Numbers → CatEntry → Result (Option KeptPage) OpenFault
entry_car most next store met (Root name at) = Ok None
entry_car most next store met (Car car train page digest) = listed_car (car_on most next store met car page digest)

-- the identities that were met once this car was read
abbrev pub with_car : Numbers → Option KeptPage → Numbers
with_car met None = met
with_car met (Some kept) = with_identities met kept.image.slots

-- these cars, or none
abbrev pub car_list : Option KeptPage → List KeptPage
car_list None = []
car_list (Some kept) = kept ∷ []

-- the page is one of a store of so many pages, behind the headers
pub record IsThere (count page : ℕ) : Type 0 where
  pub from_2 : 2 ≤ page
  pub there : page < count

-- the page of the car that an entry lists is one
abbrev pub IsEntryThere : ℕ → CatEntry → Type 0
IsEntryThere count (Car car train page digest) = IsThere count page
IsEntryThere count (Root name at) = Unit {0}

-- the root that an entry lists has a name
abbrev pub IsEntryNamed : CatEntry → Type 0
IsEntryNamed (Car car train page digest) = Unit {0}
IsEntryNamed (Root name at) = IsName name

-- how many roots are listed
abbrev pub root_count : List CatEntry → ℕ
root_count [] = 0
root_count (Car car train page digest ∷ entries) = root_count entries
root_count (Root name at ∷ entries) = root_count entries + 1

-- the pages of a catalog
abbrev pub page_numbers : Catalog → List ℕ
page_numbers catalog = map (λ (page : ℕ × CatalogPage). page.0) catalog

-- The pages of a catalog and those of its cars are pages of the store, its entries fit their pages, and the roots have
-- names and are not too many.
pub record IsSound (count : ℕ) (catalog : Catalog) : Type 0 where
  pub fits : AllByRecursion (λ (page : ℕ × CatalogPage). catalog_used page.1.entries ≤ PAGE_BYTES) catalog
  pub pages : AllByRecursion (IsThere count) (page_numbers catalog)
  pub entries : AllByRecursion (IsEntryThere count) (entries_of catalog)
  pub names : AllByRecursion IsEntryNamed (entries_of catalog)
  pub roots : root_count (entries_of catalog) ≤ ROOTS

-- A car stands on a page of the store, and has a page after some that were read.
pub record IsCar (count next : ℕ) (kept : KeptPage) : Type 0 where
  pub there : IsThere count kept.page
  pub most : ℕ
  pub few : most ≤ FIELDS
  pub met : Numbers
  pub number : ℕ
  pub has : HasCarPage (a_car most next (Some number)) met kept.image

-- these cars, and those that are read behind them
abbrev pub behind : List KeptPage → Result (List KeptPage) OpenFault → Result (List KeptPage) OpenFault
behind front read = read >>= λ cars. Ok (front ++ cars)

-- What is left gives what the whole gives, once these cars were read; or the whole has this fault.
abbrev pub GoesOn : Result (Unit {0}) ReadFault → Result (List KeptPage) OpenFault → Result (List KeptPage) OpenFault → Type 0
GoesOn (Ok u) whole left = left ≡ whole
GoesOn (Err fault) whole left = Fails fault whole

-- a catalog and cars that were read, as a graph
abbrev pub as_graph : Result (Catalog × List KeptPage) ReadFault → Result Graph ReadFault
as_graph (Ok read) = Ok (record { catalog = read.0; cars = read.1 })
as_graph (Err fault) = Err fault

-- Each entry may come after those before it, by the numbers of cars that were met, the last train and the last name.
abbrev pub MayFollow : Numbers → ℕ → Option (List ℕ) → List CatEntry → Type 0
MayFollow cars train name [] = Unit {0}
MayFollow cars train name (Car car now page digest ∷ entries) = (0 < car) × (set.contains cars car ≡ false) × (train ≤ now) × MayFollow (set.insert cars car) now name entries
MayFollow cars train name (Root found at ∷ entries) = (is_next_name name found ≡ true) × MayFollow cars train (Some found) entries

-- These are the cars that entries list, in order, each with the number that is listed and with a page after the identities that were met before it.
abbrev pub AreRead : ℕ → ℕ → Numbers → List CatEntry → List KeptPage → Type 0
AreRead most next met [] [] = Unit {0}
AreRead most next met [] (kept ∷ cars) = ⊥
AreRead most next met (Root name at ∷ entries) cars = AreRead most next met entries cars
AreRead most next met (Car car train page digest ∷ entries) [] = ⊥
AreRead most next met (Car car train page digest ∷ entries) (kept ∷ cars) = (kept.image.number ≡ car) × HasCarPage (a_car most next (Some car)) met kept.image × AreRead most next (with_identities met kept.image.slots) entries cars

-- these entries and cars were read from some identities on, and what is read after them is read with these met
abbrev pub LeadsOn : ℕ → ℕ → Numbers → List CatEntry → List KeptPage → Numbers → Type 0
LeadsOn most next begun done cars met = (entries : List CatEntry) (more : List KeptPage) → AreRead most next met entries more → AreRead most next begun (done ++ entries) (cars ++ more)

-- What was read of a catalog and of its cars: their pages are pages of the store, each entry follows those before it, the
-- cars are those that it lists, and each address leads where it may.
pub record IsReadWhole (count next : ℕ) (catalog : Catalog) (cars : List KeptPage) : Type 0 where
  pub sound : IsSound count catalog
  pub cars_are : AllByRecursion (IsCar count next) cars
  pub links : linked (images_of cars) (sites_of catalog cars) ≡ Ok tt
  pub follow : MayFollow set.empty 0 None (entries_of catalog)
  pub most : ℕ
  pub few : most ≤ FIELDS
  pub reads : AreRead most next set.empty (entries_of catalog) cars

-- a car whose slots ascend and fit a page, each within the limits
pub record IsMeasured (kept : KeptPage) : Type 0 where
  pub ascend : Ascend 0 kept.image.slots
  pub fits : car_used kept.image.slots ≤ PAGE_BYTES
  pub within : AllByRecursion (λ (entry : ℕ × Slot). IsWithinLimits FIELDS entry.1) kept.image.slots
