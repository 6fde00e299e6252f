-- What is read of a store, and why nothing is.
use Rattle.std.specs.Prelude.{◌≡◌, ◌⊎◌, ℕ, List, Contains, Option, Some, None, true, false}
use Rattle.pm_types.specs.declared.fault.OpenFault.{OpenFault}
use Rattle.pm_types.specs.declared.fault.OpenFault.TheVariants.{NotAStore, Version, Damaged, Malformed, Disk, Memory}
use Rattle.pm_disk.specs.Disk.{IfTold}
use Rattle.pm_disk.specs.declared.disk.Disk.{Ghosts}
use Rattle.pm_image.specs.declared.settled.KeptPage.{KeptPage}
use Rattle.pm_image.specs.Graphs.{Catalog, Graph, entries_of, images_of, used_pages}
use Rattle.pm_shadow.specs.State.{State, IsIdle, abandoned_in, known_by}
use Rattle.pm_shadow.specs.Copies.{KeepsGraph}
use Rattle.pm_shadow.specs.Pages.{disk_of, state}
use Rattle.pm_shadow.specs.Runs.{OnlyLooks}
use Rattle.pm_shadow.specs.declared.pages.Pages.{Pages}
use Rattle.pm_graphs.specs.Reading.{IsReadWhole, page_numbers}
use Rattle.pm_copies.specs.Accepted.{roots_in}
use Rattle.pm_reopen.specs.Opening.{IsUnopened}
use Rattle.pm_saving.specs.Tied.{IsTied}
use Rattle.pm_save.specs.Writer.Planned.{IsIndex}
use Rattle.pm_ship.specs.declared.store.StoreRead.{StoreRead}
use Rattle.pm_ship.specs.declared.standby.Standby.{Standby}
use Rattle.pm_ship.specs.Listing.{trains_in, with_trains}
use Rattle.pm_ship.specs.Offers.{IsFound, Offer}

-- ---- any store

-- The pages, the trains and the roots of this catalog and these cars, with these numbers of a header.
pub record IsTakenFrom (catalog : Catalog) (cars : List KeptPage) (epoch next : ℕ) (it : StoreRead) : Type 0 where
  pub epoch_is : it.epoch ≡ epoch
  pub next_is : it.next ≡ next
  pub cars_are : it.cars ≡ cars
  pub trains : it.trains.items ≡ trains_in (entries_of catalog)
  pub roots : it.roots.items ≡ roots_in (entries_of catalog)
  pub pages : it.pages.items ≡ used_pages (record { catalog = catalog; cars = cars })

-- What was read of these pages: the catalog behind their header, as its trains, its roots and its cars, and the pages
-- that these stand on. Where the disk tells its contents it is what opening finds in them.
pub record IsReadOf (s : State) (contents : Option (List ℕ)) (it : StoreRead) : Type 0 where
  pub catalog : Catalog
  pub taken : IsTakenFrom catalog it.cars s.header.epoch s.header.next it
  pub whole : IsReadWhole s.count s.header.next catalog it.cars
  pub first : Contains (page_numbers catalog) s.header.first
  pub found : IfTold contents (λ bytes. IsFound s bytes (record { catalog = catalog; cars = it.cars }))

-- what it has to ship
abbrev pub offered : StoreRead → Offer
offered it = record { epoch = it.epoch; next = it.next; list = with_trains it.trains.items (images_of it.cars); roots = it.roots.items }

-- a page is at fault
abbrev pub IsOfPage : OpenFault → Type 0
IsOfPage NotAStore = ⊥
IsOfPage (Version version) = ⊥
IsOfPage (Damaged page kept found) = Unit {0}
IsOfPage (Malformed page at) = Unit {0}
IsOfPage (Disk before after) = ⊥
IsOfPage (Memory _) = ⊥

-- These pages are refused so: it is the first rule that fails in what the disk holds.
pub record IsRefusedSo (s : State) (contents : Option (List ℕ)) (fault : OpenFault) : Type 0 where
  pub of_page : IsOfPage fault
  pub unopened : IfTold contents (λ bytes. IsUnopened s bytes fault)

-- ---- the standby

-- A store may be shipped to these pages: no publish of them has failed, and their copy's pages are not known, as once
-- they were attached; or they are known right, on a disk that tells its contents.
pub record IsReady (s : State) (contents : Option (List ℕ)) : Type 0 where
  pub sound : s.failed ≡ false
  pub right : s.known ≡ true → (bytes : List ℕ) × (contents ≡ Some bytes) × ((graph : Graph) × KeepsGraph s bytes graph)

-- The pages of the copy are known now, and nothing is claimed or kept for a next one.
pub record IsKnownFrom (s t : State) : Type 0 where
  pub known : t.known ≡ true
  pub idle : IsIdle t
  pub first : s.known ≡ false → t ≡ known_by s t.uses
  pub again : s.known ≡ true → t ≡ abandoned_in s

-- What was read, packed, with the pages that it stands on.
pub record IsPackedFrom (read : StoreRead) (it : Standby) (pages : List ℕ) : Type 0 where
  pub trains : it.trains.items ≡ read.trains.items
  pub roots : it.roots.items ≡ read.roots.items
  pub settled : it.settled ≡ read.cars
  pub places : IsIndex it.settled it.places
  pub pages_are : pages ≡ read.pages.items

-- What was read of a standby, whose pages are known now: its cars are those of its copy, each on a page of it.
pub record IsStandby (s t : State) (contents : Option (List ℕ)) (it : Standby) : Type 0 where
  pub catalog : Catalog
  pub whole : IsReadWhole s.count s.header.next catalog it.settled
  pub trains : it.trains.items ≡ trains_in (entries_of catalog)
  pub roots : it.roots.items ≡ roots_in (entries_of catalog)
  pub places : IsIndex it.settled it.places
  pub known : IsKnownFrom s t
  pub found : IfTold contents (λ bytes. IsFound s bytes (record { catalog = catalog; cars = it.settled }))
  pub keeps : IfTold contents (λ bytes. KeepsGraph t bytes (record { catalog = catalog; cars = it.settled }))
  pub tied : IsTied (record { settled = it.settled; progress = None }) None t contents

module _ {E : Type 0} {e : Ghosts E} where
  -- Nothing was written, and not even a sync was made. The pages are as they were, but that they may be known now.
  pub record IsStill (before after : Pages E e) : Type 0 where
    pub looks : OnlyLooks e.contents e.image e.moment e.since (disk_of before) (disk_of after)
    pub made : e.made (disk_of after) ≡ e.made (disk_of before)
    pub pages : (state after ≡ state before) ⊎ IsKnownFrom (state before) (state after)
