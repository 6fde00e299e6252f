-- What it is that the pages of a store spell a graph, said of the whole catalog and of all cars at once.
use Rattle.std.specs.Prelude.{◌≡◌, ℕ, ◌<◌, ◌≤◌, List, [], ◌∷◌, length, map}
use Rattle.std.specs.List.{flat_map, AllByRecursion}
use Rattle.sha2.specs.Sha256.{sha256}
use Rattle.pm_types.specs.declared.limits.TheConstants.{PAGE_BYTES}
use Rattle.pm_types.specs.declared.object.Slot.{Slot}
use Rattle.pm_types.specs.declared.object.Slot.TheVariants.{Live, Moved}
use Rattle.pm_layout.specs.declared.header.Header.{Header}
use Rattle.pm_layout.specs.Headers.{most_fields}
use Rattle.pm_layout.specs.Spelling.{HasSpelling}
use Rattle.pm_image.specs.declared.catalog.CatalogPage.{CatalogPage}
use Rattle.pm_image.specs.declared.settled.KeptPage.{KeptPage}
use Rattle.pm_image.specs.CarPages.{Ascend, car_spelling, car_used, padded}
use Rattle.pm_image.specs.CarAnswers.{AreBytes, IsCarInRange}
use Rattle.pm_image.specs.CatalogPages.{IsCatalogInRange, catalog_spelling, catalog_used}
use Rattle.pm_image.specs.Graphs.{Catalog, Graph, Pages, entries_of, images_of, used_pages}
use Rattle.pm_image.specs.Leading.{CarLeads, RootLeads}
use Rattle.pm_copies.specs.Apart.{AreOwn}
use Rattle.pm_copies.specs.Entries.{AreInOrder, ListedCar, listed_cars}

-- each page of the store is one whole page of bytes
abbrev pub AreWhole : Pages → Type 0
AreWhole pages = (page : ℕ) → page < pages.count → (length (pages.page page) ≡ PAGE_BYTES) × AreBytes (pages.page page)

-- The pages of a catalog are a chain: the first is the page that is named, with the digest that is named, and each
-- names the one after it. The last names none: it names page 0, with a digest of zeros.
abbrev pub IsChain : Pages → ℕ → List ℕ → Catalog → Type 0
IsChain pages named digest [] = (named ≡ 0) × AllByRecursion (λ (byte : ℕ). byte ≡ 0) digest
IsChain pages named digest (page ∷ others) =
    (page.0 ≡ named) × (sha256 (pages.page page.0) ≡ digest) × IsChain pages page.1.next page.1.digest others

-- a page of the catalog has the bytes of its spelling, and zeros to its end
pub record IsCatalogSpelled (pages : Pages) (page : ℕ × CatalogPage) : Type 0 where
  pub fits : catalog_used page.1.entries ≤ PAGE_BYTES
  pub spelled : pages.page page.0 ≡ padded (catalog_spelling page.1)

-- The page of a car has the digest that is kept of it, and the bytes of the car's spelling with zeros to its end. The
-- slots ascend, and each has a spelling, with no more fields than the most that an object has.
pub record IsCarSpelled (pages : Pages) (most : ℕ) (kept : KeptPage) : Type 0 where
  pub digest : sha256 (pages.page kept.page) ≡ kept.digest
  pub fits : car_used kept.image.slots ≤ PAGE_BYTES
  pub spelled : pages.page kept.page ≡ padded (car_spelling kept.image)
  pub ascend : Ascend 0 kept.image.slots
  pub slots : AllByRecursion (λ (entry : ℕ × Slot). HasSpelling most entry.1) kept.image.slots

-- the identities of the objects in slots
abbrev pub identities_in : List (ℕ × Slot) → List ℕ
identities_in [] = []
identities_in ((number, Live object) ∷ slots) = object.id ∷ identities_in slots
identities_in ((number, Moved to) ∷ slots) = identities_in slots

-- the identities of the objects of cars
abbrev pub identities_of : List KeptPage → List ℕ
identities_of cars = flat_map (λ (kept : KeptPage). identities_in kept.image.slots) cars

-- how the catalog lists a car
abbrev pub listed_as : KeptPage → ListedCar
listed_as kept = record { number = kept.image.number; page = kept.page; digest = kept.digest }

-- the numbers and digests of a graph are such as the types can hold
pub record IsGraphInRange (graph : Graph) : Type 0 where
  pub catalog : AllByRecursion (λ (page : ℕ × CatalogPage). IsCatalogInRange page.1) graph.catalog
  pub cars : AllByRecursion (λ (kept : KeptPage). IsCarInRange kept.image) graph.cars

-- The pages of a store spell a graph behind a header: the catalog's pages are the chain that the header names, and
-- its entries are in order; the cars are those that the entries list, in their order. Each object has an identity of
-- its own, from 1 on and below the next one. Each page of the catalog and of a car is a page of the store behind the
-- headers' two, and stands for one of them only. Each address leads to an object, through at most one Moved slot.
pub record Spells (pages : Pages) (header : Header) (graph : Graph) : Type 0 where
  pub chain : IsChain pages header.first header.digest graph.catalog
  pub catalog : AllByRecursion (IsCatalogSpelled pages) graph.catalog
  pub entries : AreInOrder (entries_of graph.catalog)
  pub listed : map listed_as graph.cars ≡ listed_cars (entries_of graph.catalog)
  pub cars : AllByRecursion (IsCarSpelled pages (most_fields header.version)) graph.cars
  pub own_identities : AreOwn 1 header.next (identities_of graph.cars)
  pub own_pages : AreOwn 2 pages.count (used_pages graph)
  pub cars_lead : AllByRecursion (CarLeads (images_of graph.cars)) (images_of graph.cars)
  pub roots_lead : AllByRecursion (RootLeads (images_of graph.cars)) (entries_of graph.catalog)
  pub in_range : IsGraphInRange graph
