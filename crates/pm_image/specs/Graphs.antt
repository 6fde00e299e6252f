-- The graph behind a header: the catalog, the cars, and where their addresses lead.
use Rattle.std.specs.Prelude.{ℕ, zero, suc, ◌+◌, List, [], ◌∷◌, ◌++◌, length, map, Option, Some, None, Result, Ok, Err, ◌==◌, is_some, if◌then◌else◌, Bool, true, false}
use Rattle.std.specs.List.{flat_map}
use Rattle.std.specs.Str.{bytes_eq}
use Rattle.std.specs.FinMap.{from_entries}
use Rattle.std.specs.FinSet as set
use Rattle.sha2.specs.Sha256.{sha256}
use Rattle.pm_types.specs.declared.address.Addr.{Addr}
use Rattle.pm_types.specs.declared.fault.OpenFault.{OpenFault}
use Rattle.pm_types.specs.declared.fault.OpenFault.TheVariants.{NotAStore, Damaged, Malformed}
use Rattle.pm_types.specs.declared.object.Slot.{Slot}
use Rattle.pm_types.specs.declared.object.Slot.TheVariants.{Live, Moved}
use Rattle.pm_layout.specs.declared.header.Header.{Header}
use Rattle.pm_layout.specs.Headers.{most_fields}
use Rattle.pm_layout.specs.Spelling.{slot_size}
use Rattle.pm_model.specs.Heap.{Object, Heap}
use Rattle.pm_model.specs.World.{Roots, Copy}
use Rattle.pm_model.specs.Copying.{copied}
use Rattle.pm_image.specs.declared.car.CarImage.{CarImage}
use Rattle.pm_image.specs.declared.catalog.CatEntry.{CatEntry}
use Rattle.pm_image.specs.declared.catalog.CatEntry.TheVariants.{Car, Root}
use Rattle.pm_image.specs.declared.catalog.CatalogPage.{CatalogPage}
use Rattle.pm_image.specs.declared.settled.KeptPage.{KeptPage}
use Rattle.pm_types.specs.Results.{◌>>=◌}
use Rattle.pm_image.specs.CarPages.{Numbers, car_at, with_identity}
use Rattle.pm_image.specs.CatalogPages.{Met, nothing_met, catalog_at, meeting_page}
use Rattle.pm_image.specs.declared.catalog_kind.TheConstants.{ENTRIES, CAR_ENTRY_BYTES, ROOT_ENTRY_BYTES}
use Rattle.pm_types.specs.declared.limits.TheConstants.{CAR_HEAD_BYTES}

-- the pages of a store: how many there are, and the bytes of each
pub record Pages : Type 0 where
  pub count : ℕ
  pub page : ℕ → List ℕ

-- what was read of a page, or the page is malformed at the place of the fault
abbrev pub on_page : {A : Type 0} → ℕ → Result A ℕ → Result A OpenFault
on_page page (Ok x) = Ok x
on_page page (Err at) = Err (Malformed page at)

-- the page has the digest that is kept of it
abbrev pub undamaged : Pages → ℕ → List ℕ → Result (Unit {0}) OpenFault
undamaged pages page kept =
    let found = sha256 (pages.page page) in
    if bytes_eq kept found then Ok tt else Err (Damaged page kept found)

-- a page of the catalog, and its number
abbrev pub Catalog : Type 0
Catalog = List (ℕ × CatalogPage)

-- The pages of the catalog from one page on, which has this digest, with this met before. A page is never met
-- twice, so a chain is no longer than there are pages, and never longer than n: no answer of opening comes from there.
unfoldable pub catalog_from : ℕ → Pages → Met → ℕ → List ℕ → Result Catalog OpenFault
catalog_from zero pages met page kept = Err NotAStore
catalog_from (suc n) pages met page kept = do
  is_kept ← undamaged pages page kept
  first ← on_page page (catalog_at (Some pages.count) met (pages.page page))
  others ← (if first.next == 0 then Ok [] else catalog_from n pages (meeting_page met first) first.next first.digest)
  Ok ((page, first) ∷ others)

-- no store has more pages than this: their numbers have eight bytes
abbrev pub most_pages : ℕ
most_pages = 18446744073709551615

-- the catalog that a header names
abbrev pub catalog_of : Pages → Header → Result Catalog OpenFault
catalog_of pages header = catalog_from most_pages pages (record nothing_met { pages = set.insert set.empty header.first }) header.first header.digest

-- the entries of a catalog, in order
abbrev pub entries_of : Catalog → List CatEntry
entries_of catalog = flat_map (λ (page : ℕ × CatalogPage). page.1.entries) catalog

-- the identities that were met once a car was read
abbrev pub with_identities : Numbers → List (ℕ × Slot) → Numbers
with_identities met [] = met
with_identities met (record_ ∷ records) = with_identities (with_identity met record_.1) records

-- The cars that a catalog lists, in order, of at most so many fields an object and with this next identity; these
-- identities were met before.
unfoldable pub cars_from : ℕ → ℕ → Pages → Numbers → List CatEntry → Result (List KeptPage) OpenFault
cars_from most next pages met [] = Ok []
cars_from most next pages met (Root name at ∷ entries) = cars_from most next pages met entries
cars_from most next pages met (Car car train page digest ∷ entries) = do
  is_kept ← undamaged pages page digest
  image ← on_page page (car_at (record { most = most; next = next; number = Some car }) met (pages.page page))
  others ← cars_from most next pages (with_identities met image.slots) entries
  Ok (record { image = image; page = page; digest = digest } ∷ others)

-- what cars hold, whatever pages they stand on
abbrev pub images_of : List KeptPage → List CarImage
images_of cars = map (λ (kept : KeptPage). kept.image) cars

-- the slot of this number in a list of slots
abbrev pub slot_in : List (ℕ × Slot) → ℕ → Option Slot
slot_in [] number = None
slot_in (first ∷ slots) number = if first.0 == number then Some first.1 else slot_in slots number

-- the slot that an address names; one that is not listed is Gone
abbrev pub slot_named : List CarImage → Addr → Option Slot
slot_named [] at = None
slot_named (car ∷ cars) at = if car.number == at.car then slot_in car.slots at.slot else slot_named cars at

-- An address that a store keeps: the page and the place in it where it stands, where it leads, and whether the
-- slot that it names must be Live, as that of a Moved slot, or may be Moved too.
pub record Site : Type 0 where
  pub page : ℕ
  pub at : ℕ
  pub to : Addr
  pub to_live : Bool

-- the addresses in fields, the first field being at this place
abbrev pub field_sites : ℕ → ℕ → List (Option Addr) → List Site
field_sites page place [] = []
field_sites page place (None ∷ fields) = field_sites page (place + 12) fields
field_sites page place (Some to ∷ fields) = record { page = page; at = place; to = to; to_live = false } ∷ field_sites page (place + 12) fields

-- the addresses in a record at this place: its slot begins 4 bytes on, the address of a Moved one 1 byte later, the fields of a Live one 13
abbrev pub slot_sites : ℕ → ℕ → Slot → List Site
slot_sites page place (Live object) = field_sites page (place + 17) object.fields
slot_sites page place (Moved to) = record { page = page; at = place + 5; to = to; to_live = true } ∷ []

-- the addresses in records, the first being at this place
abbrev pub record_sites : ℕ → ℕ → List (ℕ × Slot) → List Site
record_sites page place [] = []
record_sites page place (first ∷ records) = slot_sites page place first.1 ++ record_sites page (place + 4 + slot_size first.1) records

-- the addresses of roots, the first entry being at this place: after the kind, the length and the name
abbrev pub root_sites : ℕ → ℕ → List CatEntry → List Site
root_sites page place [] = []
root_sites page place (Car car train at digest ∷ entries) = root_sites page (place + CAR_ENTRY_BYTES) entries
root_sites page place (Root name to ∷ entries) = record { page = page; at = place + 2 + length name; to = to; to_live = false } ∷ root_sites page (place + ROOT_ENTRY_BYTES + length name) entries

-- all addresses: of the cars, in order, and then of the roots
abbrev pub sites_of : Catalog → List KeptPage → List Site
sites_of catalog cars = flat_map (λ (kept : KeptPage). record_sites kept.page CAR_HEAD_BYTES kept.image.slots) cars ++ flat_map (λ (page : ℕ × CatalogPage). root_sites page.0 ENTRIES page.1.entries) catalog

-- the slot is Live
abbrev pub is_live : Option Slot → Bool
is_live None = false
is_live (Some (Live object)) = true
is_live (Some (Moved to)) = false

-- the address names a slot of a kind that it may
abbrev pub leads : List CarImage → Site → Bool
leads cars site = if site.to_live then is_live (slot_named cars site.to) else is_some (slot_named cars site.to)

-- each address names a slot, or the first that does not is at fault
unfoldable pub linked : List CarImage → List Site → Result (Unit {0}) OpenFault
linked cars [] = Ok tt
linked cars (site ∷ sites) = if leads cars site then linked cars sites else Err (Malformed site.page site.at)

-- what stands behind a header: the catalog, and the cars
pub record Graph : Type 0 where
  pub catalog : Catalog
  pub cars : List KeptPage

-- The graph behind a header, or the first fault: of the catalog, of the cars, of the addresses. How many fields an
-- object may have is said by the version.
unfoldable pub graph_of : Pages → Header → Result Graph OpenFault
graph_of pages header = do
  catalog ← catalog_of pages header
  cars ← cars_from (most_fields header.version) header.next pages set.empty (entries_of catalog)
  is_linked ← linked (images_of cars) (sites_of catalog cars)
  Ok (record { catalog = catalog; cars = cars })

-- the pages that a graph stands on
abbrev pub used_pages : Graph → List ℕ
used_pages graph = map (λ (page : ℕ × CatalogPage). page.0) graph.catalog ++ map (λ (kept : KeptPage). kept.page) graph.cars

-- the identity of the object in a slot, if it is Live
abbrev pub identity_in : Option Slot → Option ℕ
identity_in None = None
identity_in (Some (Live object)) = Some object.id
identity_in (Some (Moved to)) = None

-- the identity that a slot leads to, through at most one Moved slot
abbrev pub identity_through : List CarImage → Option Slot → Option ℕ
identity_through cars None = None
identity_through cars (Some (Live object)) = Some object.id
identity_through cars (Some (Moved to)) = identity_in (slot_named cars to)

-- the identity of the object that an address leads to
abbrev pub resolved : List CarImage → Addr → Option ℕ
resolved cars at = identity_through cars (slot_named cars at)

-- what a field holds
abbrev pub resolved_field : List CarImage → Option Addr → Option ℕ
resolved_field cars None = None
resolved_field cars (Some at) = resolved cars at

-- the objects of a list of slots, each with its identity
abbrev pub objects_in : List CarImage → List (ℕ × Slot) → List (ℕ × Object)
objects_in cars [] = []
objects_in cars ((number, Live object) ∷ slots) = (object.id, record { fields = map (resolved_field cars) object.fields; bytes = object.bytes }) ∷ objects_in cars slots
objects_in cars ((number, Moved to) ∷ slots) = objects_in cars slots

-- the objects of the cars
abbrev pub heap_of : List CarImage → Heap
heap_of cars = from_entries (flat_map (λ (car : CarImage). objects_in cars car.slots) cars)

-- a name with the identity that it stands for
abbrev pub named_root : List ℕ → Option ℕ → List (List ℕ × ℕ)
named_root name None = []
named_root name (Some id) = (name, id) ∷ []

-- the root that an entry lists, if it lists one
abbrev pub listed_root : List CarImage → CatEntry → List (List ℕ × ℕ)
listed_root cars (Car car train page digest) = []
listed_root cars (Root name at) = named_root name (resolved cars at)

-- the roots that a catalog lists
abbrev pub roots_of : List CarImage → List CatEntry → Roots
roots_of cars entries = from_entries (flat_map (listed_root cars) entries)

-- the copy that a graph is, under this next identity: the roots that are listed, and the objects that they reach
abbrev pub copy_of : ℕ → Graph → Copy
copy_of next graph = let cars = images_of graph.cars in copied (heap_of cars) (roots_of cars (entries_of graph.catalog)) next
