-- How a page of the catalog is spelled, and how it is read from left to right with the first fault that is met.
-- A fault is the place in the page of the first byte of the field at fault.
use Rattle.std.specs.Prelude.{◌≡◌, ℕ, ◌≤◌, ◌<◌, ◌^◌, zero, suc, ◌+◌, List, [], ◌∷◌, ◌++◌, length, slice_index, slice_range, position, Option, Some, None, Result, Ok, Err, nat_lt, nat_le, ◌==◌, ◌||◌, ◌&&◌, not, is_none, if◌then◌else◌, Bool, true, false}
use Rattle.std.specs.List.{flat_map, list_all, AllByRecursion}
use Rattle.std.specs.Ordering.{is_lt}
use Rattle.std.specs.FinSet as set
use Rattle.byteorder.specs.Endian.{big_bytes}
use Rattle.pm_types.specs.declared.limits.TheConstants.{PAGE_BYTES, ROOTS, NAME_BYTES}
use Rattle.pm_types.specs.Names.{is_name_byte, IsName}
use Rattle.pm_types.specs.declared.address.Addr.{Addr}
use Rattle.pm_layout.specs.Spelling.{address, IsAddress}
use Rattle.pm_layout.specs.Reading.{number_from, address_at}
use Rattle.pm_types.specs.Orders.{name_cmp}
use Rattle.pm_image.specs.declared.catalog.CatEntry.{CatEntry}
use Rattle.pm_image.specs.declared.catalog.CatEntry.TheVariants.{Car, Root}
use Rattle.pm_image.specs.declared.catalog.CatalogPage.{CatalogPage}
use Rattle.pm_image.specs.Steps.{tested, magic_at, rest_at}
use Rattle.pm_types.specs.Results.{◌>>=◌}
use Rattle.pm_image.specs.CarPages.{Numbers}
use Rattle.pm_image.specs.declared.catalog_kind.TheConstants.{ENTRIES, CAR_ENTRY_BYTES, ROOT_ENTRY_BYTES}

-- PCAT
abbrev pub catalog_magic : List ℕ
catalog_magic = 0x50 ∷ 0x43 ∷ 0x41 ∷ 0x54 ∷ []

-- an entry: 01, car, train, page and digest; or 02, the length of the name, the name, the address
unfoldable pub entry_spelling : CatEntry → List ℕ
entry_spelling (Car car train page digest) = 1 ∷ (big_bytes 8 car ++ (big_bytes 8 train ++ (big_bytes 8 page ++ digest)))
entry_spelling (Root name at) = 2 ∷ (length name ∷ (name ++ address at))

-- how many bytes an entry is spelled in
abbrev pub entry_size : CatEntry → ℕ
entry_size (Car car train page digest) = CAR_ENTRY_BYTES
entry_size (Root name at) = ROOT_ENTRY_BYTES + length name

-- the used bytes of a catalog page: the magic, the next page and its digest, how many entries there are, and these
unfoldable pub catalog_spelling : CatalogPage → List ℕ
catalog_spelling page = catalog_magic ++ (big_bytes 8 page.next ++ (page.digest ++ (big_bytes 2 (length page.entries) ++ flat_map entry_spelling page.entries)))

-- so many bytes are used
abbrev pub catalog_used : List CatEntry → ℕ
catalog_used [] = ENTRIES
catalog_used (entry ∷ entries) = entry_size entry + catalog_used entries

-- What was met before an entry: the numbers of the cars, the pages that stand as a catalog page or as a car's
-- page, the last car's train, the last root's name, and how many roots there were.
pub record Met : Type 0 where
  pub cars : Numbers
  pub pages : Numbers
  pub train : ℕ
  pub name : Option (List ℕ)
  pub roots : ℕ

-- nothing was met
abbrev pub nothing_met : Met
nothing_met = record { cars = set.empty; pages = set.empty; train = 0; name = None; roots = 0 }

-- A page of the store, of which there are so many: from 2 on, not the last one's next, and not met before.
-- Where a catalog page is read by itself, any number will do.
abbrev pub is_free_page : Option ℕ → Numbers → ℕ → Bool
is_free_page None met page = true
is_free_page (Some count) met page = nat_le 2 page && (nat_lt page count && not (set.contains met page))

-- one root more is within the limit; a page by itself is not asked
abbrev pub has_root_left : Option ℕ → ℕ → Bool
has_root_left None roots = true
has_root_left (Some count) roots = nat_lt roots ROOTS

-- the name comes after the one before
abbrev pub is_next_name : Option (List ℕ) → List ℕ → Bool
is_next_name None name = true
is_next_name (Some before) name = is_lt (name_cmp before name)

-- what was met once this entry was read
abbrev pub meeting : Met → CatEntry → Met
meeting met (Car car train page digest) = record met { cars = set.insert met.cars car; pages = set.insert met.pages page; train = train }
meeting met (Root name at) = record met { name = Some name; roots = met.roots + 1 }

-- A car: its number is neither 0 nor met before, its train not below the one before, its page free.
unfoldable pub car_entry_at : Option ℕ → Met → List ℕ → ℕ → Result (CatEntry × ℕ) ℕ
car_entry_at count met page place =
    let car = number_from 8 page (place + 1) in
    let train = number_from 8 page (place + 9) in
    let at = number_from 8 page (place + 17) in
    if (car == 0) || set.contains met.cars car then Err (place + 1) else
    if nat_lt train met.train then Err (place + 9) else
    if not (is_free_page count met.pages at) then Err (place + 17) else
    Ok (Car car train at (slice_range page (place + 25) (place + CAR_ENTRY_BYTES)), place + CAR_ENTRY_BYTES)

-- the place of the first byte that no name has
abbrev pub bad_name_byte : List ℕ → Option ℕ
bad_name_byte name = position (λ byte. not (is_name_byte byte)) name

-- each byte of a name that stands at a place is one of a name's, or the fault is at the first other one
abbrev pub name_bytes : ℕ → Option ℕ → Result (Unit {0}) ℕ
name_bytes place None = Ok tt
name_bytes place (Some ahead) = Err (place + ahead)

-- A root: its name has 1 to 64 bytes, each a byte of a name, it comes after the one before, the roots are not
-- too many, and the address has a car.
unfoldable pub root_entry_at : Option ℕ → Met → List ℕ → ℕ → Result (CatEntry × ℕ) ℕ
root_entry_at count met page place =
    let len = slice_index page (place + 1) in
    let name = slice_range page (place + 2) (place + 2 + len) in
    let at = address_at page (place + 2 + len) in do
      is_name ← tested (nat_lt 0 len && nat_le len NAME_BYTES) (place + 1)
      is_spelled ← name_bytes (place + 2) (bad_name_byte name)
      is_next ← tested (is_next_name met.name name && has_root_left count met.roots) (place + 1)
      has_car ← tested (nat_lt 0 at.car) (place + 2 + len)
      Ok (Root name at, place + ROOT_ENTRY_BYTES + len)

-- An entry: its kind is one of the two, it ends inside the page, and no car comes after a root.
unfoldable pub entry_at : Option ℕ → Met → List ℕ → ℕ → Result (CatEntry × ℕ) ℕ
entry_at count met page place =
    let kind = slice_index page place in
    if kind == 1 then (if nat_lt (length page) (place + CAR_ENTRY_BYTES) || not (is_none met.name) then Err place else car_entry_at count met page place) else
    if kind == 2 then (if nat_lt (length page) (place + ROOT_ENTRY_BYTES + slice_index page (place + 1)) then Err place else root_entry_at count met page place) else
    Err place

-- so many entries from a place on, and the place after the last of them
unfoldable pub entries_at : Option ℕ → Met → List ℕ → ℕ → ℕ → Result (List CatEntry × ℕ) ℕ
entries_at count met page zero place = Ok ([], place)
entries_at count met page (suc n) place = do
  first ← entry_at count met page place
  others ← entries_at count (meeting met first.0) page n first.1
  Ok (first.0 ∷ others.0, others.1)

-- the next page is 0 for none, or one that is free
abbrev pub is_next_page : Option ℕ → Numbers → ℕ → Bool
is_next_page count met next = (next == 0) || is_free_page count met next

-- the next page was met, if there is one
abbrev pub meeting_next : Met → ℕ → Met
meeting_next met zero = met
meeting_next met (suc next) = record met { pages = set.insert met.pages (suc next) }

-- where there is no next page, its digest is all 0
abbrev pub has_next_digest : ℕ → List ℕ → Bool
has_next_digest next digest = not (next == 0) || list_all (λ byte. byte == 0) digest

-- A page of the catalog, of a store of so many pages, with this met before: its magic, the next page and its
-- digest, the entries, and zeros. Where it is read by itself, no count of pages is given.
unfoldable pub catalog_at : Option ℕ → Met → List ℕ → Result CatalogPage ℕ
catalog_at count met page =
    let next = number_from 8 page 4 in
    let digest = slice_range page 12 44 in do
      is_catalog ← magic_at catalog_magic page
      is_next ← tested (is_next_page count met.pages next) 4
      has_digest ← tested (has_next_digest next digest) 12
      entries ← entries_at count (meeting_next met next) page (number_from 2 page 44) ENTRIES
      is_all ← rest_at page entries.1
      Ok (record { next = next; digest = digest; entries = entries.0 })

-- what was met once a page of entries was read
abbrev pub meeting_all : Met → List CatEntry → Met
meeting_all met [] = met
meeting_all met (entry ∷ entries) = meeting_all (meeting met entry) entries

-- what was met once this page was read
abbrev pub meeting_page : Met → CatalogPage → Met
meeting_page met page = meeting_all (meeting_next met page.next) page.entries

-- A car may come after what was met: no root was, its number is neither 0 nor met before, its train not below
-- the one before, its page free.
pub record IsNextCar (count : Option ℕ) (met : Met) (car train page : ℕ) : Type 0 where
  pub before_roots : is_none met.name ≡ true
  pub numbered : 0 < car
  pub other : set.contains met.cars car ≡ false
  pub in_order : met.train ≤ train
  pub free : is_free_page count met.pages page ≡ true

-- A root may come after what was met: its name comes after the one before, the roots are not too many, and the
-- address has a car.
pub record IsNextRoot (count : Option ℕ) (met : Met) (name : List ℕ) (at : Addr) : Type 0 where
  pub named : IsName name
  pub in_order : is_next_name met.name name ≡ true
  pub left : has_root_left count met.roots ≡ true
  pub has_car : 0 < at.car

-- an entry may come after what was met
abbrev pub IsNextEntry : Option ℕ → Met → CatEntry → Type 0
IsNextEntry count met (Car car train page digest) = IsNextCar count met car train page
IsNextEntry count met (Root name at) = IsNextRoot count met name at

-- each entry may come after what was met before the first and those before it
abbrev pub AreNext : Option ℕ → Met → List CatEntry → Type 0
AreNext count met [] = Unit {0}
AreNext count met (entry ∷ entries) = IsNextEntry count met entry × AreNext count (meeting met entry) entries

-- What a catalog says has a page, in a store of so many pages and with this met before: it fits one, the next page
-- is free, its digest is zero where there is none, and its entries may come one after the other.
pub record HasCatalogPage (count : Option ℕ) (met : Met) (page : CatalogPage) : Type 0 where
  pub fits : catalog_used page.entries ≤ PAGE_BYTES
  pub next : is_next_page count met.pages page.next ≡ true
  pub next_digest : has_next_digest page.next page.digest ≡ true
  pub entries : AreNext count (meeting_next met page.next) page.entries

-- the numbers and the digest of an entry are such as the types can hold
abbrev pub IsEntryInRange : CatEntry → Type 0
IsEntryInRange (Car car train page digest) = (car < 2 ^ 64) × (train < 2 ^ 64) × (page < 2 ^ 64) × (length digest ≡ 32)
IsEntryInRange (Root name at) = IsAddress at

-- the numbers and the digests are such as the types can hold
pub record IsCatalogInRange (page : CatalogPage) : Type 0 where
  pub next : page.next < 2 ^ 64
  pub digest : length page.digest ≡ 32
  pub entries : AllByRecursion IsEntryInRange page.entries
