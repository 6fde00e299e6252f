-- Parts of the reading of a catalog page.
use Rattle.std.specs.Prelude.{ℕ, ◌+◌, ◌*◌, ◌≤◌, List, slice_range, Option, Some, None, Result, Ok, nat_lt, nat_le, ◌&&◌}
use Rattle.pm_types.specs.declared.limits.TheConstants.{NAME_BYTES}
use Rattle.pm_layout.specs.Reading.{number_from, address_at}
use Rattle.pm_image.specs.declared.catalog.CatEntry.{CatEntry}
use Rattle.pm_image.specs.declared.catalog.CatEntry.TheVariants.{Root}
use Rattle.pm_image.specs.Steps.{tested}
use Rattle.pm_types.specs.Results.{◌>>=◌}
use Rattle.pm_image.specs.CarPages.{Numbers}
use Rattle.pm_image.specs.CatalogPages.{Met, bad_name_byte, name_bytes, is_next_name, has_root_left, is_next_page, has_next_digest}

-- the name of so many bytes from a place on; its length stands at another
unfoldable pub name_at : List ℕ → ℕ → ℕ → ℕ → Result (List ℕ) ℕ
name_at page at len place = do
  is_name ← tested (nat_lt 0 len && nat_le len NAME_BYTES) at
  is_spelled ← name_bytes place (bad_name_byte (slice_range page place (place + len)))
  Ok (slice_range page place (place + len))

-- a root of this name, the length of which stands at a place; its address stands at another
unfoldable pub root_at : Option ℕ → Met → List ℕ → ℕ → List ℕ → ℕ → Result (CatEntry × ℕ) ℕ
root_at count met page at name place = do
  is_next ← tested (is_next_name met.name name && has_root_left count met.roots) at
  has_car ← tested (nat_lt 0 (address_at page place).car) place
  Ok (Root name (address_at page place), place + 12)

-- the next page of the catalog
unfoldable pub next_page_at : Option ℕ → Numbers → List ℕ → Result ℕ ℕ
next_page_at count met page = do
  is_next ← tested (is_next_page count met (number_from 8 page 4)) 4
  Ok (number_from 8 page 4)

-- the digest of this next page
unfoldable pub next_digest_at : ℕ → List ℕ → Result (List ℕ) ℕ
next_digest_at next page = do
  has_digest ← tested (has_next_digest next (slice_range page 12 44)) 12
  Ok (slice_range page 12 44)

-- A page that is read by itself has no more roots before a place than have room there, at 15 bytes at least. (Of
-- those of a whole store the number is looked at.)
abbrev pub HasRoomForRoots : Option ℕ → ℕ → ℕ → Type 0
HasRoomForRoots None roots place = 15 * roots ≤ place
HasRoomForRoots (Some count) roots place = Unit {0}
