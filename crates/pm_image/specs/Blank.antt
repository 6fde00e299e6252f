-- The store that has just been made: three pages, and no object and no root behind them.
use Rattle.std.specs.Prelude.{ℕ, ◌-◌, List, [], ◌∷◌, ◌++◌, replicate}
use Rattle.sha2.specs.Sha256.{sha256}
use Rattle.pm_types.specs.declared.limits.TheConstants.{PAGE_BYTES, VERSION}
use Rattle.pm_layout.specs.declared.header.Header.{Header}
use Rattle.pm_layout.specs.Headers.{header_spelling}
use Rattle.pm_image.specs.declared.catalog.CatalogPage.{CatalogPage}
use Rattle.pm_image.specs.CarPages.{padded}
use Rattle.pm_image.specs.CatalogPages.{catalog_spelling}
use Rattle.pm_image.specs.Opening.{open_gate}

-- a catalog without an entry, of one page
abbrev pub blank_catalog : CatalogPage
blank_catalog = record { next = 0; digest = replicate 32 0; entries = [] }

-- page 2: that catalog
unfoldable pub blank_catalog_page : List ℕ
blank_catalog_page = padded (catalog_spelling blank_catalog)

-- copy 0: the first identity comes next, and its catalog begins on page 2
abbrev pub blank_header : Header
blank_header = record { version = VERSION; epoch = 0; next = 1; first = 2; digest = sha256 blank_catalog_page }

-- a header's page: its body, bytes that are not read, and its gate
abbrev pub header_page : List ℕ → ℕ → List ℕ
header_page body gate = body ++ (replicate (PAGE_BYTES - 97) 0 ++ gate ∷ [])

-- the three pages: the open header, the slot that no header has used, and the catalog
unfoldable pub blank_store : List ℕ
blank_store = header_page (header_spelling blank_header) open_gate ++ (replicate PAGE_BYTES 0 ++ blank_catalog_page)
