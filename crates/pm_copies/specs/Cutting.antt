-- How entries are cut into the pages of a catalog: each page is filled before the next.
use Rattle.std.specs.Prelude.{ℕ, [], ◌∷◌, List}
use Rattle.pm_image.specs.declared.catalog_kind.TheConstants.{ENTRIES}
use Rattle.pm_image.specs.declared.catalog.CatEntry.{CatEntry}
use Rattle.pm_image.specs.CatalogPages.{catalog_used, entry_size}
use Rattle.pm_copies.specs.Filling.{joined_parts, onto_first_part, HasRoom, IsFilledBefore, IsFilledInto, filled_from}

-- the entries of one page
abbrev pub OnePage : Type 0
OnePage = List CatEntry

-- the entries of pages, one after the other
abbrev pub joined : List OnePage → List CatEntry
joined pages = joined_parts pages

-- entries fit a page
abbrev pub Fit : OnePage → Type 0
Fit = HasRoom catalog_used

-- an entry fits a page alone
abbrev pub FitsAlone : CatEntry → Type 0
FitsAlone entry = Fit (entry ∷ [])

-- a page is filled before the next: that one begins with an entry for which this one has no room
abbrev pub IsFilled : OnePage → OnePage → Type 0
IsFilled = IsFilledBefore catalog_used entry_size

-- The entries are cut into these pages: each of them stands once, in order; each page fits, and is filled before the
-- next; and there is a page, also where there is no entry.
abbrev pub IsCutInto : List CatEntry → List OnePage → Type 0
IsCutInto = IsFilledInto catalog_used entry_size

-- an entry before those of the first page
abbrev pub onto_first : CatEntry → List OnePage → List OnePage
onto_first = onto_first_part

-- Entries, cut from left to right: the next one goes on the page on which so many bytes are used, where it has room
-- there, and else on a new one.
abbrev pub cut_from : ℕ → List CatEntry → List OnePage
cut_from = filled_from entry_size ENTRIES

-- entries, cut into pages
abbrev pub cut : List CatEntry → List OnePage
cut entries = cut_from (catalog_used []) entries
