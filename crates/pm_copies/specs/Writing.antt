-- What may be written as a page of a catalog.
use Rattle.std.specs.Prelude.{◌≡◌, ℕ, List, None, true}
use Rattle.pm_image.specs.CatalogPages.{HasCatalogPage, has_next_digest, nothing_met}
use Rattle.pm_copies.specs.Cutting.{OnePage}

-- entries may be written as one page, by itself, whichever page is named as the next one; where none is, its digest
-- is all 0
abbrev pub MayBeWritten : OnePage → Type 0
MayBeWritten entries =
    (next : ℕ) (digest : List ℕ) → has_next_digest next digest ≡ true
    → HasCatalogPage None nothing_met (record { next = next; digest = digest; entries = entries })
