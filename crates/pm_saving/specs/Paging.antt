-- Which pages of a copy in progress were written, which comes next, and what it spells.
use Rattle.std.specs.Prelude.{ℕ, zero, suc, ◌+◌, Bool, true, false, List, [], ◌∷◌, ◌++◌, map, slice_index_or, Option, Some, None, if◌then◌else◌}
use Rattle.std.specs.List.{flat_map}
use Rattle.sha2.specs.Sha256.{sha256}
use Rattle.pm_types.specs.declared.limits.TheConstants.{VERSION}
use Rattle.pm_disk.specs.Writes.{written}
use Rattle.pm_layout.specs.declared.header.Header.{Header}
use Rattle.pm_image.specs.declared.car.CarImage.{CarImage}
use Rattle.pm_image.specs.declared.catalog.CatalogPage.{CatalogPage}
use Rattle.pm_image.specs.declared.settled.KeptPage.{KeptPage}
use Rattle.pm_image.specs.CarPages.{car_spelling, padded}
use Rattle.pm_image.specs.CatalogPages.{catalog_spelling}
use Rattle.pm_shadow.specs.Images.{place_of}
use Rattle.pm_view.specs.View.{Cars}
use Rattle.pm_copies.specs.Plans.{PlannedPage, chain_of, digest_of, first_of, linked_to}
use Rattle.pm_copies.specs.Cutting.{OnePage}
use Rattle.pm_saving.specs.Progress.{Place, Clean, Unwritten, Written, PlacedCar, Progress, catalog_left, catalog_of, image_of, parts_of}

-- ---- what a page spells

-- a car, with zeros to the end of its page
abbrev pub car_text : CarImage → List ℕ
car_text image = padded (car_spelling image)

-- entries as a page of the catalog before those that were written, whose first one it names, with zeros to its end
abbrev pub part_text : List PlannedPage → OnePage → List ℕ
part_text catalog entries = padded (catalog_spelling (linked_to (record { page = 0; entries = entries }) (chain_of catalog)))

-- a car on a page that spells it
abbrev pub kept_on : ℕ → CarImage → KeptPage
kept_on page image = record { image = image; page = page; digest = sha256 (car_text image) }

-- ---- what is left

-- the car stands on no page yet
abbrev pub is_unwritten : Place → Bool
is_unwritten (Clean kept) = false
is_unwritten Unwritten = true
is_unwritten (Written kept) = false

-- how many cars stand on no page yet
abbrev pub unwritten : List PlacedCar → ℕ
unwritten [] = 0
unwritten (one ∷ others) = (if is_unwritten one.place then 1 else 0) + unwritten others

-- how many pages of the copy were not written: its cars that are not clean, and those of its catalog
abbrev pub left : Progress → ℕ
left progress = unwritten progress.cars + catalog_left progress

-- the same of a copy in progress, if there is one
abbrev pub left_of : Option Progress → ℕ
left_of None = 0
left_of (Some progress) = left progress

-- ---- the next page

-- the first car that stands on no page yet
abbrev pub first_unwritten : List PlacedCar → Option PlacedCar
first_unwritten [] = None
first_unwritten (one ∷ others) = if is_unwritten one.place then Some one else first_unwritten others

-- A page that is to be written: that of a car, or one of the catalog with these entries.
pub data NextPage : Type 0 where
  CarPage : CarImage → NextPage
  PartPage : OnePage → NextPage

-- the page of the catalog with so many pages before it, where it has so many
abbrev pub part_before : ℕ → Progress → Option NextPage
part_before zero progress = None
part_before (suc before) progress = Some (PartPage (slice_index_or (parts_of progress) before []))

-- the next page: that of the first car that stands on none, in the order of the list; then those of the catalog, from
-- the last to the first
abbrev pub next_after : Cars → Progress → Option PlacedCar → Option NextPage
next_after cars progress (Some one) = Some (CarPage (image_of cars one))
next_after cars progress None = part_before (catalog_left progress) progress

abbrev pub next_page : Cars → Progress → Option NextPage
next_page cars progress = next_after cars progress (first_unwritten progress.cars)

-- what it spells
abbrev pub text_of : Progress → NextPage → List ℕ
text_of progress (CarPage image) = car_text image
text_of progress (PartPage entries) = part_text (catalog_of progress) entries

-- the cars, of which the first that stood on no page stands on this one
abbrev pub place_first : KeptPage → List PlacedCar → List PlacedCar
place_first kept [] = []
place_first kept (one ∷ others) =
    if is_unwritten one.place then record one { place = Written kept } ∷ others else one ∷ place_first kept others

-- The copy once this page of it was written here. From its first page on the pages of its clean cars are kept for it.
abbrev pub with_page : ℕ → Progress → NextPage → Progress
with_page page progress (CarPage image) =
    record progress { cars = place_first (kept_on page image) progress.cars; kept = true }
with_page page progress (PartPage entries) =
    record progress { parts = page ∷ progress.parts; kept = true }

-- the copy once its next page was written here, if there is one
abbrev pub with_next : ℕ → Progress → Option NextPage → Progress
with_next page progress None = progress
with_next page progress (Some next) = with_page page progress next

-- the copy once its next pages were written on these pages, one after another
abbrev pub written_on : Cars → List ℕ → Progress → Progress
written_on cars [] progress = progress
written_on cars (page ∷ pages) progress = written_on cars pages (with_next page progress (next_page cars progress))

-- these bytes once the next page of the copy was written here, if there is one
abbrev pub put_next : ℕ → Progress → Option NextPage → List ℕ → List ℕ
put_next page progress None bytes = bytes
put_next page progress (Some next) bytes = written (place_of page) (text_of progress next) bytes

-- these bytes once the next pages of the copy were written on these pages, one after another
abbrev pub put_on : Cars → List ℕ → Progress → List ℕ → List ℕ
put_on cars [] progress bytes = bytes
put_on cars (page ∷ pages) progress bytes =
    put_on cars pages (with_next page progress (next_page cars progress)) (put_next page progress (next_page cars progress) bytes)

-- ---- the pages of the copy

-- a page and what was written on it
abbrev pub Put : Type 0
Put = ℕ × List ℕ

-- the page that was written for a car, if one was
abbrev pub car_put : Place → List Put
car_put (Clean kept) = []
car_put Unwritten = []
car_put (Written kept) = (kept.page, car_text kept.image) ∷ []

-- the pages that were written for the copy so far, with what was written on them
abbrev pub puts_of : Progress → List Put
puts_of progress =
    flat_map (λ (one : PlacedCar). car_put one.place) progress.cars
    ++ map (λ (page : ℕ × CatalogPage). (page.0, padded (catalog_spelling page.1))) (chain_of (catalog_of progress))

-- the page of the settled copy that a clean car has
abbrev pub clean_page : Place → List ℕ
clean_page (Clean kept) = kept.page ∷ []
clean_page Unwritten = []
clean_page (Written kept) = []

-- the pages of the clean cars
abbrev pub clean_pages : Progress → List ℕ
clean_pages progress = flat_map (λ (one : PlacedCar). clean_page one.place) progress.cars

-- those that are kept for the copy by now
abbrev pub kept_pages : Progress → List ℕ
kept_pages progress = if progress.kept then clean_pages progress else []

-- those that are kept for it with its next page: all, with its first one
abbrev pub newly_kept : Progress → List ℕ
newly_kept progress = if progress.kept then [] else clean_pages progress

-- the header of the copy, once all of it was written
abbrev pub header_of : Progress → Header
header_of progress = record {
  version = VERSION;
  epoch = progress.number;
  next = progress.next_id;
  first = first_of (chain_of (catalog_of progress));
  digest = digest_of (chain_of (catalog_of progress));
}
