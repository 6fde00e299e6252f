-- A copy in progress: what it lists, and which of its pages were written.
use Rattle.std.specs.Prelude.{ℕ, ◌-◌, Bool, List, [], ◌∷◌, ◌++◌, length, map, drop, replicate, Option, Some, None}
use Rattle.std.specs.List.{flat_map}
use Rattle.std.specs.FinMap.{empty, get, entries, from_entries}
use Rattle.pm_types.specs.declared.address.Addr.{Addr}
use Rattle.pm_types.specs.declared.object.Slot.{Slot}
use Rattle.pm_cars.specs.Cars.{Car}
use Rattle.pm_model.specs.World.{Copy}
use Rattle.pm_image.specs.declared.car.CarImage.{CarImage}
use Rattle.pm_image.specs.declared.catalog.CatEntry.{CatEntry}
use Rattle.pm_image.specs.declared.catalog.CatEntry.TheVariants.{Car as CarEntry}
use Rattle.pm_image.specs.declared.settled.KeptPage.{KeptPage}
use Rattle.pm_view.specs.View.{Cars}
use Rattle.pm_copies.specs.Listed.{Listed, copy_listed}
use Rattle.pm_copies.specs.Opened.{next_after}
use Rattle.pm_copies.specs.Plans.{CarPlan, PlannedPage, PlannedTrain, planned_entries, root_entry}
use Rattle.pm_copies.specs.Cutting.{OnePage, cut}

-- Where a car of a copy in progress stands: on a page of the settled copy, which has the same content; on no page yet; or
-- on a page that was written for this copy.
pub data Place : Type 0 where
  Clean : KeptPage → Place
  Unwritten : Place
  Written : KeptPage → Place

-- a car of the copy: the train in which it is listed, its number, and where it stands
pub record PlacedCar : Type 0 where
  pub train : ℕ
  pub number : ℕ
  pub place : Place

-- A copy in progress: its number; its cars, in the order of the list; its roots, each a name with its address, ascending;
-- its next identity; whether the pages of its clean cars are kept for it; and the pages of its catalog that were written,
-- which are its last ones, the first of them first.
pub record Progress : Type 0 where
  pub number : ℕ
  pub cars : List PlacedCar
  pub roots : List (List ℕ × Addr)
  pub next_id : ℕ
  pub kept : Bool
  pub parts : List ℕ

-- What contracts see of a saver: the cars of the settled copy, each as its page spells it, in the order of the catalog;
-- and the copy in progress, if there is one.
pub record Saving : Type 0 where
  pub settled : List KeptPage
  pub progress : Option Progress

-- ---- what the copy lists; its cars are those that were frozen when it was begun

-- the cars that are frozen, none where they are not
abbrev pub cars_or_none : Option Cars → Cars
cars_or_none None = empty
cars_or_none (Some cars) = cars

-- the Live and Moved slots of a car, ascending
abbrev pub slots_of : Option Car → List (ℕ × Slot)
slots_of None = []
slots_of (Some car) = entries car.slots

-- the car of this number, as its page spells it; without a slot where there is none
abbrev pub image_at : Cars → ℕ → CarImage
image_at cars number = record { number = number; slots = slots_of (get cars number) }

-- what a car holds
abbrev pub image_of : Cars → PlacedCar → CarImage
image_of cars one = image_at cars one.number

-- a car as the copy lists it
abbrev pub in_list : Cars → PlacedCar → Listed
in_list cars one = (one.train, image_of cars one)

-- the cars that the copy lists
abbrev pub list_of : Cars → Progress → List Listed
list_of cars progress = map (in_list cars) progress.cars

-- the roots that it lists
abbrev pub roots_of : Progress → List CatEntry
roots_of progress = map root_entry progress.roots

-- the copy
abbrev pub copy_of : Cars → Progress → Copy
copy_of cars progress = copy_listed (list_of cars progress) (roots_of progress) progress.next_id

-- ---- cars that are no space's

-- a car that has these slots; its next one is behind the last of them
abbrev pub car_of : CarImage → Car
car_of image = record { number = image.number; slots = from_entries image.slots; next = next_after 0 image.slots }

-- cars as a map, each with its slots
abbrev pub cars_of : List CarImage → Cars
cars_of images = from_entries (map (λ (image : CarImage). (image.number, car_of image)) images)

-- ---- where it stands

-- the page on which a car stands, if it stands on one, with the car as that page spells it
abbrev pub page_in : Place → List KeptPage
page_in (Clean kept) = kept ∷ []
page_in Unwritten = []
page_in (Written kept) = kept ∷ []

-- the pages on which its cars stand
abbrev pub car_pages : Progress → List KeptPage
car_pages progress = flat_map (λ (one : PlacedCar). page_in one.place) progress.cars

-- a car that stands on a page, as one of a plan: each in a train by itself
abbrev pub planned : PlacedCar → List PlannedTrain
planned one = map (λ (kept : KeptPage). record { number = one.train; cars = kept ∷ [] }) (page_in one.place)

-- the plan of its cars and roots: of the cars, those that stand on a page
abbrev pub cars_plan : Progress → CarPlan
cars_plan progress = record { trains = flat_map planned progress.cars; roots = progress.roots; catalog = [] }

-- ---- its catalog

-- the entry of a car before its page is known; it has the size that it will have
abbrev pub draft_entry : PlacedCar → CatEntry
draft_entry one = CarEntry one.number one.train 0 (replicate 32 0)

-- how many pages the catalog has
abbrev pub catalog_len : Progress → ℕ
catalog_len progress = length (cut (map draft_entry progress.cars ++ roots_of progress))

-- how many of them were not written
abbrev pub catalog_left : Progress → ℕ
catalog_left progress = catalog_len progress - length progress.parts

-- the entries of the copy, once each car stands on a page, cut into those of the catalog's pages
abbrev pub parts_of : Progress → List OnePage
parts_of progress = cut (planned_entries (cars_plan progress))

-- pages, each with the entries that it lists
abbrev pub paired : List ℕ → List OnePage → List PlannedPage
paired [] parts = []
paired (page ∷ pages) [] = []
paired (page ∷ pages) (entries ∷ parts) = record { page = page; entries = entries } ∷ paired pages parts

-- the pages of the catalog that were written
abbrev pub catalog_of : Progress → List PlannedPage
catalog_of progress = paired progress.parts (drop (catalog_left progress) (parts_of progress))

-- The plan of a copy in progress, as far as it was written. It is that of the whole copy once nothing is left.
abbrev pub plan_of : Progress → CarPlan
plan_of progress = record (cars_plan progress) { catalog = catalog_of progress }
