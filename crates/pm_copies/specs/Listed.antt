-- What a copy of a space lists, and which copy that is.
use Rattle.std.specs.Prelude.{ℕ, List, [], ◌∷◌, map, Option, Some, None, if◌then◌else◌}
use Rattle.std.specs.List.{flat_map}
use Rattle.std.specs.FinMap.{get, entries}
use Rattle.pm_types.specs.declared.address.Addr.{Addr}
use Rattle.pm_cars.specs.Cars.{Car}
use Rattle.pm_trains.specs.Trains.{Train}
use Rattle.pm_model.specs.World.{Copy}
use Rattle.pm_model.specs.Copying.{copied}
use Rattle.pm_image.specs.declared.car.CarImage.{CarImage}
use Rattle.pm_image.specs.declared.catalog.CatEntry.{CatEntry}
use Rattle.pm_image.specs.declared.catalog.CatEntry.TheVariants.{Root}
use Rattle.pm_image.specs.Graphs.{heap_of, roots_of}
use Rattle.pm_view.specs.View.{SpaceView}
use Rattle.pm_view.specs.Reading.{is_aside}

-- a car that is listed: the number of its train, and what it holds
abbrev pub Listed : Type 0
Listed = ℕ × CarImage

-- what the listed cars hold
abbrev pub images : List Listed → List CarImage
images listed = map (λ (one : Listed). one.1) listed

-- The copy that listed cars and roots are, under this next identity: the roots, and the objects that they reach, each
-- address followed through at most one Moved slot.
abbrev pub copy_listed : List Listed → List CatEntry → ℕ → Copy
copy_listed listed roots next = copied (heap_of (images listed)) (roots_of (images listed) roots) next

-- the car of this number in the train, where it stands, with its Live and Moved slots, ascending
abbrev pub image_in : ℕ → ℕ → Option Car → List Listed
image_in train number None = []
image_in train number (Some car) = (train, record { number = number; slots = entries car.slots }) ∷ []

-- a car of a train, if it is not set aside
abbrev pub listed_car : SpaceView → ℕ → ℕ → List Listed
listed_car view train number = if is_aside view number then [] else image_in train number (get view.cars number)

-- the cars of a train that are not set aside, its first car first
abbrev pub listed_of : SpaceView → Train → List Listed
listed_of view train = flat_map (listed_car view train.number) train.cars

-- the cars in the list of a copy: those of each train that are not set aside, the oldest train first
abbrev pub listed : SpaceView → List Listed
listed view = flat_map (listed_of view) view.trains.trains

-- what they hold
abbrev pub listed_cars : SpaceView → List CarImage
listed_cars view = images (listed view)

-- a name and its address, as a catalog lists it
abbrev pub root_entry : List ℕ × (ℕ × Addr) → CatEntry
root_entry e = Root e.0 e.1.1

-- the names with their addresses, ascending
abbrev pub root_entries : SpaceView → List CatEntry
root_entries view = map root_entry (entries view.roots)

-- the copy of a space
abbrev pub copy_in : SpaceView → Copy
copy_in view = copy_listed (listed view) (root_entries view) view.next
