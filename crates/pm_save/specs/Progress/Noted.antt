-- A copy in progress once its next page was written.
use Rattle.std.specs.Prelude.{ℕ, zero, suc, ◌<◌, List, [], ◌∷◌, length, vec_capacity}
use Rattle.pm_image.specs.declared.settled.KeptPage.{KeptPage}
use Rattle.pm_save.specs.declared.progress.place.Place.TheVariants.{Written}
use Rattle.pm_save.specs.declared.progress.place.PlacedCar.{PlacedCar}
use Rattle.pm_save.specs.declared.progress.place.InProgress.{InProgress}
use Rattle.pm_save.specs.declared.progress.next.Next.{Next}
use Rattle.pm_save.specs.declared.progress.next.Next.TheVariants.{Car, Part}

-- the cars, of which the one at this place stands on this page
abbrev pub with_written : ℕ → KeptPage → List PlacedCar → List PlacedCar
with_written place kept [] = []
with_written zero kept (one ∷ others) = record one { place = Written kept } ∷ others
with_written (suc place) kept (one ∷ others) = one ∷ with_written place kept others

-- there is a car to be noted, or room for a page of the catalog
abbrev pub HasPlaceFor : InProgress → Next → Type 0
HasPlaceFor it (Car image) = it.placed < length it.cars.items
HasPlaceFor it (Part entries) = length it.parts.items < vec_capacity it.parts
