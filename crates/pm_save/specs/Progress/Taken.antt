-- Settled cars that are taken out of their list.
use Rattle.std.specs.Prelude.{◌≡◌, ℕ, ◌==◌, false, List, [], ◌∷◌, map}
use Rattle.std.specs.List.{AllByRecursion, flat_map, slice_get}
use Rattle.pm_image.specs.declared.settled.KeptPage.{KeptPage}
use Rattle.pm_saving.specs.Progress as seen
use Rattle.pm_saving.specs.Progress.{page_in}
use Rattle.pm_save.specs.Progress.Kept.{IsWithin}
use Rattle.pm_save.specs.Progress.Seen.{car_seen, place_seen}
use Rattle.pm_save.specs.declared.progress.place.Place.{Place}
use Rattle.pm_save.specs.declared.progress.place.Place.TheVariants.{Clean, Unwritten, Written}
use Rattle.pm_save.specs.declared.progress.place.PlacedCar.{PlacedCar}

-- another place is not that of this settled car
abbrev pub IsNotAt : ℕ → Place → Type 0
IsNotAt index (Clean other) = (other == index) ≡ false
IsNotAt index Unwritten = Unit {0}
IsNotAt index (Written kept) = Unit {0}

-- two places are not those of one settled car
abbrev pub ArePlacesApart : Place → Place → Type 0
ArePlacesApart (Clean index) other = IsNotAt index other
ArePlacesApart Unwritten other = Unit {0}
ArePlacesApart (Written kept) other = Unit {0}

-- no settled car is that of two cars
abbrev pub AreOnce : List PlacedCar → Type 0
AreOnce [] = Unit {0}
AreOnce (one ∷ others) = AllByRecursion (λ (other : PlacedCar). ArePlacesApart one.place other.place) others × AreOnce others

-- the settled cars are those from before, but for that of this place
abbrev pub StaysBut : Place → List KeptPage → List KeptPage → Type 0
StaysBut (Clean index) old new = (other : ℕ) → (other == index) ≡ false → slice_get new other ≡ slice_get old other
StaysBut Unwritten old new = new ≡ old
StaysBut (Written kept) old new = new ≡ old

-- the pages of cars that stand on one
abbrev pub pages_of : List KeptPage → List PlacedCar → List KeptPage
pages_of settled cars = flat_map (λ (one : seen.PlacedCar). page_in one.place) (map (car_seen settled) cars)

-- the page of this car was not taken
pub record StaysFor (settled now : List KeptPage) (one : PlacedCar) : Type 0 where
  pub same : place_seen now one.place ≡ place_seen settled one.place
  pub within : IsWithin now one.place
