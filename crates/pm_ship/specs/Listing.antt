-- What a catalog lists, as two lists.
use Rattle.std.specs.Prelude.{ℕ, List, [], ◌∷◌}
use Rattle.pm_image.specs.declared.car.CarImage.{CarImage}
use Rattle.pm_image.specs.declared.catalog.CatEntry.{CatEntry}
use Rattle.pm_image.specs.declared.catalog.CatEntry.TheVariants.{Car, Root}
use Rattle.pm_copies.specs.Listed.{Listed}

-- the trains of the cars that entries list, in order
abbrev pub trains_in : List CatEntry → List ℕ
trains_in [] = []
trains_in (Car car train page digest ∷ entries) = train ∷ trains_in entries
trains_in (Root name at ∷ entries) = trains_in entries

-- cars, each in its train
abbrev pub with_trains : List ℕ → List CarImage → List Listed
with_trains [] images = []
with_trains (train ∷ trains) [] = []
with_trains (train ∷ trains) (image ∷ images) = (train, image) ∷ with_trains trains images
