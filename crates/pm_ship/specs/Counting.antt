-- How many pages a ship writes.
use Rattle.std.specs.Prelude.{◌≡◌, ◌⊎◌, ℕ, ◌+◌, List, [], ◌∷◌, ◌++◌, Contains, length, map, replicate}
use Rattle.pm_image.specs.declared.car.CarImage.{CarImage}
use Rattle.pm_image.specs.declared.catalog.CatEntry.{CatEntry}
use Rattle.pm_image.specs.declared.catalog.CatEntry.TheVariants.{Car}
use Rattle.pm_copies.specs.Listed.{Listed, images}
use Rattle.pm_copies.specs.Plans.{root_entry}
use Rattle.pm_copies.specs.Cutting.{cut}
use Rattle.pm_ship.specs.Offers.{Offer}

-- so many of these cars are not among the standby's: none of its pages has their content
abbrev pub AreMissing : List CarImage → List CarImage → ℕ → Type 0
AreMissing there [] count = count ≡ 0
AreMissing there (car ∷ cars) count =
    (Contains there car × AreMissing there cars count)
    ⊎ ((Contains there car → ⊥) × ((fewer : ℕ) × (count ≡ fewer + 1) × AreMissing there cars fewer))

-- the entry of a car, on whatever page it stands: it has the same size for all
abbrev pub entry_drafted : Listed → CatEntry
entry_drafted one = Car one.1.number one.0 0 (replicate 32 0)

-- how many pages the catalog of these cars and roots has
abbrev pub catalog_count : Offer → ℕ
catalog_count offer = length (cut (map entry_drafted offer.list ++ map root_entry offer.roots))

-- So many pages are written for what is offered to a standby that has these cars: one for each car that is not among
-- them, and those of the catalog.
pub record IsCount (there : List CarImage) (offer : Offer) (written : ℕ) : Type 0 where
  pub missing : ℕ
  pub are_missing : AreMissing there (images offer.list) missing
  pub sum : written ≡ missing + catalog_count offer
