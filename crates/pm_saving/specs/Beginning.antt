-- What is in progress once a copy of a space was begun.
use Rattle.std.specs.Prelude.{◌≡◌, ℕ, ◌==◌, ◌<◌, ◌≤◌, ◌^◌, true, false, List, [], ◌∷◌, Contains, length, map, Option, Some, None, if◌then◌else◌}
use Rattle.std.specs.List.{AllByRecursion}
use Rattle.std.specs.FinMap.{entries}
use Rattle.pm_types.specs.Names.{IsName}
use Rattle.pm_types.specs.declared.address.Addr.{Addr}
use Rattle.pm_image.specs.declared.car.CarImage.{CarImage}
use Rattle.pm_image.specs.declared.settled.KeptPage.{KeptPage}
use Rattle.pm_view.specs.View.{Cars, SpaceView}
use Rattle.pm_copies.specs.Listed.{Listed, listed}
use Rattle.pm_copies.specs.Accepted.{IsAccepted}
use Rattle.pm_copies.specs.Opened.{unnumbered}
use Rattle.pm_saving.specs.Progress.{Place, Clean, Unwritten, Written, PlacedCar, Progress, Saving, catalog_len, image_at, image_of, list_of, roots_of}
use Rattle.pm_saving.specs.Paging.{kept_on, unwritten}

-- the first of the settled cars that has this number
abbrev pub settled_at : ℕ → List KeptPage → Option KeptPage
settled_at number [] = None
settled_at number (kept ∷ others) = if kept.image.number == number then Some kept else settled_at number others

-- A car is clean where its content is that of the settled car of its number, whose page it has then; and else it is still
-- to be written.
abbrev pub IsPlacedAs : List KeptPage → CarImage → Place → Type 0
IsPlacedAs settled image (Clean kept) = (settled_at image.number settled ≡ Some kept) × (kept.image ≡ image)
IsPlacedAs settled image Unwritten = (kept : KeptPage) → settled_at image.number settled ≡ Some kept → kept.image ≡ image → ⊥
IsPlacedAs settled image (Written kept) = ⊥

-- the cars are these of a list, in its order, each clean or still to be written
abbrev pub ArePlaced : List KeptPage → List Listed → List PlacedCar → Type 0
ArePlaced settled [] [] = Unit {0}
ArePlaced settled [] (one ∷ others) = ⊥
ArePlaced settled (first ∷ list) [] = ⊥
ArePlaced settled (first ∷ list) (one ∷ others) =
    (one.train ≡ first.0) × (one.number ≡ first.1.number) × IsPlacedAs settled first.1 one.place × ArePlaced settled list others

-- A copy of this list and these roots is in progress under this number, with this next identity, and nothing of it was
-- written. What is settled stays.
pub record BeginsListed (old new : Saving) (list : List Listed) (names : List (List ℕ × Addr)) (next number : ℕ) : Type 0 where
  pub settled : new.settled ≡ old.settled
  pub begun : Progress
  pub now : new.progress ≡ Some begun
  pub number_is : begun.number ≡ number
  pub cars : ArePlaced old.settled list begun.cars
  pub roots : begun.roots ≡ names
  pub next_id : begun.next_id ≡ next
  pub kept : begun.kept ≡ false
  pub parts : begun.parts ≡ []

-- A copy of the space is in progress under this number, and nothing of it was written. What is settled stays.
abbrev pub Begins : Saving → Saving → SpaceView → ℕ → Type 0
Begins old new view number = BeginsListed old new (listed view) (map unnumbered (entries view.roots)) view.next number

-- among these cars each one that is listed is found by its number, as it is listed
abbrev pub AreFrozen : Cars → List Listed → Type 0
AreFrozen cars list = AllByRecursion (λ (one : Listed). one.1 ≡ image_at cars one.1.number) list

-- ---- what holds of a copy in progress

-- the numbers of a car are such as the types hold
pub record IsCarNumbered (one : PlacedCar) : Type 0 where
  pub train : one.train < 2 ^ 64
  pub number : one.number < 2 ^ 64

-- Where a car stands on a page, it does so as it was frozen: on a page of the settled copy, or on one that spells it.
abbrev pub StandsAs : List KeptPage → CarImage → Place → Type 0
StandsAs settled image (Clean kept) = Contains settled kept × (kept.image ≡ image)
StandsAs settled image Unwritten = Unit {0}
StandsAs settled image (Written kept) = kept ≡ kept_on kept.page image

-- No more pages of the catalog were written than it has, and none before each car stands on a page and the pages of the
-- clean ones are kept.
pub record AreLast (progress : Progress) : Type 0 where
  pub few : length progress.parts ≤ catalog_len progress
  pub placed : 0 < length progress.parts → unwritten progress.cars ≡ 0
  pub kept : 0 < length progress.parts → progress.kept ≡ true

-- What holds of a copy in progress whose cars were frozen so: no rule refuses what it lists, its numbers are such as the
-- types hold, its names are names, each car that stands on a page does so as it was frozen, and the
-- catalog is written behind the cars.
pub record IsInProgress (settled : List KeptPage) (cars : Cars) (progress : Progress) : Type 0 where
  pub accepted : IsAccepted (list_of cars progress) (roots_of progress) progress.next_id
  pub numbered : AllByRecursion IsCarNumbered progress.cars
  pub copy_number : progress.number < 2 ^ 32
  pub names : AllByRecursion (λ (root : List ℕ × Addr). IsName root.0) progress.roots
  pub stand : AllByRecursion (λ (one : PlacedCar). StandsAs settled (image_of cars one) one.place) progress.cars
  pub catalog : AreLast progress
