-- The cars and roots of a copy that begins.
use Rattle.std.specs.Prelude.{◌≡◌, ℕ, suc, ◌==◌, false, List, [], ◌∷◌, ◌++◌, map, Option, Some, None, option_map, if◌then◌else◌}
use Rattle.std.specs.List.{AllByRecursion}
use Rattle.std.specs.Ordering.{nat_cmp}
use Rattle.std.specs.BTreeMap.{BTreeMap}
use Rattle.std.specs.BTreeMap as tree
use Rattle.pm_types.specs.declared.address.Addr.{Addr}
use Rattle.pm_image.specs.declared.settled.KeptPage.{KeptPage}
use Rattle.pm_copies.specs.Listed.{Listed}
use Rattle.pm_saving.specs.Beginning.{ArePlaced, IsCarNumbered}
use Rattle.pm_save.specs.declared.progress.place.PlacedCar.{PlacedCar}
use Rattle.pm_save.specs.declared.progress.place.InProgress.{InProgress}
use Rattle.pm_save.specs.Progress.Seen.{car_seen}
use Rattle.pm_save.specs.Progress.Kept.{IsWithin}

-- the place of the first of the settled cars that has this number
abbrev pub first_at : ℕ → List KeptPage → Option ℕ
first_at number [] = None
first_at number (kept ∷ others) = if kept.image.number == number then Some 0 else option_map suc (first_at number others)

-- the first of two, and the second where the first is none
abbrev pub first_of : {A : Type 0} → Option A → Option A → Option A
first_of None other = other
first_of (Some x) other = Some x

-- the map has the place of the first settled car of each number
abbrev pub IsIndex : List KeptPage → BTreeMap ℕ ℕ → Type 0
IsIndex settled index = (number : ℕ) → tree.get nat_cmp index number ≡ first_at number settled

-- the cars are these of a list, each clean or still to be written; their numbers are such as the types hold
pub record IsPlanned (settled : List KeptPage) (list : List Listed) (cars : List PlacedCar) : Type 0 where
  pub placed : ArePlaced settled list (map (car_seen settled) cars)
  pub within : AllByRecursion (λ (one : PlacedCar). IsWithin settled one.place) cars
  pub numbered : AllByRecursion IsCarNumbered (map (car_seen settled) cars)

-- these cars of the list were put behind those before
abbrev pub PlansOn : List KeptPage → List Listed → List PlacedCar → List PlacedCar → Type 0
PlansOn settled more old new = (list : List Listed) → IsPlanned settled list old → IsPlanned settled (list ++ more) new

-- a copy of these cars and roots, of which nothing was written
pub record IsStarted (listed : List PlacedCar) (names : List (List ℕ × Addr)) (next number : ℕ) (it : InProgress) : Type 0 where
  pub number_is : it.number ≡ number
  pub cars : it.cars.items ≡ listed
  pub roots : it.roots.items ≡ names
  pub next_id : it.next_id ≡ next
  pub kept : it.kept ≡ false
  pub parts : it.parts.items ≡ []
