-- Cars and roots that no rule of opening refuses.
use Rattle.std.specs.Prelude.{◌≡◌, ℕ, ◌<◌, ◌≤◌, ◌==◌, true, false, List, [], ◌∷◌, length, Option, Some, None}
use Rattle.std.specs.List.{flat_map, AllByRecursion}
use Rattle.pm_types.specs.declared.limits.TheConstants.{PAGE_BYTES, FIELDS, ROOTS, END_ID}
use Rattle.pm_types.specs.declared.address.Addr.{Addr}
use Rattle.pm_types.specs.declared.object.Object.{Object}
use Rattle.pm_types.specs.declared.object.Slot.{Slot}
use Rattle.pm_types.specs.declared.object.Slot.TheVariants.{Live}
use Rattle.pm_layout.specs.Spelling.{HasSpelling}
use Rattle.pm_image.specs.declared.car.CarImage.{CarImage}
use Rattle.pm_image.specs.declared.catalog.CatEntry.{CatEntry}
use Rattle.pm_image.specs.declared.catalog.CatEntry.TheVariants.{Car, Root}
use Rattle.pm_image.specs.CarPages.{Numbers, Ascend, car_used, HasCarPage}
use Rattle.pm_image.specs.CatalogPages.{is_next_name}
use Rattle.pm_image.specs.Graphs.{slot_named, with_identities}
use Rattle.pm_image.specs.Leading.{CarLeads, RootLeads}
use Rattle.pm_copies.specs.Listed.{Listed, images}

-- A car: its number is not 0, its slots ascend and none is over the last, it fits a page, and each slot has a spelling,
-- so that fields and bytes are within the limits, no identity is 0, and each address has a car.
pub record IsAcceptedCar (car : CarImage) : Type 0 where
  pub from_one : 0 < car.number
  pub ascend : Ascend 0 car.slots
  pub fits : car_used car.slots ≤ PAGE_BYTES
  pub slots : AllByRecursion (λ (entry : ℕ × Slot). HasSpelling FIELDS entry.1) car.slots

-- no two cars have one number
abbrev pub Differ : List CarImage → Type 0
Differ [] = Unit {0}
Differ (car ∷ cars) = AllByRecursion (λ (other : CarImage). (other.number == car.number) ≡ false) cars × Differ cars

-- the numbers of the trains never fall, and none is below this one
abbrev pub NeverFall : ℕ → List Listed → Type 0
NeverFall least [] = Unit {0}
NeverFall least (one ∷ others) = (least ≤ one.0) × NeverFall one.0 others

-- the names ascend, and the first comes after this one
abbrev pub NamesAscend : Option (List ℕ) → List CatEntry → Type 0
NamesAscend before [] = Unit {0}
NamesAscend before (Car car train page digest ∷ entries) = NamesAscend before entries
NamesAscend before (Root name at ∷ entries) = (is_next_name before name ≡ true) × NamesAscend (Some name) entries

-- the root that an entry lists, if it lists one, and those of a list of entries
abbrev pub root_in : CatEntry → List (List ℕ × Addr)
root_in (Car car train page digest) = []
root_in (Root name at) = (name, at) ∷ []

abbrev pub roots_in : List CatEntry → List (List ℕ × Addr)
roots_in entries = flat_map root_in entries

-- What the rules ask of cars and roots, under this next identity.
pub record IsAccepted (listed : List Listed) (catalog : List CatEntry) (next_id : ℕ) : Type 0 where
  -- the next identity is in its range
  pub next : (1 ≤ next_id) × (next_id ≤ END_ID)
  -- trains never fall, each car is as it must be, and no two have one number
  pub trains : NeverFall 0 listed
  pub cars : AllByRecursion IsAcceptedCar (images listed)
  pub differ : Differ (images listed)
  -- each identity is below the next one, and no two objects have the same
  pub given : (a : Addr) (object : Object) → slot_named (images listed) a ≡ Some (Live object) → object.id < next_id
  pub apart : (a b : Addr) (o p : Object) → slot_named (images listed) a ≡ Some (Live o) → slot_named (images listed) b ≡ Some (Live p) → o.id ≡ p.id → a ≡ b
  -- each address leads to an object: that of a Moved slot at once, another one through at most one Moved slot
  pub lead : AllByRecursion (CarLeads (images listed)) (images listed)
  pub roots : AllByRecursion (RootLeads (images listed)) catalog
  -- names ascend, and are not too many
  pub names : NamesAscend None catalog
  pub few : length (roots_in catalog) ≤ ROOTS

-- Each car has a page, of objects of at most so many fields and under this next identity, where these identities were
-- met before the first car, and those of a car before the next one.
abbrev pub HavePages : ℕ → ℕ → Numbers → List CarImage → Type 0
HavePages most next_id met [] = Unit {0}
HavePages most next_id met (car ∷ cars) = HasCarPage (record { most = most; next = next_id; number = Some car.number }) met car × HavePages most next_id (with_identities met car.slots) cars
