-- What the examples speak of.
use Rattle.std.specs.Prelude.{ℕ, List, [], ◌∷◌, codes, replicate}
use Rattle.sha2.specs.Sha256.{sha256}
use Rattle.pm_image.specs.declared.catalog.CatEntry.{CatEntry}
use Rattle.pm_image.specs.declared.catalog.CatEntry.TheVariants.{Car, Root}
use Rattle.pm_image.specs.declared.settled.KeptPage.{KeptPage}
use Rattle.pm_types.specs.declared.address.Addr.{Addr}
use Rattle.pm_types.specs.declared.object.Slot.{Slot}
use Rattle.pm_image.specs.First.{first_car, first_car_page}
use Rattle.pm_law_copies.specs.Examples.{five, nine, seven}
use Rattle.pm_copies.specs.Plans.{CarPlan, PlannedTrain, car_entry, root_entry}

-- the entry of a car
abbrev pub a_car : CatEntry
a_car = Car 1 1 3 (replicate 32 0)

-- the entry of a root whose name has this many bytes
abbrev pub a_root : ℕ → CatEntry
a_root bytes = Root (replicate bytes 97) (record { car = 1; slot = 0 })

-- the plan of nothing, its catalog on page 2
abbrev pub nothing : CarPlan
nothing = record { trains = []; roots = []; catalog = record { page = 2; entries = [] } ∷ [] }

-- the car of a first checkpoint, in train 1 and on page 3
abbrev pub first_kept : KeptPage
first_kept = record { image = first_car; page = 3; digest = sha256 first_car_page }

-- its root
abbrev pub first_root : List ℕ × Addr
first_root = (codes "a", record { car = 1; slot = 0 })

-- the plan of a first checkpoint: its car, its root, and its catalog on page 4
abbrev pub first_plan : CarPlan
first_plan = record {
  trains = record { number = 1; cars = first_kept ∷ [] } ∷ [];
  roots = first_root ∷ [];
  catalog = record { page = 4; entries = car_entry (1, first_kept) ∷ root_entry first_root ∷ [] } ∷ [];
}

-- a train of one car with these slots, on this page, of which a digest of zeros is kept
abbrev pub train_of_one : ℕ → ℕ → List (ℕ × Slot) → ℕ → PlannedTrain
train_of_one train car slots page =
    record {
      number = train;
      cars = record { image = record { number = car; slots = slots }; page = page; digest = replicate 32 0 } ∷ [];
    }

-- A plan of three cars in trains 3, 4 and 8, with fields, a cycle and Moved slots; its root names a slot that was
-- Moved.
abbrev pub moved_plan : CarPlan
moved_plan = record {
  trains = train_of_one 3 5 five 2 ∷ train_of_one 4 7 seven 3 ∷ train_of_one 8 9 nine 4 ∷ [];
  roots = (codes "a", record { car = 7; slot = 4 }) ∷ [];
  catalog = [];
}
