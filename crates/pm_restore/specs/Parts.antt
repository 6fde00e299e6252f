-- The objects of each car of a packing.
use Rattle.std.specs.Prelude.{◌≡◌, ℕ, ◌+◌, ◌-◌, ◌≤◌, ◌==◌, List, [], ◌∷◌, length, slice_range, Option, IfSome, if◌then◌else◌}
use Rattle.std.specs.List.{AllByRecursion}
use Rattle.pm_view.specs.View.{Cars}
use Rattle.pm_saving.specs.Progress.{cars_of}
use Rattle.pm_dump.specs.Dump.{Dump}
use Rattle.pm_dump.specs.Sound.{IsListed}
use Rattle.pm_restore.specs.Packing.Packing.{DumpEntry, filled, packed_cars}

-- the part of this number, where the first one has that number; without an object where there is none
abbrev pub part_from : {A : Type 0} → ℕ → List (List A) → ℕ → List A
part_from car [] number = []
part_from car (part ∷ parts) number = if car == number then part else part_from (car + 1) parts number

-- the objects of the car of this number
abbrev pub part_of : List DumpEntry → ℕ → List DumpEntry
part_of objects number = part_from 1 (filled objects) number

-- the objects of the car of this number stand from here to there
pub record IsPartRange (objects : List DumpEntry) (number from end : ℕ) : Type 0 where
  pub up : from ≤ end
  pub within : end ≤ length objects
  pub few : end - from ≤ 1000
  pub part : slice_range objects from end ≡ part_of objects number

-- each identity that these fields hold is that of a listed object
abbrev pub AreListed : List DumpEntry → List (Option ℕ) → Type 0
AreListed objects fields = AllByRecursion (λ (field : Option ℕ). IfSome field (IsListed objects)) fields

-- the cars of a dump by their numbers
abbrev pub cars_of_dump : Dump → Cars
cars_of_dump dump = cars_of (packed_cars dump)
