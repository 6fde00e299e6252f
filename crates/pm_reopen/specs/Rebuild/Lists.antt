-- Lists of cars and of roots.
use Rattle.std.specs.Prelude.{◌≡◌, ℕ, List, [], ◌∷◌, map}
use Rattle.std.specs.List.{AllByRecursion}
use Rattle.pm_types.specs.declared.address.Addr.{Addr}
use Rattle.pm_cars.specs.Cars.{Car, CarAndSpare}
use Rattle.pm_copies.specs.Built.{Placed}

-- a car in its train, without its room for births
abbrev pub placed_of : ℕ × CarAndSpare → Placed
placed_of one = (one.0, one.1.car)

-- no two roots have one name
abbrev pub NamesDiffer : List (List ℕ × Addr) → Type 0
NamesDiffer [] = Unit {0}
NamesDiffer (root ∷ others) = AllByRecursion (λ (other : List ℕ × Addr). other.0 ≡ root.0 → ⊥) others × NamesDiffer others

-- a car under its number
abbrev pub row_of : Placed → ℕ × Car
row_of one = (one.1.number, one.1)

-- cars under their numbers
abbrev pub rows : List Placed → List (ℕ × Car)
rows placed = map row_of placed
