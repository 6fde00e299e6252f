-- Where the cars of a packing begin.
use Rattle.std.specs.Prelude.{ℕ, ◌+◌, List, [], ◌∷◌, length}
use Rattle.pm_restore.specs.Packing.Packing.{DumpEntry, filled}

-- the first place of each part, where the first part begins at this place
abbrev pub firsts_from : {A : Type 0} → ℕ → List (List A) → List ℕ
firsts_from place [] = []
firsts_from place (part ∷ parts) = place ∷ firsts_from (place + length part) parts

-- the place of the first object of each car
abbrev pub firsts_of : List DumpEntry → List ℕ
firsts_of objects = firsts_from 0 (filled objects)
