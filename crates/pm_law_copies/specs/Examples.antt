-- What the examples speak of.
use Rattle.std.specs.Prelude.{ℕ, List, [], ◌∷◌, Option, Some, None}
use Rattle.pm_types.specs.declared.address.Addr.{Addr}
use Rattle.pm_types.specs.declared.object.Slot.{Slot}
use Rattle.pm_types.specs.declared.object.Slot.TheVariants.{Live, Moved}
use Rattle.pm_copies.specs.Listed.{Listed}

-- the address of this slot of this car
abbrev pub at : ℕ → ℕ → Addr
at car slot = record { car = car; slot = slot }

-- an object without bytes
abbrev pub object : ℕ → List (Option Addr) → Slot
object id fields = Live (record { id = id; fields = fields; bytes = [] })

-- car 5 has object 1, whose first field names slot 2, and that slot was Moved to car 9
abbrev pub five : List (ℕ × Slot)
five = (0, object 1 (Some (at 5 2) ∷ None ∷ [])) ∷ (2, Moved (at 9 1)) ∷ []

-- car 7 has a Moved slot alone
abbrev pub seven : List (ℕ × Slot)
seven = (4, Moved (at 5 0)) ∷ []

-- car 9 has objects 2 and 4, which name each other
abbrev pub nine : List (ℕ × Slot)
nine = (1, object 2 (Some (at 9 3) ∷ [])) ∷ (3, object 4 (Some (at 9 1) ∷ [])) ∷ []

-- the three cars in trains 3, 4 and 8
abbrev pub three : List Listed
three = (3, record { number = 5; slots = five }) ∷ (4, record { number = 7; slots = seven }) ∷ (8, record { number = 9; slots = nine }) ∷ []
