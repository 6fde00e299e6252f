-- What the examples speak of.
use Rattle.std.specs.Prelude.{ℕ, ◌==◌, [], ◌∷◌, Option, Some, None}
use Rattle.std.specs.FinMap.{insert, empty}
use Rattle.pm_types.specs.declared.address.Addr.{Addr}
use Rattle.pm_types.specs.declared.object.Object.{Object}
use Rattle.pm_types.specs.declared.object.Slot.TheVariants.{Live}
use Rattle.pm_cars.specs.Cars.{Slots}
use Rattle.pm_view.specs.declared.phase.Phase.{Phase}
use Rattle.pm_view.specs.declared.phase.Phase.TheVariants.{Idle}
use Rattle.pm_view.specs.View.{SpaceView}
use Rattle.pm_view.specs.Rows.{new_space}
use Rattle.pm_view.specs.Sinking.{Passes}

-- an object without a field or a byte
abbrev pub bare : ℕ → Object
bare id = record { id = id; fields = []; bytes = [] }

-- the slots of car 1, which has three objects, and of car 2, which has two
abbrev pub three_slots : Slots
three_slots = insert (insert (insert empty 0 (Live (bare 1))) 1 (Live (bare 2))) 2 (Live (bare 3))

abbrev pub two_slots : Slots
two_slots = insert (insert empty 0 (Live (bare 4))) 1 (Live (bare 5))

-- both cars are in train 1, and train 2 is open
abbrev pub two_cars : Phase → Option (Addr × ℕ) → SpaceView
two_cars phase anchor = record new_space {
  cars = insert (insert empty 1 (record { number = 1; slots = three_slots; next = 3 })) 2 (record { number = 2; slots = two_slots; next = 2 });
  sets = insert (insert empty 1 empty) 2 empty;
  queues = insert (insert empty 1 []) 2 [];
  trains = record { trains = record { number = 1; cars = 1 ∷ 2 ∷ [] } ∷ record { number = 2; cars = [] } ∷ []; births = 0 };
  phase = phase;
  anchor = anchor;
  next = 6;
}

-- the first object of car 2, which goes to train 2
abbrev pub noted : Option (Addr × ℕ)
noted = Some (record { car = 2; slot = 0 }, 2)

-- a register holds the first object of car 1, or a name does
abbrev pub held_by_register : SpaceView
held_by_register = record (two_cars Idle None) { registers = insert empty (0, 1) (record { car = 1; slot = 0 }) }

abbrev pub held_by_name : SpaceView
held_by_name = record (two_cars Idle None) { roots = insert empty (97 ∷ []) (0, record { car = 1; slot = 0 }) }

-- the set of one identity
abbrev pub Only : ℕ → ℕ → Type 0
Only id = Passes (λ q. q == id)
