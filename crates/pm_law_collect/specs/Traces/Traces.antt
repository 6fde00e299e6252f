-- What the examples of collections speak of.
use Rattle.std.specs.Prelude.{◌≡◌, ℕ, ◌+◌, List, [], ◌∷◌, Option, Some, None}
use Rattle.std.specs.FinMap.{insert, empty}
use Rattle.pm_types.specs.declared.address.Addr.{Addr}
use Rattle.pm_types.specs.declared.object.Object.{Object}
use Rattle.pm_types.specs.declared.object.Slot.TheVariants.{Live}
use Rattle.pm_types.specs.declared.source.RefSource.{RefSource}
use Rattle.pm_types.specs.declared.source.RefSource.TheVariants.{Root, Handle, Field}
use Rattle.pm_types.specs.declared.source.Change.{Change}
use Rattle.pm_cars.specs.Cars.{Car}
use Rattle.pm_view.specs.declared.phase.Phase.TheVariants.{Draining, Moving, Doomed}
use Rattle.pm_view.specs.View.{SpaceView}
use Rattle.pm_view.specs.Rows.{new_space}
use Rattle.pm_view.specs.Events.{Row, start, move_on, next_row, after}
use Rattle.pm_law_commands.specs.Row.Examples.{at}

-- from one space on these events come, one after the other, and the other space is there after them; no train is picked
-- and no car is new
abbrev pub Run : SpaceView → List Row → SpaceView → Type 0
Run view [] end = view ≡ end
Run view (row ∷ rows) end = (next_row view ≡ row) × Run (after view 0 0 row) rows end

-- an object with one field
abbrev pub with_one_field : ℕ → Addr → List ℕ → Object
with_one_field id to bytes = record { id = id; fields = Some to ∷ []; bytes = bytes }

-- an object without a field
abbrev pub bare_object : ℕ → List ℕ → Object
bare_object id bytes = record { id = id; fields = []; bytes = bytes }

-- the source named the slot from then on, or no slot
abbrev pub changed : RefSource → Option ℕ → Change
changed source slot = record { source = source; slot = slot }

-- ---- two objects in a cycle

-- car 1, whose two objects name each other
abbrev pub car_of_two : Car
car_of_two = record { number = 1; slots = insert (insert empty 0 (Live (with_one_field 1 (at 1 1) []))) 1 (Live (with_one_field 2 (at 1 0) [])); next = 2 }

-- Two objects were made, each was stored in the other, and the two registers that held them are empty: the car was told
-- of the registers four times.
abbrev pub cycle : SpaceView
cycle = record new_space {
  cars = insert empty 1 car_of_two;
  sets = insert empty 1 empty;
  queues = insert empty 1 (changed (Handle 0 1) (Some 0) ∷ changed (Handle 0 2) (Some 1) ∷ changed (Handle 0 1) None ∷ changed (Handle 0 2) None ∷ []);
  trains = record { trains = record { number = 1; cars = 1 ∷ [] } ∷ []; births = 2 };
  next = 3;
}

-- nothing stands any more, one collection was completed, and train 2 is open
abbrev pub collected : SpaceView
collected = record new_space { trains = record { trains = record { number = 2; cars = [] } ∷ []; births = 0 }; next = 3; completed = 1 }

-- ---- a number that is used again

-- Train 1 is doomed and has lost car 1. Its other car has an object that names a place of car 1. Meanwhile the number 1
-- was used again for a car of the open train, whose object a register holds.
abbrev pub used_again : SpaceView
used_again = record new_space {
  cars = insert (insert empty 2 (record { number = 2; slots = insert empty 0 (Live (with_one_field 3 (at 1 0) [])); next = 1 })) 1 (record { number = 1; slots = insert empty 0 (Live (bare_object 5 [])); next = 1 });
  sets = insert (insert empty 2 empty) 1 (insert empty (Handle 0 0) 0);
  queues = insert (insert empty 2 []) 1 [];
  trains = record { trains = record { number = 1; cars = 2 ∷ [] } ∷ record { number = 2; cars = 1 ∷ [] } ∷ []; births = 1 };
  registers = insert empty (0, 0) (at 1 0);
  phase = Doomed 1;
  next = 6;
}

-- ---- passes that would free nothing

-- Six objects of 4,096 bytes, three to a car. The first of car 1 and the first of car 2 name each other, and a name is
-- bound to that of car 2. Train 1 is drained.
abbrev pub three : ℕ → Addr → List ℕ → Car
three first to bytes = record {
  number = first;
  slots = insert (insert (insert empty 0 (Live (with_one_field first to bytes))) 1 (Live (bare_object (first + 1) bytes))) 2 (Live (bare_object (first + 2) bytes));
  next = 3;
}

abbrev pub drained : List ℕ → SpaceView
drained bytes = record new_space {
  cars = insert (insert empty 1 (three 1 (at 2 0) bytes)) 2 (record (three 4 (at 1 0) bytes) { number = 2 });
  sets = insert (insert empty 1 (insert empty (Field (at 2 0) 0) 0)) 2 (insert (insert empty (Field (at 1 0) 0) 0) (Root 0) 0);
  queues = insert (insert empty 1 []) 2 [];
  trains = record { trains = record { number = 1; cars = 1 ∷ 2 ∷ [] } ∷ record { number = 2; cars = [] } ∷ []; births = 0 };
  roots = insert empty (97 ∷ []) (0, at 2 0);
  phase = Draining 1;
  next = 7;
}

-- its first car begins to be emptied, and the open train 2 is picked for the anchor
abbrev pub begun : List ℕ → SpaceView
begun bytes = after (drained bytes) 2 0 (start 1 (at 2 0))

-- its first object moves to the end of its own train; the least number that no car has is 3
abbrev pub moved_on : List ℕ → SpaceView
moved_on bytes = after (begun bytes) 0 3 (move_on (at 1 0) 1)

-- The same after the first pass: object 1 is in car 3, at the end of its own train. The name stands for it now, and car
-- 2 is emptied, whose first object is the anchor.
abbrev pub second_pass : List ℕ → Option (Addr × ℕ) → SpaceView
second_pass bytes anchor = record new_space {
  cars = insert (insert empty 2 (record (three 4 (at 3 0) bytes) { number = 2 })) 3 (record { number = 3; slots = insert empty 0 (Live (with_one_field 1 (at 2 0) bytes)); next = 1 });
  sets = insert (insert empty 2 (insert empty (Field (at 3 0) 0) 0)) 3 (insert (insert empty (Field (at 2 0) 0) 0) (Root 0) 0);
  queues = insert (insert empty 2 []) 3 [];
  trains = record { trains = record { number = 1; cars = 2 ∷ 3 ∷ [] } ∷ record { number = 2; cars = [] } ∷ []; births = 0 };
  roots = insert empty (97 ∷ []) (0, at 3 0);
  anchor = anchor;
  phase = Moving 2;
  next = 7;
  completed = 1;
}
