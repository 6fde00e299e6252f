-- Spaces in which a wrong event would break what must hold.
use Rattle.std.specs.Prelude.{ℕ, List, [], ◌∷◌, Option, Some, None}
use Rattle.std.specs.FinMap.{insert, empty}
use Rattle.pm_types.specs.declared.address.Addr.{Addr}
use Rattle.pm_types.specs.declared.object.Slot.TheVariants.{Live, Moved}
use Rattle.pm_types.specs.declared.source.RefSource.TheVariants.{Handle, Field}
use Rattle.pm_types.specs.declared.source.Change.{Change}
use Rattle.pm_cars.specs.Cars.{Car}
use Rattle.pm_trains.specs.Trains.{Trains}
use Rattle.pm_view.specs.declared.phase.Phase.TheVariants.{Moving}
use Rattle.pm_view.specs.View.{Sources, SpaceView}
use Rattle.pm_view.specs.Rows.{new_space}
use Rattle.pm_view.specs.Collecting.{without_slot_at}
use Rattle.pm_law_commands.specs.Row.Examples.{at}
use Rattle.pm_law_collect.specs.Traces.Traces.{bare_object, changed, used_again}

-- car 1 is the only car of train 1, and train 2 is open
abbrev pub one_of_two : Trains
one_of_two = record { trains = record { number = 1; cars = 1 ∷ [] } ∷ record { number = 2; cars = [] } ∷ []; births = 0 }

-- car 1, in which one object stands
abbrev pub single : Car
single = record { number = 1; slots = insert empty 0 (Live (bare_object 1 [])); next = 1 }

-- Car 1 is emptied, and a register holds its object. The car remembers these sources, these changes are queued for it,
-- and this anchor stands.
abbrev pub emptied : Sources → List Change → Option (Addr × ℕ) → SpaceView
emptied set queue anchor = record new_space {
  cars = insert empty 1 single;
  sets = insert empty 1 set;
  queues = insert empty 1 queue;
  trains = one_of_two;
  registers = insert empty (0, 0) (at 1 0);
  anchor = anchor;
  phase = Moving 1;
  next = 2;
}

-- the car was not told yet that the register holds its object
abbrev pub unheard : SpaceView
unheard = emptied empty (changed (Handle 0 0) (Some 0) ∷ []) None

-- the object is the anchor, and goes to train 2
abbrev pub anchored : SpaceView
anchored = emptied (insert empty (Handle 0 0) 0) [] (Some (at 1 0, 2))

-- The object of car 1 went to car 2, where another one stands too. Car 1 remembers that a register named the first;
-- meanwhile a client let the register hold the other, of which the cars were not told yet.
abbrev pub newer : SpaceView
newer = record new_space {
  cars = insert (insert empty 1 (record { number = 1; slots = insert empty 0 (Moved (at 2 0)); next = 1 })) 2 (record { number = 2; slots = insert (insert empty 0 (Live (bare_object 1 []))) 1 (Live (bare_object 2 [])); next = 2 });
  sets = insert (insert empty 1 (insert empty (Handle 0 0) 0)) 2 empty;
  queues = insert (insert empty 1 (changed (Handle 0 0) None ∷ [])) 2 (changed (Handle 0 0) (Some 1) ∷ []);
  trains = record { trains = record { number = 1; cars = 1 ∷ [] } ∷ record { number = 2; cars = 2 ∷ [] } ∷ []; births = 1 };
  registers = insert empty (0, 0) (at 2 1);
  phase = Moving 1;
  next = 3;
}

-- The space in which a number is used again, after the object of the doomed car was swept, where the new car was told
-- that its field names a slot, and not that it names none.
abbrev pub misled : SpaceView
misled = record used_again { cars = without_slot_at used_again.cars (at 2 0); queues = insert used_again.queues 1 (changed (Field (at 2 0) 0) (Some 0) ∷ []) }
