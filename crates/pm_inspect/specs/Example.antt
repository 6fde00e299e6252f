-- The space that is opened from a store in which one object was made, named and saved.
use Rattle.std.specs.Prelude.{[], ◌∷◌, codes, None}
use Rattle.std.specs.FinMap.{insert, empty}
use Rattle.pm_types.specs.declared.object.Object.{Object}
use Rattle.pm_types.specs.declared.object.Slot.TheVariants.{Live}
use Rattle.pm_types.specs.declared.source.RefSource.TheVariants.{Root}
use Rattle.pm_cars.specs.Cars.{Car}
use Rattle.pm_view.specs.View.{SpaceView}
use Rattle.pm_view.specs.Rows.{new_space}
use Rattle.pm_law_commands.specs.Row.Examples.{at}

-- object 1 has two null fields and the bytes cafe
abbrev pub first_object : Object
first_object = record { id = 1; fields = None ∷ None ∷ []; bytes = 202 ∷ 254 ∷ [] }

-- car 1 has it in slot 0
abbrev pub first_car : Car
first_car = record { number = 1; slots = insert empty 0 (Live first_object); next = 1 }

-- the name a is bound to it, which car 1 remembers; car 1 is in train 1, and train 2 is open
abbrev pub one_object : SpaceView
one_object = record new_space {
  cars = insert empty 1 first_car;
  sets = insert empty 1 (insert empty (Root 0) 0);
  queues = insert empty 1 [];
  trains = record { trains = record { number = 1; cars = 1 ∷ [] } ∷ record { number = 2; cars = [] } ∷ []; births = 0 };
  roots = insert empty (codes "a") (0, at 1 0);
  next = 2;
}
