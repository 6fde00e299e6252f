use Rattle.std.proofs.Common.{List, ◌++◌, take}
use Rattle.std.specs.List.{flat_map}
use Rattle.pm_copies.specs.Listed.{Listed, listed_car}
use Rattle.pm_space.specs.Shown.{view}
use Rattle.pm_save.specs.Writer.Planned.{IsPlanned}
use Rattle.pm_save.proofs.listed_cars.plan_train.Given as goal

-- the cars of the train so far
abbrev pub invariant-loop-number : goal.invariant-loop-number
invariant-loop-number g l =
    (list : List Listed) → IsPlanned l.settled list l.initial.cars.items
    → IsPlanned l.settled (list ++ flat_map (listed_car (view l.parts) l.train) (take l.number-index l.numbers)) l.cars.items
