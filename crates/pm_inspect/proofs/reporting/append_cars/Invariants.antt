use Rattle.std.proofs.Common.{◌≡◌, ◌++◌, take}
use Rattle.std.specs.List.{flat_map}
use Rattle.pm_space.specs.Shown.{view}
use Rattle.pm_inspect.specs.Report.{car_line}
use Rattle.pm_inspect.proofs.reporting.append_cars.Given as goal

-- the lines of the cars so far
abbrev pub invariant-loop-car : goal.invariant-loop-car
invariant-loop-car g l = l.out.items ≡ l.initial.out.items ++ flat_map (car_line (view l.parts)) (take l.car-index l.cars)
