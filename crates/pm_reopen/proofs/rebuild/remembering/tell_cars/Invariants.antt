use Rattle.std.proofs.Common.{◌≤◌, length, drop, map}
use Rattle.std.specs.List.{flat_map}
use Rattle.pm_law_copies.specs.Storing.{car_sources}
use Rattle.pm_reopen.specs.Rebuild.Lists.{placed_of, rows}
use Rattle.pm_reopen.specs.Rebuild.Remembering.{Adds}
use Rattle.pm_reopen.proofs.rebuild.remembering.tell_cars.Given as goal

abbrev pub invariant-loop-left : goal.invariant-loop-left
invariant-loop-left l = record {
  so_far : Adds l.initial.sets l.sets (flat_map car_sources (rows (map placed_of (drop l.left l.cars))));
  inside : l.left ≤ length l.cars;
}

abbrev pub decreases-loop-left : goal.decreases-loop-left
decreases-loop-left l = l.left
