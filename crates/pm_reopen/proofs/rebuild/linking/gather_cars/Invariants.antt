use Rattle.std.proofs.Common.{◌≤◌, [], length}
use Rattle.pm_reopen.specs.Rebuild.Remembering.{Remember}
use Rattle.pm_reopen.proofs.RebuildLemmas.LinkLaws.{cars_from}
use Rattle.pm_reopen.proofs.rebuild.linking.gather_cars.Given as goal

abbrev pub invariant-loop-left : goal.invariant-loop-left
invariant-loop-left l = record {
  gathered : Remember (cars_from l.cars l.left) l.sets [];
  inside : l.left ≤ length l.cars;
}

abbrev pub decreases-loop-left : goal.decreases-loop-left
decreases-loop-left l = l.left
