use Rattle.std.proofs.Common.{length}
use Rattle.pm_reopen.proofs.RebuildLemmas.LinkLaws.{PutCars}
use Rattle.pm_reopen.proofs.rebuild.linking.put_cars.Given as goal

abbrev pub invariant-loop-car : goal.invariant-loop-car
invariant-loop-car l = PutCars l.fn.cars l.left.items l.table

abbrev pub decreases-loop-car : goal.decreases-loop-car
decreases-loop-car l = length l.left.items
