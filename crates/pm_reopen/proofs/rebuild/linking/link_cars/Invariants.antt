use Rattle.std.proofs.Common.{◌≤◌, length}
use Rattle.pm_reopen.specs.Rebuild.Linking.{AreLinked}
use Rattle.pm_reopen.proofs.RebuildLemmas.LinkLaws.{cars_from, AreLeft}
use Rattle.pm_reopen.proofs.rebuild.linking.link_cars.Given as goal

abbrev pub invariant-loop-left : goal.invariant-loop-left
invariant-loop-left l = record {
  linked : AreLinked (cars_from l.cars l.left) l.fn.sets l.links;
  others : AreLeft (cars_from l.cars l.left) l.fn.sets l.sets;
  inside : l.left ≤ length l.cars;
}

abbrev pub decreases-loop-left : goal.decreases-loop-left
decreases-loop-left l = l.left
