use Rattle.std.proofs.Common.{◌≡◌, ◌≤◌, length, drop}
use Rattle.pm_graphs.specs.Linking.{lead_cars}
use Rattle.pm_graphs.proofs.leads.lead_cars.Given as goal

abbrev pub invariant-loop-left : goal.invariant-loop-left
invariant-loop-left l = record {
  so_far : l.leads ≡ lead_cars (drop l.left l.cars);
  inside : l.left ≤ length l.cars;
}

abbrev pub decreases-loop-left : goal.decreases-loop-left
decreases-loop-left l = l.left
