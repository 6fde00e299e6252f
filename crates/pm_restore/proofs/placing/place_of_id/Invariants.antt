use Rattle.std.proofs.Common.{◌≤◌, ◌-◌, length}
use Rattle.pm_restore.specs.Packing.Packing.{place_in}
use Rattle.pm_restore.proofs.placing.place_of_id.Given as goal

abbrev pub invariant-halves : goal.invariant-halves
invariant-halves l = record {
  low : l.low ≤ place_in l.dump.objects l.id;
  high : place_in l.dump.objects l.id ≤ l.high;
  within : l.high ≤ length l.dump.objects;
}

abbrev pub decreases-halves : goal.decreases-halves
decreases-halves l = l.high - l.low
