use Rattle.std.proofs.Common.{◌≡◌, ◌≤◌, length, drop}
use Rattle.pm_graphs.specs.Linking.{lead_slots}
use Rattle.pm_graphs.proofs.leads.lead_slots.Given as goal

abbrev pub invariant-loop-left : goal.invariant-loop-left
invariant-loop-left l = record {
  so_far : l.leads ≡ lead_slots (drop l.left l.slots);
  inside : l.left ≤ length l.slots;
}

abbrev pub decreases-loop-left : goal.decreases-loop-left
decreases-loop-left l = l.left
