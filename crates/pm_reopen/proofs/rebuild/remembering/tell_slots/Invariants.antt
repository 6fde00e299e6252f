use Rattle.std.proofs.Common.{◌≤◌, length, drop}
use Rattle.std.specs.List.{flat_map}
use Rattle.pm_law_copies.specs.Storing.{slot_sources}
use Rattle.pm_reopen.specs.Rebuild.Remembering.{Adds}
use Rattle.pm_reopen.proofs.rebuild.remembering.tell_slots.Given as goal

abbrev pub invariant-loop-left : goal.invariant-loop-left
invariant-loop-left l = record {
  so_far : Adds l.initial.sets l.sets (flat_map (slot_sources l.car) (drop l.left l.slots));
  inside : l.left ≤ length l.slots;
}

abbrev pub decreases-loop-left : goal.decreases-loop-left
decreases-loop-left l = l.left
