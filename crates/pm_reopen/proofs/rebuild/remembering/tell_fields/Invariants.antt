use Rattle.std.proofs.Common.{◌≤◌, length, drop}
use Rattle.pm_law_copies.specs.Storing.{field_sources}
use Rattle.pm_reopen.specs.Rebuild.Remembering.{Adds}
use Rattle.pm_reopen.proofs.rebuild.remembering.tell_fields.Given as goal

abbrev pub invariant-loop-left : goal.invariant-loop-left
invariant-loop-left l = record {
  so_far : Adds l.initial.sets l.sets (field_sources l.at l.left (drop l.left l.fields));
  inside : l.left ≤ length l.fields;
}

abbrev pub decreases-loop-left : goal.decreases-loop-left
decreases-loop-left l = l.left
