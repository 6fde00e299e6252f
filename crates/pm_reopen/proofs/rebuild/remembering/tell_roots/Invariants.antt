use Rattle.std.proofs.Common.{◌≤◌, length, drop, map}
use Rattle.std.specs.FinMap.{entries}
use Rattle.pm_law_copies.specs.Storing.{root_source}
use Rattle.pm_reopen.specs.Rebuild.Remembering.{Adds}
use Rattle.pm_reopen.proofs.rebuild.remembering.tell_roots.Given as goal

abbrev pub invariant-loop-left : goal.invariant-loop-left
invariant-loop-left l = record {
  so_far : Adds l.initial.sets l.sets (map root_source (drop l.left (entries l.roots)));
  inside : l.left ≤ length (entries l.roots);
}

abbrev pub decreases-loop-left : goal.decreases-loop-left
decreases-loop-left l = l.left
