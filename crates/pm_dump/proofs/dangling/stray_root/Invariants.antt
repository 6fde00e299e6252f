use Rattle.std.proofs.Common.{◌-◌, length}
use Rattle.pm_dump.proofs.Strays.{OverRoots}
use Rattle.pm_dump.proofs.dangling.stray_root.Given as goal

abbrev pub invariant-loop-index : goal.invariant-loop-index
invariant-loop-index l = OverRoots l.fn.parts.places.items l.fn.parts.roots.items l.index

abbrev pub decreases-loop-index : goal.decreases-loop-index
decreases-loop-index l = length l.roots - l.index
