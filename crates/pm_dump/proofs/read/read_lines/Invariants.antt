use Rattle.std.proofs.Common.{◌≤◌, ◌+◌, length}
use Rattle.pm_dump.specs.Read.{before_in, AreKept}
use Rattle.pm_dump.proofs.Lines.{ReadSoFar}
use Rattle.pm_dump.proofs.read.read_lines.Given as goal

abbrev pub invariant-loop-line : goal.invariant-loop-line
invariant-loop-line l = record {
  kept : AreKept l.parts;
  so : ReadSoFar l.bytes l.left (before_in l.parts) l.number;
  short : l.number + length l.left ≤ length l.bytes + 1;
}

abbrev pub decreases-loop-line : goal.decreases-loop-line
decreases-loop-line l = length l.left
