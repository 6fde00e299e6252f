use Rattle.std.proofs.Common.{◌≡◌, ◌+◌, ◌≤◌, length}
use Rattle.pm_types.proofs.Fronts.{with_front}
use Rattle.pm_types.specs.declared.limits.TheConstants.{SCRIPT_LINES}
use Rattle.pm_script.specs.Lines.{parts_in}
use Rattle.pm_script.specs.Reading.{body_at, lines_at}
use Rattle.pm_script.proofs.ReadLines.{parts}
use Rattle.pm_script.proofs.lines.read_lines.Given as goal

abbrev pub invariant-loop-body : goal.invariant-loop-body
invariant-loop-body g l = record {
  count : l.number + length (parts_in 10 l.rest) ≤ SCRIPT_LINES;
  read : with_front l.lines.items (lines_at (body_at g.L.Said.dialect g.L.Said.asked) (l.number + 1) (parts_in 10 l.rest)) ≡ lines_at (body_at g.L.Said.dialect g.L.Said.asked) 1 (parts l.bytes);
}

abbrev pub decreases-loop-body : goal.decreases-loop-body
decreases-loop-body g l = length (parts_in 10 l.rest)
