use Rattle.std.proofs.Common.{◌≡◌, ◌≤◌, length, take}
use Rattle.pm_script.specs.Parted.Asked.{requests_asked}
use Rattle.pm_young_run.specs.Asked.{as_lines}
use Rattle.pm_young_run.proofs.run.count_entries.Given as goal

-- the entries of the lines so far were counted
abbrev pub invariant-loop-line : goal.invariant-loop-line
invariant-loop-line l = record {
  counted : l.count ≡ length (requests_asked (as_lines (take l.line-index l.lines)));
  few : l.count ≤ l.line-index;
}
