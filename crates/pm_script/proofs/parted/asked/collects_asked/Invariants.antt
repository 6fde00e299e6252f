use Rattle.std.proofs.Common.{◌≡◌, ◌*◌, ◌≤◌, take}
use Rattle.pm_script.specs.Parted.Asked.{steps_asked}
use Rattle.pm_script.proofs.parted.asked.collects_asked.Given as goal

-- the events of the lines so far were counted
abbrev pub invariant-loop-line : goal.invariant-loop-line
invariant-loop-line l = record {
  counted : l.asked ≡ steps_asked (take l.line-index l.lines);
  few : l.asked ≤ 4294967295 * l.line-index;
}
