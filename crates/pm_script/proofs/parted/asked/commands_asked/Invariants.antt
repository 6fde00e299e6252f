use Rattle.std.proofs.Common.{◌≡◌, ◌≤◌, length, take}
use Rattle.pm_script.specs.Parted.Asked.{requests_asked}
use Rattle.pm_script.proofs.parted.asked.commands_asked.Given as goal

-- the commands of the lines so far were counted
abbrev pub invariant-loop-line : goal.invariant-loop-line
invariant-loop-line l = record {
  counted : l.asked ≡ length (requests_asked (take l.line-index l.lines));
  few : l.asked ≤ l.line-index;
}
