use Rattle.std.proofs.Common.{◌≡◌, ◌-◌, length, None, take}
use Rattle.pm_next.specs.Sought.{first_changed}
use Rattle.pm_next.proofs.finding.changed_from.Given as goal

-- none of the cars so far has one
abbrev pub invariant-loop-at : goal.invariant-loop-at
invariant-loop-at l = first_changed l.links (take l.at l.cars) ≡ None

abbrev pub decreases-loop-at : goal.decreases-loop-at
decreases-loop-at l = length l.cars - l.at
