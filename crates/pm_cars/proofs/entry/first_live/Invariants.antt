use Rattle.std.proofs.Common.{◌≤◌, ◌-◌, length}
use Rattle.pm_cars.specs.Entries.{first_place}
use Rattle.pm_cars.proofs.entry.first_live.Given as goal

abbrev pub invariant-loop-place : goal.invariant-loop-place
invariant-loop-place l = l.place ≤ first_place l.entries

abbrev pub decreases-loop-place : goal.decreases-loop-place
decreases-loop-place l = length l.entries - l.place
