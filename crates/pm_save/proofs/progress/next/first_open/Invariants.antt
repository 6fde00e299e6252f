use Rattle.std.proofs.Common.{◌-◌, length, take}
use Rattle.std.specs.List.{AllByRecursion}
use Rattle.pm_save.specs.Progress.Kept.{IsPlaced}
use Rattle.pm_save.proofs.progress.next.first_open.Given as goal

abbrev pub invariant-loop-place : goal.invariant-loop-place
invariant-loop-place l = AllByRecursion IsPlaced (take l.place l.cars)

abbrev pub decreases-loop-place : goal.decreases-loop-place
decreases-loop-place l = length l.cars - l.place
