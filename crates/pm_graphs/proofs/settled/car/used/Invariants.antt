use Rattle.std.proofs.Common.{◌≡◌, take}
use Rattle.pm_image.specs.CarPages.{car_used}
use Rattle.pm_graphs.proofs.settled.car.used.Given as goal

-- the slots so far
abbrev pub invariant-loop-entry : goal.invariant-loop-entry
invariant-loop-entry l = l.used ≡ car_used (take l.entry-index l.slots)
