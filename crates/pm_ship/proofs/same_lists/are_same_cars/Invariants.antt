use Rattle.std.proofs.Common.{◌≡◌, take}
use Rattle.pm_image.specs.Graphs.{images_of}
use Rattle.pm_ship.proofs.same_lists.are_same_cars.Given as goal

-- the cars so far are the same
abbrev pub invariant-loop-place : goal.invariant-loop-place
invariant-loop-place l = images_of (take l.place l.cars) ≡ images_of (take l.place l.settled)
