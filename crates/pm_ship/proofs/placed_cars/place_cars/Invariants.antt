use Rattle.std.proofs.Common.{take}
use Rattle.pm_image.specs.Graphs.{images_of}
use Rattle.pm_save.specs.Writer.Planned.{IsPlanned}
use Rattle.pm_ship.specs.Listing.{with_trains}
use Rattle.pm_ship.proofs.placed_cars.place_cars.Given as goal

-- the cars so far
abbrev pub invariant-loop-index : goal.invariant-loop-index
invariant-loop-index l = IsPlanned l.settled (with_trains (take l.index l.trains) (images_of (take l.index l.cars))) l.placed.items
