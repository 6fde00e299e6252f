use Rattle.std.proofs.Common.{take}
use Rattle.std.specs.List.{flat_map}
use Rattle.pm_copies.specs.Listed.{listed_of}
use Rattle.pm_space.specs.Shown.{view}
use Rattle.pm_save.specs.Writer.Planned.{IsPlanned}
use Rattle.pm_save.proofs.listed_cars.plan_cars.Given as goal

-- the cars of the trains so far
abbrev pub invariant-loop-place : goal.invariant-loop-place
invariant-loop-place g l = IsPlanned l.settled (flat_map (listed_of (view l.parts)) (take l.place l.parts.trains.trains)) l.cars.items
