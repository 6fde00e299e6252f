use Rattle.std.proofs.Common.{◌≡◌, take}
use Rattle.std.specs.List.{sum_by}
use Rattle.pm_view.specs.Counts.{standing_of}
use Rattle.pm_types.specs.Counts.{capped}
use Rattle.pm_space.specs.Shown.{view}
use Rattle.pm_space.proofs.counting.standing.Given as goal

-- the objects of the trains so far
abbrev pub invariant-loop-place : goal.invariant-loop-place
invariant-loop-place g l = l.sum ≡ capped (sum_by (standing_of (view l.parts)) (take l.place l.parts.trains.trains))
