use Rattle.std.proofs.Common.{◌≡◌, take}
use Rattle.pm_view.specs.Counts.{old_in}
use Rattle.pm_types.specs.Counts.{capped}
use Rattle.pm_space.specs.Shown.{view}
use Rattle.pm_space.proofs.counting.old.Given as goal

-- the objects of the trains so far
abbrev pub invariant-loop-place : goal.invariant-loop-place
invariant-loop-place g l = l.sum ≡ capped (old_in (view l.parts) l.youngest (take l.place l.parts.trains.trains))
