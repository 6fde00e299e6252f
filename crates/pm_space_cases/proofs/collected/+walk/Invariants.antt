use Rattle.pm_place.specs.Choosers.{IsChooser}
use Rattle.pm_space_cases.proofs.collected.+walk.Given as goal

abbrev pub decreases-walk : goal.decreases-walk
decreases-walk g l = l.left

-- the chooser may be called
abbrev pub invariant-loop-index : goal.invariant-loop-index
invariant-loop-index g l = IsChooser g.F.Fn l.space.parts.place
