use Rattle.pm_place.specs.Choosers.{IsChooser}
use Rattle.pm_space_cases.proofs.spaced.give_first.Given as goal

-- the chooser may be called
abbrev pub invariant-loop-number : goal.invariant-loop-number
invariant-loop-number g l = IsChooser g.F.Fn l.space.parts.place
