use Rattle.pm_place.specs.Choosers.{IsChooser}
use Rattle.pm_space_cases.proofs.spaced.run_times.Given as goal

-- the chooser may be called
abbrev pub invariant-loop-time : goal.invariant-loop-time
invariant-loop-time g l = IsChooser g.F.Fn l.space.parts.place
