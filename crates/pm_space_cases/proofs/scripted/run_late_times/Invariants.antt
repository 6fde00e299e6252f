use Rattle.pm_place.specs.Choosers.{IsChooser}
use Rattle.pm_space_cases.proofs.scripted.run_late_times.Given as goal

-- the chooser may be called
abbrev pub invariant-loop : goal.invariant-loop
invariant-loop g l = IsChooser g.F.Fn l.space.parts.place
