use Rattle.pm_place.specs.Choosers.{IsChooser}
use Rattle.pm_space_cases.proofs.scripted.run_text.Given as goal

-- the chooser may be called
abbrev pub invariant-loop-part : goal.invariant-loop-part
invariant-loop-part g l = IsChooser g.F.Fn l.space.parts.place
