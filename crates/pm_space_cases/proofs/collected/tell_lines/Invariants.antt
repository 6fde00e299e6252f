use Rattle.pm_place.specs.Choosers.{IsChooser}
use Rattle.pm_space_cases.proofs.collected.tell_lines.Given as goal

-- the chooser may be called
abbrev pub invariant-loop-line : goal.invariant-loop-line
invariant-loop-line g l = IsChooser g.F.Fn l.space.parts.place
