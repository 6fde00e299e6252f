use Rattle.pm_space.specs.Shown.{view}
use Rattle.pm_space_cases.specs.Lacking.{LacksBelow}
use Rattle.pm_space_cases.proofs.searched.in_slots.Given as goal

-- no slot so far has the identity
abbrev pub invariant-loop-slot : goal.invariant-loop-slot
invariant-loop-slot g l = LacksBelow (view l.parts) l.id l.car l.slot
