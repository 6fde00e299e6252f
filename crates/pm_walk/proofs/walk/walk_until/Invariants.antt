use Rattle.pm_space.specs.Shown.{view}
use Rattle.pm_walk.specs.Walked.{IsSoundWalk, IsBegun, IsBroadWalk}
use Rattle.pm_walk.proofs.Steps.{AreDone}
use Rattle.pm_walk.proofs.Broad.{AreTurns, ArePassed}
use Rattle.pm_walk.proofs.walk.walk_until.Given as goal

-- what the objects so far hold was met, and none of them is the one
abbrev pub invariant-loop-place : goal.invariant-loop-place
invariant-loop-place g l = record {
  sound : IsSoundWalk (view l.space.parts) l.walk;
  begun : IsBegun (view l.space.parts) l.walk;
  done : AreDone (view l.space.parts) l.walk l.place;
  broad : IsBroadWalk (view l.space.parts) l.walk l.place;
  turns : AreTurns l.walk l.place;
  passed : ArePassed l.walk l.id l.place;
}
