use Rattle.std.proofs.Common.{[], None}
use Rattle.pm_space.specs.Shown.{view}
use Rattle.pm_walk.specs.Walked.{IsSoundWalk, AreFoundBy}
use Rattle.pm_walk.proofs.Steps.{AreNamesMet}
use Rattle.pm_walk.proofs.walk.begin.Given as goal

-- what the names so far stand for was met
abbrev pub invariant-loop-place : goal.invariant-loop-place
invariant-loop-place g l = record {
  sound : IsSoundWalk (view l.space.parts) l.walk;
  by : AreFoundBy [] l.walk.found.items None;
  met : AreNamesMet (view l.space.parts) l.walk l.place;
}
