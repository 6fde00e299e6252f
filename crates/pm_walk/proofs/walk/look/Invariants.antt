use Rattle.std.proofs.Common.{Some}
use Rattle.pm_space.specs.Shown.{view}
use Rattle.pm_walk.specs.Walked.{IsSoundWalk, Grows, AreFoundBy}
use Rattle.pm_walk.proofs.Steps.{AreMet}
use Rattle.pm_walk.proofs.walk.look.Given as goal

-- what the fields so far hold was met
abbrev pub invariant-loop-index : goal.invariant-loop-index
invariant-loop-index g l = record {
  sound : IsSoundWalk (view l.space.parts) l.walk;
  grows : Grows l.initial.walk l.walk;
  by : AreFoundBy l.initial.walk.found.items l.walk.found.items (Some l.place);
  met : AreMet (view l.space.parts) l.walk l.fields l.index;
}
