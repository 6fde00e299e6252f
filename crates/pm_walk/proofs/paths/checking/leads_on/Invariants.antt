use Rattle.std.proofs.Common.{◌↔◌, drop}
use Rattle.pm_space.specs.Shown.{view}
use Rattle.pm_walk.specs.Paths.Paths.{LeadsOn}
use Rattle.pm_walk.proofs.paths.checking.leads_on.Given as goal

-- what is asked of all steps is asked of those that are left
abbrev pub invariant-loop-step : goal.invariant-loop-step
invariant-loop-step g l = LeadsOn (view l.parts) l.at l.here (drop l.step-index l.steps) l.id ↔ LeadsOn (view l.parts) l.fn.start l.fn.first l.steps l.id
