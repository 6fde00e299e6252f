use Rattle.std.proofs.Common.{refl}
use Rattle.pm_law_collect.proofs.TracesLemmas.Cycle.{cycle_goes}
use Rattle.pm_law_collect.proofs.traces.traces.a_cycle_goes.Goals as goal

pub returns-clause-events : goal.returns-clause-events
returns-clause-events c = cycle_goes

pub returns-clause-end : goal.returns-clause-end
returns-clause-end c = refl
