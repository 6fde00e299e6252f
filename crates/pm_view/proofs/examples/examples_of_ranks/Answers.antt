use Rattle.std.proofs.Common.{arith, None}
use Rattle.pm_view.specs.declared.phase.Phase.TheVariants.{Idle, Moving, Sweeping}
use Rattle.pm_view.specs.Examples.{noted}
use Rattle.pm_view.proofs.Standing.{in_first, in_second}
use Rattle.pm_view.proofs.examples.examples_of_ranks.Goals as goal

pub returns-clause-idle : goal.returns-clause-idle
returns-clause-idle c = omega (arith, in_first Idle None, in_second Idle None)

pub returns-clause-moving : goal.returns-clause-moving
returns-clause-moving c = omega (arith, in_first (Moving 1) None, in_second (Moving 1) None)

pub returns-clause-anchored : goal.returns-clause-anchored
returns-clause-anchored c = omega (arith, in_first (Moving 1) noted, in_second (Moving 1) noted)

pub returns-clause-sweeping : goal.returns-clause-sweeping
returns-clause-sweeping c = omega (arith, in_second (Sweeping 1) None)

pub returns-clause-both : goal.returns-clause-both
returns-clause-both c = omega (arith, in_first Idle None, in_second Idle None)
