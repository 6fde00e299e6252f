use Rattle.std.proofs.Common.{arith, None}
use Rattle.pm_view.specs.declared.phase.Phase.TheVariants.{Idle}
use Rattle.pm_view.proofs.Standing.{in_first, in_second}
use Rattle.pm_view.proofs.examples.examples_of_what_fits.Goals as goal

pub returns-clause-first : goal.returns-clause-first
returns-clause-first c = record { given = omega arith; few = omega (arith, in_first Idle None, in_second Idle None) }

pub returns-clause-more : goal.returns-clause-more
returns-clause-more c = λ fits. let few = fits.few in omega (arith, few, in_first Idle None, in_second Idle None)

pub returns-clause-both : goal.returns-clause-both
returns-clause-both c = record { given = omega arith; few = omega (arith, in_first Idle None, in_second Idle None) }
