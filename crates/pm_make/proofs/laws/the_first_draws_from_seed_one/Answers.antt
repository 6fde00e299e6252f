use Rattle.std.proofs.Common.{refl}
use Rattle.pm_make.specs.Drawing.{stepped}
use Rattle.pm_make.proofs.laws.the_first_draws_from_seed_one.Goals as goal

pub returns-clause-first : goal.returns-clause-first
unfolding stepped
returns-clause-first c = refl

pub returns-clause-second : goal.returns-clause-second
unfolding stepped
returns-clause-second c = refl

pub returns-clause-third : goal.returns-clause-third
unfolding stepped
returns-clause-third c = refl

pub returns-clause-fourth : goal.returns-clause-fourth
unfolding stepped
returns-clause-fourth c = refl

pub returns-clause-fifth : goal.returns-clause-fifth
unfolding stepped
returns-clause-fifth c = refl
