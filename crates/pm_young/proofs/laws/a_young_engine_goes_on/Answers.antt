use Rattle.pm_young.proofs.GoesOn.{goes_further, goes_nowhere}
use Rattle.pm_young.proofs.laws.a_young_engine_goes_on.Goals as goal

pub returns-clause-itself : goal.returns-clause-itself
returns-clause-itself g c = λ it. goes_nowhere it

pub returns-clause-further : goal.returns-clause-further
returns-clause-further g c = λ one two three a b. goes_further one two three a b
