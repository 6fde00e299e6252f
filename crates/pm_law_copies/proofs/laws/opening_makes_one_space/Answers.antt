use Rattle.pm_law_copies.proofs.OneSpace.{one_space}
use Rattle.pm_law_copies.proofs.SomeSpace.{some_space}
use Rattle.pm_law_copies.proofs.laws.opening_makes_one_space.Goals as goal

pub returns-clause-some : goal.returns-clause-some
returns-clause-some c = some_space

pub returns-clause-one : goal.returns-clause-one
returns-clause-one c = one_space
