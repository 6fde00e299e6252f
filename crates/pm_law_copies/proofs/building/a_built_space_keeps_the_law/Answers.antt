use Rattle.pm_law_copies.proofs.BuiltLaw.{built_law}
use Rattle.pm_law_copies.proofs.building.a_built_space_keeps_the_law.Goals as goal

pub returns : goal.returns
returns c = built_law
