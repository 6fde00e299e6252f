use Rattle.pm_law_copies.proofs.WorldOf.{world_of, has_what_stands}
use Rattle.pm_law_copies.proofs.laws.a_space_stands_for_some_world.Goals as goal

pub returns : goal.returns
returns c = λ view law. (world_of view law, has_what_stands view law)
