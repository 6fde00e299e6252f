use Rattle.pm_law_bound.proofs.SunkLemmas.Lost.{lost_sunk}
use Rattle.pm_law_bound.proofs.sunk.laws.what_a_world_has_lost_is_sunk.Goals as goal

pub returns : goal.returns
returns c = lost_sunk
