use Rattle.pm_law_bound.proofs.SunkLemmas.Losing.{lost_stays}
use Rattle.pm_law_bound.proofs.sunk.laws.what_is_lost_stays_lost.Goals as goal

pub returns : goal.returns
returns c = lost_stays
