use Rattle.pm_law_dumps.proofs.Ranged.{store_ranged}
use Rattle.pm_law_dumps.proofs.laws.a_stores_copy_is_within_a_dump.Goals as goal

pub returns : goal.returns
returns c = store_ranged
