use Rattle.pm_law_dumps.proofs.Again.{told_again}
use Rattle.pm_law_dumps.proofs.laws.a_restored_store_has_the_same_dump.Goals as goal

pub returns : goal.returns
returns c = told_again
