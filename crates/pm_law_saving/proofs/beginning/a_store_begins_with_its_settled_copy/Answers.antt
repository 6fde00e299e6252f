use Rattle.pm_law_saving.proofs.Giving.{store_begins}
use Rattle.pm_law_saving.proofs.beginning.a_store_begins_with_its_settled_copy.Goals as goal

pub returns : goal.returns
returns c = store_begins
