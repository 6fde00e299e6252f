use Rattle.pm_restore.proofs.NewStores.{made_new}
use Rattle.pm_restore.proofs.laws.a_made_store_is_new.Goals as goal

pub returns : goal.returns
returns c = made_new
