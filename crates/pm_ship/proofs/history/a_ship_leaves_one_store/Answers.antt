use Rattle.pm_ship.proofs.OneLemmas.{got_once}
use Rattle.pm_ship.proofs.history.a_ship_leaves_one_store.Goals as goal

pub returns : goal.returns
returns c = got_once
