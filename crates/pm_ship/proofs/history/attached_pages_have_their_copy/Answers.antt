use Rattle.pm_ship.proofs.HistoryLemmas.{attached_has}
use Rattle.pm_ship.proofs.history.attached_pages_have_their_copy.Goals as goal

pub returns : goal.returns
returns c = attached_has
