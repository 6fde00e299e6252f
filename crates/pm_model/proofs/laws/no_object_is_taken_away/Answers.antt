use Rattle.pm_model.proofs.ClosedLaws.{stays_after, alike_after}
use Rattle.pm_model.proofs.laws.no_object_is_taken_away.Goals as goal

pub returns-clause-alike : goal.returns-clause-alike
returns-clause-alike c world journal id object closed is = alike_after world journal id object closed is

pub returns-clause-stays : goal.returns-clause-stays
returns-clause-stays c world journal id is = stays_after world journal id is
