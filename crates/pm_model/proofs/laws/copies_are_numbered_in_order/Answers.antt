use Rattle.pm_model.proofs.ChainLaws.{numbered_after}
use Rattle.pm_model.proofs.laws.copies_are_numbered_in_order.Goals as goal

pub returns-clause-after : goal.returns-clause-after
returns-clause-after c world journal is = numbered_after world journal is
