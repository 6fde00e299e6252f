use Rattle.pm_model.proofs.ChainLaws.{saved, same_settled}
use Rattle.pm_model.proofs.laws.what_settles_was_in_progress.Goals as goal

pub returns-clause-saved : goal.returns-clause-saved
returns-clause-saved c world client number cmd is = saved world client number cmd is

pub returns-clause-same : goal.returns-clause-same
returns-clause-same c world client cmd other = same_settled world client cmd other
