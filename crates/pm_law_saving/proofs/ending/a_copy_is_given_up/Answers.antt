use Rattle.pm_law_saving.proofs.Giving.{copy_given_up}
use Rattle.pm_law_saving.proofs.ending.a_copy_is_given_up.Goals as goal

pub returns : goal.returns
returns c = copy_given_up
