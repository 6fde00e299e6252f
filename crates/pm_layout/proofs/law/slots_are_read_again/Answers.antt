use Rattle.pm_layout.proofs.Laws.{again, apart, cut}
use Rattle.pm_layout.proofs.law.slots_are_read_again.Goals as goal

pub returns-clause-again : goal.returns-clause-again
returns-clause-again c = again

pub returns-clause-apart : goal.returns-clause-apart
returns-clause-apart c = apart

pub returns-clause-cut : goal.returns-clause-cut
returns-clause-cut c = cut
