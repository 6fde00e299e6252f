use Rattle.pm_law_collect.proofs.TracesLemmas.Again.{misled_breaks}
use Rattle.pm_law_collect.proofs.traces.wrong.a_withdrawal_that_names_a_slot_breaks_the_law.Goals as goal

pub returns : goal.returns
returns c = misled_breaks
