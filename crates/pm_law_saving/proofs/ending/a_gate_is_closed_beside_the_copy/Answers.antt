use Rattle.pm_law_saving.proofs.Giving.{gate_closed}
use Rattle.pm_law_saving.proofs.ending.a_gate_is_closed_beside_the_copy.Goals as goal

pub returns : goal.returns
returns c = gate_closed
