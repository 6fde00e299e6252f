use Rattle.pm_view.specs.Sinking.{Passes, IsLost}
use Rattle.pm_law_bound.proofs.SunkLemmas.Ways.{out_low, noted_low}
use Rattle.pm_law_bound.proofs.sunk.laws.a_member_goes_to_a_low_train.Goals as goal

pub returns-clause-out : goal.returns-clause-out
returns-clause-out c = λ view a picked n test law sunk next of among. out_low view law (Passes test) n sunk a of next picked among

pub returns-clause-noted : goal.returns-clause-noted
returns-clause-noted c = λ view car a picked n test law sunk next of among. noted_low view law (Passes test) n sunk car a of next picked among

pub returns-clause-lost_out : goal.returns-clause-lost_out
returns-clause-lost_out c = λ view a picked n world law sunk next of among. out_low view law (IsLost world) n sunk a of next picked among

pub returns-clause-lost_noted : goal.returns-clause-lost_noted
returns-clause-lost_noted c = λ view car a picked n world law sunk next of among. noted_low view law (IsLost world) n sunk car a of next picked among
