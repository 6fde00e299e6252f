use Rattle.pm_model.proofs.ChainLaws.{chain_ends}
use Rattle.pm_model.proofs.laws.a_chain_ends_at_the_settled_copy.Goals as goal

pub returns : goal.returns
returns c world journal legal = chain_ends world journal legal
