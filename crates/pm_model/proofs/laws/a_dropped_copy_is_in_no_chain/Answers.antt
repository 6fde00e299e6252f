use Rattle.std.proofs.Common.{ap}
use Rattle.pm_model.specs.Journal.{says_saved}
use Rattle.pm_model.proofs.ChainLaws.{dropped, dropped_again, chain_same}
use Rattle.pm_model.proofs.laws.a_dropped_copy_is_in_no_chain.Goals as goal

pub returns-clause-dropped : goal.returns-clause-dropped
returns-clause-dropped c world client number is = dropped world client number is

pub returns-clause-chain : goal.returns-clause-chain
returns-clause-chain c world journal entry number is = chain_same world journal entry (ap says_saved is)

pub returns-clause-again : goal.returns-clause-again
returns-clause-again c world client other number numbered is = dropped_again world client other number numbered is
