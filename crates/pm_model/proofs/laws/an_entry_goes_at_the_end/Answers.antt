use Rattle.pm_model.proofs.ChainLaws.{after_more, legal_more, legal_front, chain_more}
use Rattle.pm_model.proofs.laws.an_entry_goes_at_the_end.Goals as goal

pub returns-clause-after : goal.returns-clause-after
returns-clause-after c world journal entry = after_more world journal entry

pub returns-clause-legal : goal.returns-clause-legal
returns-clause-legal c world journal entry legal is = legal_more world journal entry legal is

pub returns-clause-front : goal.returns-clause-front
returns-clause-front c world journal entry legal = legal_front world journal entry legal

pub returns-clause-chain : goal.returns-clause-chain
returns-clause-chain c world journal entry = chain_more world journal entry
