use Rattle.pm_law_copies.proofs.FoundStore.{store_accepted, store_copy, store_law, store_stands}
use Rattle.pm_law_copies.proofs.laws.a_store_is_opened_as_its_copy.Goals as goal

pub returns-clause-accepted : goal.returns-clause-accepted
returns-clause-accepted c = store_accepted

pub returns-clause-copy : goal.returns-clause-copy
returns-clause-copy c = store_copy

pub returns-clause-law : goal.returns-clause-law
returns-clause-law c = store_law

pub returns-clause-world : goal.returns-clause-world
returns-clause-world c = store_stands
