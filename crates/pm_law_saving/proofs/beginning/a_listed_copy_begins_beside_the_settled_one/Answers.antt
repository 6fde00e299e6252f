use Rattle.pm_law_saving.proofs.Filed.{found_listed}
use Rattle.pm_law_saving.proofs.Begun.{listed_copy, listed_tied}
use Rattle.pm_law_saving.proofs.beginning.a_listed_copy_begins_beside_the_settled_one.Goals as goal

pub returns-clause-found : goal.returns-clause-found
returns-clause-found c = found_listed

pub returns-clause-copy : goal.returns-clause-copy
returns-clause-copy c = listed_copy

pub returns-clause-tied : goal.returns-clause-tied
returns-clause-tied c = listed_tied
