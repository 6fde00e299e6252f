use Rattle.pm_law_saving.proofs.Begun.{begun_tied, clean_exactly, copy_begins}
use Rattle.pm_law_saving.proofs.beginning.a_copy_begins_beside_the_settled_one.Goals as goal

pub returns-clause-copy : goal.returns-clause-copy
returns-clause-copy c = copy_begins

pub returns-clause-tied : goal.returns-clause-tied
returns-clause-tied c = begun_tied

pub returns-clause-clean : goal.returns-clause-clean
returns-clause-clean c = clean_exactly
