use Rattle.pm_law_copies.proofs.LayoutLemmas.Planned.{plan_copy, plan_entries, plan_listed, plan_pages}
use Rattle.pm_law_copies.proofs.LayoutLemmas.Again.{laid_found, laid_opened, laid_spells}
use Rattle.pm_law_copies.proofs.layout.laws.what_a_plan_lays_is_read_again.Goals as goal

pub returns-clause-spelled : goal.returns-clause-spelled
returns-clause-spelled c = laid_spells

pub returns-clause-found : goal.returns-clause-found
returns-clause-found c = laid_found

pub returns-clause-opened : goal.returns-clause-opened
returns-clause-opened c = laid_opened

pub returns-clause-used : goal.returns-clause-used
returns-clause-used c = plan_pages

pub returns-clause-entries : goal.returns-clause-entries
returns-clause-entries c = plan_entries

pub returns-clause-listed : goal.returns-clause-listed
returns-clause-listed c = plan_listed

pub returns-clause-copy : goal.returns-clause-copy
returns-clause-copy c = plan_copy
