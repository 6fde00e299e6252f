use Rattle.pm_law_copies.proofs.Pages.{have_pages, are_written}
use Rattle.pm_law_copies.proofs.laws.accepted_cars_have_pages.Goals as goal

pub returns-clause-alone : goal.returns-clause-alone
returns-clause-alone c = are_written

pub returns-clause-behind : goal.returns-clause-behind
returns-clause-behind c = have_pages
