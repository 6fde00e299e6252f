use Rattle.pm_shadow.proofs.NewLemmas.{catalog_stands, three_pages}
use Rattle.pm_shadow.proofs.law.a_new_store_has_three_pages.Goals as goal

pub returns-clause-count : goal.returns-clause-count
returns-clause-count c = three_pages

pub returns-clause-catalog : goal.returns-clause-catalog
returns-clause-catalog c = catalog_stands
