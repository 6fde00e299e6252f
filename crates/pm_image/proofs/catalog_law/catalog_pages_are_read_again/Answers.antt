use Rattle.pm_image.proofs.CatalogTakes.{catalog_takes}
use Rattle.pm_image.proofs.CatalogAgain.{catalog_again, catalog_apart}
use Rattle.pm_image.proofs.catalog_law.catalog_pages_are_read_again.Goals as goal

pub returns-clause-again : goal.returns-clause-again
returns-clause-again c = catalog_again

pub returns-clause-found : goal.returns-clause-found
returns-clause-found c = λ count met bytes page whole fits read. catalog_takes count met bytes page whole fits read

pub returns-clause-apart : goal.returns-clause-apart
returns-clause-apart c = catalog_apart
