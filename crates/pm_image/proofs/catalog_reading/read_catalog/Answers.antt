use Rattle.std.proofs.Common.{None, arith}
use Rattle.pm_image.specs.CatalogPages.{nothing_met}
use Rattle.pm_image.proofs.CatalogTakes.{catalog_found}
use Rattle.pm_image.proofs.CatalogAgain.{only_read}
use Rattle.pm_image.proofs.catalog_reading.read_catalog.Goals as goal

pub returns-clause-found : goal.returns-clause-found
returns-clause-found c = catalog_found None nothing_met c.args.page.now c.catalog_at.result (omega arith) (λ i. omega (arith, c.type_inv.page i)) (rw (← c.new-met.ensures) c.catalog_at.ensures.exact)

pub returns-clause-only : goal.returns-clause-only
returns-clause-only c = only_read None nothing_met c.args.page.now c.catalog_at.result (rw (← c.new-met.ensures) c.catalog_at.ensures.exact)
