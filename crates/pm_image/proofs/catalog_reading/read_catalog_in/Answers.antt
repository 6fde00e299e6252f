use Rattle.std.proofs.Common.{Some, arith}
use Rattle.pm_image.proofs.CatalogTakes.{catalog_found}
use Rattle.pm_image.proofs.CatalogAgain.{only_read}
use Rattle.pm_image.proofs.catalog_reading.read_catalog_in.Goals as goal

pub returns-clause-found : goal.returns-clause-found
returns-clause-found c = catalog_found (Some c.args.count) c.args.met.now c.args.page.now c.catalog_at.result (omega arith) (λ i. omega (arith, c.type_inv.page i)) c.catalog_at.ensures.exact

pub returns-clause-only : goal.returns-clause-only
returns-clause-only c = only_read (Some c.args.count) c.args.met.now c.args.page.now c.catalog_at.result c.catalog_at.ensures.exact
