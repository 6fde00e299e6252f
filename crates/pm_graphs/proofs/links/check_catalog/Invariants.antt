use Rattle.std.proofs.Common.{◌≡◌, ℕ, drop}
use Rattle.std.specs.List.{flat_map}
use Rattle.pm_image.specs.declared.catalog_kind.TheConstants.{ENTRIES}
use Rattle.pm_image.specs.declared.catalog.CatalogPage.{CatalogPage}
use Rattle.pm_image.specs.Graphs.{root_sites}
use Rattle.pm_graphs.specs.Linking.{linked_by}
use Rattle.pm_graphs.proofs.links.check_catalog.Given as goal

abbrev pub invariant-loop-page : goal.invariant-loop-page
invariant-loop-page l = record {
  so_far : linked_by l.leads (flat_map (λ (page : ℕ × CatalogPage). root_sites page.0 ENTRIES page.1.entries) l.catalog)
      ≡ linked_by l.leads (flat_map (λ (page : ℕ × CatalogPage). root_sites page.0 ENTRIES page.1.entries) (drop l.page-index l.catalog));
}
