use Rattle.std.proofs.Common.{◌≡◌, ◌+◌, drop}
use Rattle.pm_image.specs.declared.catalog_kind.TheConstants.{ENTRIES}
use Rattle.pm_image.specs.CatalogPages.{catalog_used}
use Rattle.pm_image.specs.Graphs.{root_sites}
use Rattle.pm_graphs.specs.Linking.{linked_by}
use Rattle.pm_graphs.proofs.links.check_roots.Given as goal

abbrev pub invariant-loop-entry : goal.invariant-loop-entry
invariant-loop-entry l = record {
  place : l.at + catalog_used (drop l.entry-index l.entries) ≡ ENTRIES + catalog_used l.entries;
  so_far : linked_by l.leads (root_sites l.page ENTRIES l.entries) ≡ linked_by l.leads (root_sites l.page l.at (drop l.entry-index l.entries));
}
