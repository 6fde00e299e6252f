-- Where the addresses of a graph stand, and which of them a fault is of.
use Rattle.std.specs.Prelude.{◌≡◌, ◌+◌, List, ◌∷◌, ◌++◌, slice_range, Contains, Ok, true, false}
use Rattle.std.specs.List.{AllByRecursion}
use Rattle.std.specs.FinSet as set
use Rattle.pm_types.specs.declared.fault.OpenFault.{OpenFault}
use Rattle.pm_types.specs.declared.fault.OpenFault.TheVariants.{Malformed}
use Rattle.pm_layout.specs.declared.header.Header.{Header}
use Rattle.pm_layout.specs.Headers.{most_fields}
use Rattle.pm_layout.specs.Spelling.{address}
use Rattle.pm_image.specs.Graphs.{Graph, Pages, Site, cars_from, catalog_of, entries_of, images_of, leads, sites_of, used_pages}

-- The pages behind a header were read, and none is at fault: they are this catalog and these cars. Whether their
-- addresses lead anywhere is not said.
pub record AreRead (pages : Pages) (header : Header) (graph : Graph) : Type 0 where
  pub catalog : catalog_of pages header ≡ Ok graph.catalog
  pub cars :
      cars_from (most_fields header.version) header.next pages set.empty (entries_of graph.catalog) ≡ Ok graph.cars

-- An address stands at its place: the page is one of those that the graph stands on, and twelve bytes of it, from the
-- place on, spell the address.
pub record StandsAtPlace (pages : Pages) (graph : Graph) (site : Site) : Type 0 where
  pub used : Contains (used_pages graph) site.page
  pub spelled : slice_range (pages.page site.page) site.at (site.at + 12) ≡ address site.to

-- A fault is of the first address that leads to no slot of a kind that it may, in the order of cars, records and fields
-- and then of roots: each one before it leads to one. The fault says its page and its place there, where it stands.
pub record IsOfFirstAstray (pages : Pages) (graph : Graph) (fault : OpenFault) : Type 0 where
  pub before : List Site
  pub astray : Site
  pub after : List Site
  pub parts : sites_of graph.catalog graph.cars ≡ before ++ (astray ∷ after)
  pub lead : AllByRecursion (λ (site : Site). leads (images_of graph.cars) site ≡ true) before
  pub leads_not : leads (images_of graph.cars) astray ≡ false
  pub told : fault ≡ Malformed astray.page astray.at
  pub stands : StandsAtPlace pages graph astray
