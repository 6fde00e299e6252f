-- What is read of a graph, step by step.
use Rattle.std.proofs.Common.{◌≡◌, ℕ, ◌≤◌, ◌==◌, lit≤, true, false, List, Ok, refl, if◌then◌else◌}
use Rattle.std.specs.FinSet as set
use Rattle.pm_types.specs.declared.limits.TheConstants.{FIELDS, OLD_FIELDS, OLD_VERSION}
use Rattle.pm_layout.specs.declared.header.Header.{Header}
use Rattle.pm_layout.specs.Headers.{most_fields}
use Rattle.pm_image.specs.declared.settled.KeptPage.{KeptPage}
use Rattle.pm_image.specs.Graphs.{images_of, Pages as Store, Catalog, Graph, sites_of, linked, catalog_of, cars_from, entries_of, graph_of}
use Rattle.pm_types.proofs.Results.{bound}
use Rattle.pm_graphs.specs.declared.fault.ReadFault.{ReadFault}
use Rattle.pm_graphs.specs.Reading.{Fails}
use Rattle.pm_graphs.proofs.Faults.{first_fails, then_fails}

-- ---- the graph

-- no version has more fields than the limit
pub few_fields : (version : ℕ) → most_fields version ≤ FIELDS
few_fields version = elim (version == OLD_VERSION) as (λ b. (if b then OLD_FIELDS else FIELDS) ≤ FIELDS) [ true ↦ lit≤ tt | false ↦ lit≤ tt ]

module _ (store : Store) (header : Header) where
  pub catalog_fails : (fault : ReadFault) → Fails {X = Catalog} fault (catalog_of store header) → Fails {X = Graph} fault (graph_of store header)
  unfolding graph_of
  catalog_fails fault is = first_fails fault (catalog_of store header) _ is

  pub cars_fail : (catalog : Catalog) (fault : ReadFault) → catalog_of store header ≡ Ok catalog → Fails {X = List KeptPage} fault (cars_from (most_fields header.version) header.next store set.empty (entries_of catalog))
      → Fails {X = Graph} fault (graph_of store header)
  unfolding graph_of
  cars_fail catalog fault found is =
      then_fails fault (catalog_of store header) catalog _ found
      (first_fails fault (cars_from (most_fields header.version) header.next store set.empty (entries_of catalog)) _ is)

  pub links_fail : (catalog : Catalog) (cars : List KeptPage) (fault : ReadFault) → catalog_of store header ≡ Ok catalog → cars_from (most_fields header.version) header.next store set.empty (entries_of catalog) ≡ Ok cars
      → Fails {X = Unit {0}} fault (linked (images_of cars) (sites_of catalog cars)) → Fails {X = Graph} fault (graph_of store header)
  unfolding graph_of
  links_fail catalog cars fault found read is =
      then_fails fault (catalog_of store header) catalog _ found
      (then_fails fault (cars_from (most_fields header.version) header.next store set.empty (entries_of catalog)) cars _ read
      (first_fails fault (linked (images_of cars) (sites_of catalog cars)) _ is))

  pub graph_found : (catalog : Catalog) (cars : List KeptPage) → catalog_of store header ≡ Ok catalog → cars_from (most_fields header.version) header.next store set.empty (entries_of catalog) ≡ Ok cars
      → linked (images_of cars) (sites_of catalog cars) ≡ Ok tt → graph_of store header ≡ Ok (record { catalog = catalog; cars = cars })
  unfolding graph_of
  graph_found catalog cars found read links =
      bound (catalog_of store header) _ catalog _ found
      (bound (cars_from (most_fields header.version) header.next store set.empty (entries_of catalog)) _ cars _ read
      (bound (linked (images_of cars) (sites_of catalog cars)) _ tt _ links refl))
