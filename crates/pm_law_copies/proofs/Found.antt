-- What a graph that was found lists.
use Rattle.std.proofs.Common.{◌≡◌, ℕ, ap, subst, List, [], ◌∷◌, Some, Ok}
use Rattle.std.specs.FinSet as set
use Rattle.pm_layout.specs.declared.header.Header.{Header}
use Rattle.pm_layout.specs.Headers.{most_fields}
use Rattle.pm_types.proofs.Results.{bind_ok, ok_same}
use Rattle.pm_image.specs.declared.catalog.CatEntry.{CatEntry}
use Rattle.pm_image.specs.declared.catalog.CatEntry.TheVariants.{Car, Root}
use Rattle.pm_image.specs.declared.settled.KeptPage.{KeptPage}
use Rattle.pm_image.specs.CarPages.{Numbers, car_at}
use Rattle.pm_image.specs.Graphs.{Pages, Graph, on_page, undamaged, with_identities, images_of, entries_of, catalog_of, cars_from, linked, sites_of, graph_of}
use Rattle.pm_copies.specs.Listed.{images}
use Rattle.pm_copies.specs.Opened.{listed_in, listed_graph}

-- as many cars are found as entries list
cars_listed : (most next : ℕ) (pages : Pages) (met : Numbers) (entries : List CatEntry) (cars : List KeptPage) → cars_from most next pages met entries ≡ Ok cars → images (listed_in entries (images_of cars)) ≡ images_of cars
unfolding cars_from
cars_listed most next pages met [] cars is = ap images_of (ok_same [] cars is)
cars_listed most next pages met (Root name at ∷ entries) cars is = cars_listed most next pages met entries cars is
cars_listed most next pages met (Car car train page digest ∷ entries) cars is =
    let one = bind_ok (undamaged pages page digest) _ cars is in
    let two = bind_ok (on_page page (car_at (record { most = most; next = next; number = Some car }) met (pages.page page))) _ cars one.2 in
    let three = bind_ok (cars_from most next pages (with_identities met two.0.slots) entries) _ cars two.2 in
    let made : List KeptPage = record { image = two.0; page = page; digest = digest } ∷ three.0 in
    subst (λ (cars : List KeptPage). images (listed_in (Car car train page digest ∷ entries) (images_of cars)) ≡ images_of cars) (ok_same made cars three.2)
    (ap (λ rest. two.0 ∷ rest) (cars_listed most next pages (with_identities met two.0.slots) entries three.0 three.1))

-- the parts that a graph was found by
pub record IsMade (pages : Pages) (header : Header) (graph : Graph) : Type 0 where
  pub catalog : catalog_of pages header ≡ Ok graph.catalog
  pub cars : cars_from (most_fields header.version) header.next pages set.empty (entries_of graph.catalog) ≡ Ok graph.cars

pub graph_made : (pages : Pages) (header : Header) (graph : Graph) → graph_of pages header ≡ Ok graph → IsMade pages header graph
unfolding graph_of
graph_made pages header graph is =
    let one = bind_ok (catalog_of pages header) _ graph is in
    let two = bind_ok (cars_from (most_fields header.version) header.next pages set.empty (entries_of one.0)) _ graph one.2 in
    let three = bind_ok (linked (images_of two.0) (sites_of one.0 two.0)) _ graph two.2 in
    let made : Graph = record { catalog = one.0; cars = two.0 } in
    subst (IsMade pages header) (ok_same made graph three.2) (record { catalog = one.1; cars = two.1 })

pub graph_listed : (pages : Pages) (header : Header) (graph : Graph) → graph_of pages header ≡ Ok graph → images (listed_graph graph) ≡ images_of graph.cars
graph_listed pages header graph is = cars_listed (most_fields header.version) header.next pages set.empty (entries_of graph.catalog) graph.cars (graph_made pages header graph is).cars
