-- What the graph of a plan lists: the plan's entries, cars and pages.
use Rattle.std.proofs.Common.{◌≡◌, ℕ, List, [], ◌∷◌, ◌++◌, map, refl, ap, ◌∙◌}
use Rattle.pm_types.specs.declared.address.Addr.{Addr}
use Rattle.pm_model.specs.World.{Roots}
use Rattle.pm_model.specs.Copying.{copied}
use Rattle.pm_image.specs.declared.car.CarImage.{CarImage}
use Rattle.pm_image.specs.declared.catalog.CatEntry.{CatEntry}
use Rattle.pm_image.specs.declared.catalog.CatalogPage.{CatalogPage}
use Rattle.pm_image.specs.declared.settled.KeptPage.{KeptPage}
use Rattle.pm_image.specs.Graphs.{copy_of, entries_of, heap_of, images_of, roots_of, used_pages}
use Rattle.pm_copies.specs.Listed.{Listed, copy_listed, images}
use Rattle.pm_copies.specs.Opened.{listed_graph, listed_in}
use Rattle.pm_copies.specs.Plans.{CarInTrain, CarPlan, PlannedPage, car_entry, cars_in, chain_of, graph_of_plan, in_list, planned_cars, planned_entries, planned_list, planned_pages, planned_roots, root_entry}
use Rattle.pm_copies.specs.Cutting.{OnePage, joined}
use Rattle.pm_copies.specs.Laid.{IsCatalogFilled}

-- the entries of each page of a catalog
abbrev pub parts_of : List PlannedPage → List OnePage
parts_of catalog = map (λ (listed : PlannedPage). listed.entries) catalog

-- the numbers of the pages of a catalog
abbrev pub places_of : List PlannedPage → List ℕ
places_of catalog = map (λ (listed : PlannedPage). listed.page) catalog

-- ---- the chain

pub chain_entries : (catalog : List PlannedPage) → entries_of (chain_of catalog) ≡ joined (parts_of catalog)
chain_entries [] = refl
chain_entries (first ∷ catalog) = ap (λ (rest : List CatEntry). first.entries ++ rest) (chain_entries catalog)

chain_places : (catalog : List PlannedPage) → map (λ (page : ℕ × CatalogPage). page.0) (chain_of catalog) ≡ places_of catalog
chain_places [] = refl
chain_places (first ∷ catalog) = ap (λ (rest : List ℕ). first.page ∷ rest) (chain_places catalog)

pub plan_entries : (plan : CarPlan) → IsCatalogFilled plan → entries_of (graph_of_plan plan).catalog ≡ planned_entries plan
plan_entries plan listed = chain_entries plan.catalog ∙ listed.whole

pub plan_pages : (plan : CarPlan) → used_pages (graph_of_plan plan) ≡ planned_pages plan
plan_pages plan = ap (λ (front : List ℕ). front ++ map (λ (kept : KeptPage). kept.page) (planned_cars plan)) (chain_places plan.catalog)

-- ---- the cars

-- the cars without their trains
abbrev pub kept_of : List CarInTrain → List KeptPage
kept_of cars = map (λ (one : CarInTrain). one.1) cars

pub same_images : (cars : List CarInTrain) → images_of (kept_of cars) ≡ images (map in_list cars)
same_images [] = refl
same_images (car ∷ cars) = ap (λ (rest : List CarImage). car.1.image ∷ rest) (same_images cars)

roots_list_none : (roots : List (List ℕ × Addr)) → listed_in (map root_entry roots) [] ≡ []
roots_list_none [] = refl
roots_list_none (root ∷ roots) = roots_list_none roots

cars_in_list : (cars : List CarInTrain) (roots : List (List ℕ × Addr)) → listed_in (map car_entry cars ++ map root_entry roots) (images_of (kept_of cars)) ≡ map in_list cars
cars_in_list [] roots = roots_list_none roots
cars_in_list (car ∷ cars) roots = ap (λ (rest : List Listed). in_list car ∷ rest) (cars_in_list cars roots)

pub plan_listed : (plan : CarPlan) → IsCatalogFilled plan → listed_graph (graph_of_plan plan) ≡ planned_list plan
plan_listed plan listed =
    ap (λ (entries : List CatEntry). listed_in entries (images_of (planned_cars plan))) (plan_entries plan listed) ∙ cars_in_list (cars_in plan) plan.roots

roots_alone : (images : List CarImage) (cars : List CarInTrain) (roots : List CatEntry) → roots_of images (map car_entry cars ++ roots) ≡ roots_of images roots
roots_alone images [] roots = refl
roots_alone images (car ∷ cars) roots = roots_alone images cars roots

pub plan_copy : (plan : CarPlan) (next : ℕ) → IsCatalogFilled plan → copy_of next (graph_of_plan plan) ≡ copy_listed (planned_list plan) (planned_roots plan) next
plan_copy plan next listed =
    ap (λ (entries : List CatEntry). copied (heap_of (images_of (planned_cars plan))) (roots_of (images_of (planned_cars plan)) entries) next) (plan_entries plan listed)
    ∙ ap (λ (roots : Roots). copied (heap_of (images_of (planned_cars plan))) roots next) (roots_alone (images_of (planned_cars plan)) (cars_in plan) (planned_roots plan))
    ∙ ap (λ (cars : List CarImage). copied (heap_of cars) (roots_of cars (planned_roots plan)) next) (same_images (cars_in plan))
