-- A plan: the cars and roots of a copy, each car with its page, and how the catalog lists them on its pages.
use Rattle.std.specs.Prelude.{ℕ, List, [], ◌∷◌, ◌++◌, map, replicate}
use Rattle.std.specs.List.{flat_map}
use Rattle.sha2.specs.Sha256.{sha256}
use Rattle.pm_types.specs.declared.address.Addr.{Addr}
use Rattle.pm_image.specs.declared.catalog.CatEntry.{CatEntry}
use Rattle.pm_image.specs.declared.catalog.CatEntry.TheVariants.{Car, Root}
use Rattle.pm_image.specs.declared.catalog.CatalogPage.{CatalogPage}
use Rattle.pm_image.specs.declared.settled.KeptPage.{KeptPage}
use Rattle.pm_image.specs.CarPages.{padded}
use Rattle.pm_image.specs.CatalogPages.{catalog_spelling}
use Rattle.pm_image.specs.Graphs.{Catalog, Graph}
use Rattle.pm_copies.specs.Listed.{Listed}

-- a train: its number, and its cars in order, each with its page and the digest of that page
pub record PlannedTrain : Type 0 where
  pub number : ℕ
  pub cars : List KeptPage

-- a page of the catalog: its number, and the entries that it lists
pub record PlannedPage : Type 0 where
  pub page : ℕ
  pub entries : List CatEntry

-- A plan: the trains, the oldest first; the roots, each a name with its address; and the pages of the catalog, the
-- first one first.
pub record CarPlan : Type 0 where
  pub trains : List PlannedTrain
  pub roots : List (List ℕ × Addr)
  pub catalog : List PlannedPage

-- ---- what is laid

-- a car with the number of its train
abbrev pub CarInTrain : Type 0
CarInTrain = ℕ × KeptPage

-- the cars of a train
abbrev pub cars_of_train : PlannedTrain → List CarInTrain
cars_of_train train = map (λ (kept : KeptPage). (train.number, kept)) train.cars

-- the cars of a plan, in the order of the trains
abbrev pub cars_in : CarPlan → List CarInTrain
cars_in plan = flat_map cars_of_train plan.trains

-- with their pages
abbrev pub planned_cars : CarPlan → List KeptPage
planned_cars plan = map (λ (one : CarInTrain). one.1) (cars_in plan)

-- a car as a copy lists it: with the number of its train, and without its page
abbrev pub in_list : CarInTrain → Listed
in_list one = (one.0, one.1.image)

-- the cars of a plan as a copy lists them
abbrev pub planned_list : CarPlan → List Listed
planned_list plan = map in_list (cars_in plan)

-- the entry of a car: its number, its train, its page and the digest of that page
abbrev pub car_entry : CarInTrain → CatEntry
car_entry one = Car one.1.image.number one.0 one.1.page one.1.digest

-- the entry of a root: its name and its address
abbrev pub root_entry : List ℕ × Addr → CatEntry
root_entry root = Root root.0 root.1

-- the entries of the roots of a plan
abbrev pub planned_roots : CarPlan → List CatEntry
planned_roots plan = map root_entry plan.roots

-- the entries of a plan: one for each car, and then one for each root
abbrev pub planned_entries : CarPlan → List CatEntry
planned_entries plan = map car_entry (cars_in plan) ++ planned_roots plan

-- the pages of a plan: those of the catalog, and those of the cars
abbrev pub planned_pages : CarPlan → List ℕ
planned_pages plan =
    map (λ (listed : PlannedPage). listed.page) plan.catalog
    ++ map (λ (kept : KeptPage). kept.page) (planned_cars plan)

-- ---- its graph

-- the page that a chain begins on, 0 for none
abbrev pub first_of : Catalog → ℕ
first_of [] = 0
first_of (first ∷ others) = first.0

-- the digest of the first page of a chain, all 0 for none
abbrev pub digest_of : Catalog → List ℕ
digest_of [] = replicate 32 0
digest_of (first ∷ others) = sha256 (padded (catalog_spelling first.1))

-- a catalog page before a chain: it names the chain's first page and the digest of that page
abbrev pub linked_to : PlannedPage → Catalog → CatalogPage
linked_to listed chain = record { next = first_of chain; digest = digest_of chain; entries = listed.entries }

-- the chain of catalog pages
abbrev pub chain_of : List PlannedPage → Catalog
chain_of [] = []
chain_of (listed ∷ others) = (listed.page, linked_to listed (chain_of others)) ∷ chain_of others

-- the graph of a plan
abbrev pub graph_of_plan : CarPlan → Graph
graph_of_plan plan = record { catalog = chain_of plan.catalog; cars = planned_cars plan }
