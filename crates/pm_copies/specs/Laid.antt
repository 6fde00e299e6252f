-- When the pages of a store hold a plan.
use Rattle.std.specs.Prelude.{◌≡◌, ℕ, ◌<◌, ◌^◌, List, map, true}
use Rattle.std.specs.List.{AllByRecursion}
use Rattle.sha2.specs.Sha256.{sha256}
use Rattle.pm_types.specs.Names.{IsName}
use Rattle.pm_types.specs.declared.address.Addr.{Addr}
use Rattle.pm_types.specs.declared.object.Slot.{Slot}
use Rattle.pm_layout.specs.declared.header.Header.{Header}
use Rattle.pm_layout.specs.Headers.{is_version, most_fields}
use Rattle.pm_layout.specs.Spelling.{IsWithinLimits}
use Rattle.pm_image.specs.declared.catalog.CatalogPage.{CatalogPage}
use Rattle.pm_image.specs.declared.settled.KeptPage.{KeptPage}
use Rattle.pm_image.specs.CarAnswers.{IsCarInRange}
use Rattle.pm_image.specs.CarPages.{car_spelling, padded}
use Rattle.pm_image.specs.CatalogPages.{catalog_spelling}
use Rattle.pm_image.specs.Graphs.{Pages}
use Rattle.pm_view.specs.View.{SpaceView}
use Rattle.pm_copies.specs.Listed.{listed, root_entries}
use Rattle.pm_copies.specs.Accepted.{IsAccepted}
use Rattle.pm_copies.specs.Apart.{AreOwn}
use Rattle.pm_copies.specs.Plans.{CarInTrain, CarPlan, PlannedPage, cars_in, chain_of, digest_of, first_of, planned_cars, planned_entries, planned_list, planned_pages, planned_roots}
use Rattle.pm_copies.specs.Cutting.{IsCutInto}

-- no object of the car has more fields than this
abbrev pub HasFewFields : ℕ → KeptPage → Type 0
HasFewFields most kept = AllByRecursion (λ (entry : ℕ × Slot). IsWithinLimits most entry.1) kept.image.slots

-- the names of a plan are names, and its numbers are such as the types hold
pub record IsPlanInRange (plan : CarPlan) : Type 0 where
  pub names : AllByRecursion (λ (root : List ℕ × Addr). IsName root.0) plan.roots
  pub cars : AllByRecursion (λ (kept : KeptPage). IsCarInRange kept.image) (planned_cars plan)
  pub trains : AllByRecursion (λ (one : CarInTrain). one.0 < 2 ^ 64) (cars_in plan)

-- The plan is one of a store: no rule refuses its cars and roots under this next identity, and no object has more
-- fields than this.
pub record IsStorePlan (next_id most : ℕ) (plan : CarPlan) : Type 0 where
  pub accepted : IsAccepted (planned_list plan) (planned_roots plan) next_id
  pub fields : AllByRecursion (HasFewFields most) (planned_cars plan)
  pub in_range : IsPlanInRange plan

-- the catalog of a plan lists its cars and roots, each page filled before the next
abbrev pub IsCatalogFilled : CarPlan → Type 0
IsCatalogFilled plan = IsCutInto (planned_entries plan) (map (λ (listed : PlannedPage). listed.entries) plan.catalog)

-- the page of a car has the bytes of the car's spelling, with zeros to its end, and the digest that is kept of it
pub record IsCarHeld (pages : Pages) (kept : KeptPage) : Type 0 where
  pub spelled : pages.page kept.page ≡ padded (car_spelling kept.image)
  pub digest : sha256 (pages.page kept.page) ≡ kept.digest

-- a page of the catalog has the bytes of its spelling, with zeros to its end
abbrev pub IsPageHeld : Pages → ℕ × CatalogPage → Type 0
IsPageHeld pages page = pages.page page.0 ≡ padded (catalog_spelling page.1)

-- The pages of a store hold a plan: each car on its page, and each page of the catalog, which names the next one with
-- its digest. Each page is one of the store behind the headers' two, and stands for one car or catalog page only.
pub record HoldPlan (pages : Pages) (plan : CarPlan) : Type 0 where
  pub cars : AllByRecursion (IsCarHeld pages) (planned_cars plan)
  pub catalog : AllByRecursion (IsPageHeld pages) (chain_of plan.catalog)
  pub own_pages : AreOwn 2 pages.count (planned_pages plan)

-- the header is one of a plan: of a version that is read, it names the first page of the catalog with its digest
pub record IsPlanHeader (plan : CarPlan) (header : Header) : Type 0 where
  pub version : is_version header.version ≡ true
  pub first : header.first ≡ first_of (chain_of plan.catalog)
  pub digest : header.digest ≡ digest_of (chain_of plan.catalog)

-- A plan is laid on the pages of a store, behind this header: it is one of a store with the header's next identity
-- and as many fields as the version allows, its catalog lists it, the pages hold it, and the header names it.
pub record IsLaidBehind (pages : Pages) (header : Header) (plan : CarPlan) : Type 0 where
  pub of_store : IsStorePlan header.next (most_fields header.version) plan
  pub listed : IsCatalogFilled plan
  pub held : HoldPlan pages plan
  pub header_of : IsPlanHeader plan header

-- The plan is one of a space: its cars are those that a copy of the space lists, in their trains, each as it stands,
-- and its roots are those of the space, ascending.
pub record IsSpacePlan (view : SpaceView) (plan : CarPlan) : Type 0 where
  pub cars : planned_list plan ≡ listed view
  pub roots : planned_roots plan ≡ root_entries view
