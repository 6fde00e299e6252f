-- Each address of a catalog and of cars leads to an object, where each leads where it may, and so each of a graph that was found.
use Rattle.std.proofs.Common.{◌≡◌, ℕ, ◌+◌, true, false, ◌==◌, List, [], ◌∷◌, ◌++◌, length, Option, Some, None, is_some, Ok, refl, subst, if◌then◌else◌}
use Rattle.std.specs.List.{flat_map, AllByRecursion}
use Rattle.std.specs.FinSet as set
use Rattle.pm_types.specs.declared.limits.TheConstants.{CAR_HEAD_BYTES}
use Rattle.pm_types.specs.declared.address.Addr.{Addr}
use Rattle.pm_types.specs.declared.fault.OpenFault.TheVariants.{Malformed}
use Rattle.pm_types.specs.declared.object.Slot.{Slot}
use Rattle.pm_types.specs.declared.object.Slot.TheVariants.{Live, Moved}
use Rattle.pm_layout.specs.declared.header.Header.{Header}
use Rattle.pm_layout.specs.Headers.{most_fields}
use Rattle.pm_layout.specs.Spelling.{slot_size}
use Rattle.pm_types.proofs.Results.{bind_ok, ok_same, wanted_ok}
use Rattle.pm_image.specs.declared.car.CarImage.{CarImage}
use Rattle.pm_image.specs.declared.catalog.CatEntry.{CatEntry}
use Rattle.pm_image.specs.declared.catalog.CatEntry.TheVariants.{Car, Root}
use Rattle.pm_image.specs.declared.catalog.CatalogPage.{CatalogPage}
use Rattle.pm_image.specs.declared.settled.KeptPage.{KeptPage}
use Rattle.pm_image.specs.Leading.{FieldLeads, SlotLeads, CarLeads, RootLeads}
use Rattle.pm_image.specs.Graphs.{images_of, Pages, Catalog, Graph, Site, entries_of, catalog_of, cars_from, slot_in, slot_named, is_live, leads, linked, field_sites, slot_sites, record_sites, root_sites, sites_of, graph_of, identity_in, identity_through, resolved}
use Rattle.pm_image.specs.declared.catalog_kind.TheConstants.{ENTRIES, CAR_ENTRY_BYTES, ROOT_ENTRY_BYTES}

-- ---- each address of a list

abbrev Lead : List CarImage → List Site → Type 0
Lead cars sites = AllByRecursion (λ (site : Site). leads cars site ≡ true) sites

lead_front : (cars : List CarImage) (xs ys : List Site) → Lead cars (xs ++ ys) → Lead cars xs
lead_front cars [] ys all = tt
lead_front cars (x ∷ xs) ys all = (all.0, lead_front cars xs ys all.1)

lead_back : (cars : List CarImage) (xs ys : List Site) → Lead cars (xs ++ ys) → Lead cars ys
lead_back cars [] ys all = all
lead_back cars (x ∷ xs) ys all = lead_back cars xs ys all.1

linked_lead : (cars : List CarImage) (sites : List Site) (u : Unit {0}) → linked cars sites ≡ Ok u → Lead cars sites
unfolding linked
linked_lead cars [] u is = tt
linked_lead cars (site ∷ sites) u is =
    let parts = wanted_ok (leads cars site) (Malformed site.page site.at) (linked cars sites) u is in
    (parts.0, linked_lead cars sites u parts.1)

-- ---- slots that moved

live_known : (found : Option Slot) → is_live found ≡ true → is_some (identity_in found) ≡ true
live_known None is = cc
live_known (Some (Live object)) is = refl
live_known (Some (Moved to)) is = cc

-- what moved leads to a slot with an object
abbrev IsSettled : List CarImage → Option Slot → Type 0
IsSettled cars None = Unit {0}
IsSettled cars (Some (Live object)) = Unit {0}
IsSettled cars (Some (Moved to)) = is_live (slot_named cars to) ≡ true

abbrev AreSettled : List CarImage → List (ℕ × Slot) → Type 0
AreSettled cars slots = AllByRecursion (λ (entry : ℕ × Slot). IsSettled cars (Some entry.1)) slots

slot_settled : (cars : List CarImage) (page place : ℕ) (slot : Slot) → Lead cars (slot_sites page place slot) → IsSettled cars (Some slot)
slot_settled cars page place (Live object) all = tt
slot_settled cars page place (Moved to) all = all.0

slots_settled : (cars : List CarImage) (page place : ℕ) (slots : List (ℕ × Slot)) → Lead cars (record_sites page place slots) → AreSettled cars slots
slots_settled cars page place [] all = tt
slots_settled cars page place (first ∷ slots) all = (
  slot_settled cars page place first.1 (lead_front cars (slot_sites page place first.1) (record_sites page (place + 4 + slot_size first.1) slots) all),
  slots_settled cars page (place + 4 + slot_size first.1) slots (lead_back cars (slot_sites page place first.1) (record_sites page (place + 4 + slot_size first.1) slots) all),
)

abbrev car_sites : KeptPage → List Site
car_sites kept = record_sites kept.page CAR_HEAD_BYTES kept.image.slots

cars_settled : (cars : List CarImage) (these : List KeptPage) → Lead cars (flat_map car_sites these) → AllByRecursion (λ (car : CarImage). AreSettled cars car.slots) (images_of these)
cars_settled cars [] all = tt
cars_settled cars (kept ∷ these) all = (
  slots_settled cars kept.page CAR_HEAD_BYTES kept.image.slots (lead_front cars (car_sites kept) (flat_map car_sites these) all),
  cars_settled cars these (lead_back cars (car_sites kept) (flat_map car_sites these) all),
)

slot_in_settled : (cars : List CarImage) (slots : List (ℕ × Slot)) (number : ℕ) → AreSettled cars slots → IsSettled cars (slot_in slots number)
slot_in_settled cars [] number all = tt
slot_in_settled cars (first ∷ slots) number all =
    elim (first.0 == number) as (λ b. IsSettled cars (if b then Some first.1 else slot_in slots number)) [ true ↦ all.0 | false ↦ slot_in_settled cars slots number all.1 ]

named_settled : (cars these : List CarImage) (at : Addr) → AllByRecursion (λ (car : CarImage). AreSettled cars car.slots) these → IsSettled cars (slot_named these at)
named_settled cars [] at all = tt
named_settled cars (car ∷ these) at all =
    elim (car.number == at.car) as (λ b. IsSettled cars (if b then slot_in car.slots at.slot else slot_named these at)) [
      | true ↦ slot_in_settled cars car.slots at.slot all.0
      | false ↦ named_settled cars these at all.1
    ]

through_known : (cars : List CarImage) (found : Option Slot) → is_some found ≡ true → IsSettled cars found → is_some (identity_through cars found) ≡ true
through_known cars None some settled = cc
through_known cars (Some (Live object)) some settled = refl
through_known cars (Some (Moved to)) some settled = live_known (slot_named cars to) settled

-- ---- each address leads to an object

module _ (cars : List CarImage) (settled : AllByRecursion (λ (car : CarImage). AreSettled cars car.slots) cars) where
  known : (at : Addr) → is_some (slot_named cars at) ≡ true → is_some (resolved cars at) ≡ true
  known at some = through_known cars (slot_named cars at) some (named_settled cars cars at settled)

  fields_lead : (page place : ℕ) (fields : List (Option Addr)) → Lead cars (field_sites page place fields) → AllByRecursion (FieldLeads cars) fields
  fields_lead page place [] all = tt
  fields_lead page place (None ∷ fields) all = (tt, fields_lead page (place + 12) fields all)
  fields_lead page place (Some at ∷ fields) all = (known at all.0, fields_lead page (place + 12) fields all.1)

  slot_leads : (page place : ℕ) (slot : Slot) → Lead cars (slot_sites page place slot) → SlotLeads cars slot
  slot_leads page place (Live object) all = fields_lead page (place + 17) object.fields all
  slot_leads page place (Moved to) all = live_known (slot_named cars to) all.0

  slots_lead : (page place : ℕ) (slots : List (ℕ × Slot)) → Lead cars (record_sites page place slots) → AllByRecursion (λ (entry : ℕ × Slot). SlotLeads cars entry.1) slots
  slots_lead page place [] all = tt
  slots_lead page place (first ∷ slots) all = (
    slot_leads page place first.1 (lead_front cars (slot_sites page place first.1) (record_sites page (place + 4 + slot_size first.1) slots) all),
    slots_lead page (place + 4 + slot_size first.1) slots (lead_back cars (slot_sites page place first.1) (record_sites page (place + 4 + slot_size first.1) slots) all),
  )

  cars_lead : (these : List KeptPage) → Lead cars (flat_map car_sites these) → AllByRecursion (CarLeads cars) (images_of these)
  cars_lead [] all = tt
  cars_lead (kept ∷ these) all = (
    slots_lead kept.page CAR_HEAD_BYTES kept.image.slots (lead_front cars (car_sites kept) (flat_map car_sites these) all),
    cars_lead these (lead_back cars (car_sites kept) (flat_map car_sites these) all),
  )

  roots_lead : (page place : ℕ) (entries : List CatEntry) → Lead cars (root_sites page place entries) → AllByRecursion (RootLeads cars) entries
  roots_lead page place [] all = tt
  roots_lead page place (Car car train at digest ∷ entries) all = (tt, roots_lead page (place + CAR_ENTRY_BYTES) entries all)
  roots_lead page place (Root name to ∷ entries) all = (known to all.0, roots_lead page (place + ROOT_ENTRY_BYTES + length name) entries all.1)

  both_lead : (xs ys : List CatEntry) → AllByRecursion (RootLeads cars) xs → AllByRecursion (RootLeads cars) ys → AllByRecursion (RootLeads cars) (xs ++ ys)
  both_lead [] ys one two = two
  both_lead (x ∷ xs) ys one two = (one.0, both_lead xs ys one.1 two)

  catalog_leads : (catalog : Catalog) → Lead cars (flat_map (λ (page : ℕ × CatalogPage). root_sites page.0 ENTRIES page.1.entries) catalog) → AllByRecursion (RootLeads cars) (entries_of catalog)
  catalog_leads [] all = tt
  catalog_leads (page ∷ catalog) all =
      let rest : List Site = flat_map (λ (page : ℕ × CatalogPage). root_sites page.0 ENTRIES page.1.entries) catalog in
      both_lead page.1.entries (entries_of catalog) (roots_lead page.0 ENTRIES page.1.entries (lead_front cars (root_sites page.0 ENTRIES page.1.entries) rest all)) (catalog_leads catalog (lead_back cars (root_sites page.0 ENTRIES page.1.entries) rest all))

-- where each address leads where it may, it leads to an object
pub linked_leads : (catalog : Catalog) (kept : List KeptPage) (u : Unit {0}) → linked (images_of kept) (sites_of catalog kept) ≡ Ok u
    → AllByRecursion (CarLeads (images_of kept)) (images_of kept) × AllByRecursion (RootLeads (images_of kept)) (entries_of catalog)
linked_leads catalog kept u is =
    let cars = images_of kept in
    let roots : List Site = flat_map (λ (page : ℕ × CatalogPage). root_sites page.0 ENTRIES page.1.entries) catalog in
    let all = linked_lead cars (sites_of catalog kept) u is in
    let of_cars = lead_front cars (flat_map car_sites kept) roots all in
    let settled = cars_settled cars kept of_cars in
    (cars_lead cars settled kept of_cars, catalog_leads cars settled catalog (lead_back cars (flat_map car_sites kept) roots all))

-- in a graph that was found each address leads to an object
pub graph_leads : (pages : Pages) (header : Header) (graph : Graph) → graph_of pages header ≡ Ok graph
    → AllByRecursion (CarLeads (images_of graph.cars)) (images_of graph.cars) × AllByRecursion (RootLeads (images_of graph.cars)) (entries_of graph.catalog)
unfolding graph_of
graph_leads pages header graph is =
    let one = bind_ok (catalog_of pages header) _ graph is in
    let two = bind_ok (cars_from (most_fields header.version) header.next pages set.empty (entries_of one.0)) _ graph one.2 in
    let three = bind_ok (linked (images_of two.0) (sites_of one.0 two.0)) _ graph two.2 in
    let made : Graph = record { catalog = one.0; cars = two.0 } in
    subst (λ (g : Graph). AllByRecursion (CarLeads (images_of g.cars)) (images_of g.cars) × AllByRecursion (RootLeads (images_of g.cars)) (entries_of g.catalog)) (ok_same made graph three.2)
    (linked_leads one.0 two.0 three.0 three.1)
