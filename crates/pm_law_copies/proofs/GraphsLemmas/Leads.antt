-- Where each address of a graph leads to an object, none is at fault.
use Rattle.std.proofs.Common.{◌≡◌, ℕ, ◌+◌, Bool, true, List, [], ◌∷◌, length, Option, Some, None, is_some, Ok, Err, refl, ap, ◌∙◌, if◌then◌else◌}
use Rattle.std.specs.List.{flat_map, AllByRecursion}
use Rattle.pm_types.specs.declared.limits.TheConstants.{CAR_HEAD_BYTES}
use Rattle.pm_types.specs.declared.address.Addr.{Addr}
use Rattle.pm_types.specs.declared.fault.OpenFault.TheVariants.{Malformed}
use Rattle.pm_types.specs.declared.object.Slot.{Slot}
use Rattle.pm_types.specs.declared.object.Slot.TheVariants.{Live, Moved}
use Rattle.pm_layout.specs.Spelling.{slot_size}
use Rattle.pm_image.specs.declared.catalog_kind.TheConstants.{ENTRIES, CAR_ENTRY_BYTES, ROOT_ENTRY_BYTES}
use Rattle.pm_image.specs.declared.catalog.CatEntry.{CatEntry}
use Rattle.pm_image.specs.declared.catalog.CatEntry.TheVariants.{Car, Root}
use Rattle.pm_image.specs.declared.catalog.CatalogPage.{CatalogPage}
use Rattle.pm_image.specs.declared.car.CarImage.{CarImage}
use Rattle.pm_image.specs.declared.settled.KeptPage.{KeptPage}
use Rattle.pm_image.specs.Leading.{CarLeads, FieldLeads, RootLeads, SlotLeads}
use Rattle.pm_image.specs.Graphs.{Catalog, Site, entries_of, field_sites, identity_in, identity_through, images_of, is_live, leads, linked, record_sites, root_sites, sites_of, slot_named, slot_sites}
use Rattle.pm_law_copies.proofs.GraphsLemmas.Lists.{all_back, all_both, all_front}

abbrev Leads : List CarImage → Site → Type 0
Leads cars site = leads cars site ≡ true

linked_again : (cars : List CarImage) (sites : List Site) → AllByRecursion (Leads cars) sites → linked cars sites ≡ Ok tt
unfolding linked
linked_again cars [] all = refl
linked_again cars (site ∷ sites) all =
    ap (λ (b : Bool). if b then linked cars sites else Err (Malformed site.page site.at)) all.0 ∙ linked_again cars sites all.1

through_some : (cars : List CarImage) (found : Option Slot) → is_some (identity_through cars found) ≡ true → is_some found ≡ true
through_some cars None is = is
through_some cars (Some slot) is = refl

live_some : (found : Option Slot) → is_some (identity_in found) ≡ true → is_live found ≡ true
live_some None is = is
live_some (Some (Live object)) is = refl
live_some (Some (Moved to)) is = is

module _ (cars : List CarImage) where
  field_sites_lead : (page place : ℕ) (fields : List (Option Addr)) → AllByRecursion (FieldLeads cars) fields → AllByRecursion (Leads cars) (field_sites page place fields)
  field_sites_lead page place [] all = tt
  field_sites_lead page place (None ∷ fields) all = field_sites_lead page (place + 12) fields all.1
  field_sites_lead page place (Some at ∷ fields) all = (through_some cars (slot_named cars at) all.0, field_sites_lead page (place + 12) fields all.1)

  slot_sites_lead : (page place : ℕ) (slot : Slot) → SlotLeads cars slot → AllByRecursion (Leads cars) (slot_sites page place slot)
  slot_sites_lead page place (Live object) all = field_sites_lead page (place + 17) object.fields all
  slot_sites_lead page place (Moved to) all = (live_some (slot_named cars to) all, tt)

  record_sites_lead : (page place : ℕ) (slots : List (ℕ × Slot)) → AllByRecursion (λ (entry : ℕ × Slot). SlotLeads cars entry.1) slots → AllByRecursion (Leads cars) (record_sites page place slots)
  record_sites_lead page place [] all = tt
  record_sites_lead page place (first ∷ slots) all =
      all_both (Leads cars) (slot_sites page place first.1) (record_sites page (place + 4 + slot_size first.1) slots) (slot_sites_lead page place first.1 all.0) (record_sites_lead page (place + 4 + slot_size first.1) slots all.1)

  car_sites_lead : (these : List KeptPage) → AllByRecursion (CarLeads cars) (images_of these) → AllByRecursion (Leads cars) (flat_map (λ (kept : KeptPage). record_sites kept.page CAR_HEAD_BYTES kept.image.slots) these)
  car_sites_lead [] all = tt
  car_sites_lead (kept ∷ these) all =
      all_both (Leads cars) (record_sites kept.page CAR_HEAD_BYTES kept.image.slots) (flat_map (λ (kept : KeptPage). record_sites kept.page CAR_HEAD_BYTES kept.image.slots) these) (record_sites_lead kept.page CAR_HEAD_BYTES kept.image.slots all.0) (car_sites_lead these all.1)

  root_sites_lead : (page place : ℕ) (entries : List CatEntry) → AllByRecursion (RootLeads cars) entries → AllByRecursion (Leads cars) (root_sites page place entries)
  root_sites_lead page place [] all = tt
  root_sites_lead page place (Car car train at digest ∷ entries) all = root_sites_lead page (place + CAR_ENTRY_BYTES) entries all.1
  root_sites_lead page place (Root name to ∷ entries) all = (through_some cars (slot_named cars to) all.0, root_sites_lead page (place + ROOT_ENTRY_BYTES + length name) entries all.1)

  catalog_sites_lead : (catalog : Catalog) → AllByRecursion (RootLeads cars) (entries_of catalog) → AllByRecursion (Leads cars) (flat_map (λ (page : ℕ × CatalogPage). root_sites page.0 ENTRIES page.1.entries) catalog)
  catalog_sites_lead [] all = tt
  catalog_sites_lead (page ∷ catalog) all =
      all_both (Leads cars) (root_sites page.0 ENTRIES page.1.entries) (flat_map (λ (page : ℕ × CatalogPage). root_sites page.0 ENTRIES page.1.entries) catalog)
      (root_sites_lead page.0 ENTRIES page.1.entries (all_front (RootLeads cars) page.1.entries (entries_of catalog) all)) (catalog_sites_lead catalog (all_back (RootLeads cars) page.1.entries (entries_of catalog) all))

-- where each address leads to an object, none is at fault
pub all_linked : (catalog : Catalog) (kept : List KeptPage) → AllByRecursion (CarLeads (images_of kept)) (images_of kept) → AllByRecursion (RootLeads (images_of kept)) (entries_of catalog) → linked (images_of kept) (sites_of catalog kept) ≡ Ok tt
all_linked catalog kept of_cars of_roots =
    let cars = images_of kept in
    linked_again cars (sites_of catalog kept) (all_both (Leads cars) (flat_map (λ (kept : KeptPage). record_sites kept.page CAR_HEAD_BYTES kept.image.slots) kept) (flat_map (λ (page : ℕ × CatalogPage). root_sites page.0 ENTRIES page.1.entries) catalog)
    (car_sites_lead cars kept of_cars) (catalog_sites_lead cars catalog of_roots))
