-- Lists that are gone through, each element with the addresses that stand at its place.
use Rattle.std.proofs.Common.{◌≡◌, ℕ, ◌+◌, ◌≤◌, true, false, List, [], ◌∷◌, ◌++◌, length, drop, Option, Some, None, Ok, Err, refl, ap, ◌∙◌, arith, if◌then◌else◌}
use Rattle.std.proofs.Math.ListN.{drop_of_length-le}
use Rattle.std.specs.List.{flat_map, AllByRecursion}
use Rattle.pm_types.specs.declared.limits.TheConstants.{FIELDS, CAR_HEAD_BYTES}
use Rattle.pm_types.specs.declared.address.Addr.{Addr}
use Rattle.pm_types.specs.declared.fault.OpenFault.{OpenFault}
use Rattle.pm_types.specs.declared.fault.OpenFault.TheVariants.{Malformed}
use Rattle.pm_types.specs.declared.object.Slot.{Slot}
use Rattle.pm_types.specs.declared.object.Slot.TheVariants.{Live, Moved}
use Rattle.pm_layout.specs.Spelling.{slot_size, HasSpelling, IsWithinLimits}
use Rattle.pm_image.specs.declared.catalog_kind.TheConstants.{ENTRIES, ROOT_ENTRY_BYTES}
use Rattle.pm_image.specs.declared.catalog.CatEntry.{CatEntry}
use Rattle.pm_image.specs.declared.catalog.CatEntry.TheVariants.{Car, Root}
use Rattle.pm_image.specs.declared.settled.KeptPage.{KeptPage}
use Rattle.pm_image.specs.CarPages.{car_used}
use Rattle.pm_image.specs.CatalogPages.{catalog_used, entry_size}
use Rattle.pm_image.specs.Graphs.{Site, field_sites, slot_sites, record_sites, root_sites}
use Rattle.pm_graphs.specs.declared.fault.Place.{Place}
use Rattle.pm_graphs.specs.Linking.{Leads, may_name, linked_by}
use Rattle.pm_graphs.specs.Reading.{IsCar, IsMeasured}

-- ---- addresses one behind another

pub both_linked : (leads : Leads) (xs ys : List Site) → linked_by leads xs ≡ Ok tt → linked_by leads (xs ++ ys) ≡ linked_by leads ys
unfolding linked_by
both_linked leads [] ys is = refl
both_linked leads (site ∷ xs) ys is =
    elim (may_name leads site.to site.to_live) as (λ b. (if b then linked_by leads xs else Err (Malformed site.page site.at)) ≡ Ok tt → (if b then linked_by leads (xs ++ ys) else Err (Malformed site.page site.at)) ≡ linked_by leads ys) [
      | true ↦ λ rest. both_linked leads xs ys rest
      | false ↦ λ never. cc never
    ] is

pub front_fails : (leads : Leads) (xs ys : List Site) (fault : OpenFault) → linked_by leads xs ≡ Err fault → linked_by leads (xs ++ ys) ≡ Err fault
unfolding linked_by
front_fails leads [] ys fault is = cc
front_fails leads (site ∷ xs) ys fault is =
    elim (may_name leads site.to site.to_live) as (λ b. (if b then linked_by leads xs else Err (Malformed site.page site.at)) ≡ Err fault → (if b then linked_by leads (xs ++ ys) else Err (Malformed site.page site.at)) ≡ Err fault) [
      | true ↦ λ rest. front_fails leads xs ys fault rest
      | false ↦ λ here. here
    ] is

module _ {A : Type 0} (leads : Leads) (sites : ℕ → List A → List Site) (one : ℕ → A → List Site) (size : A → ℕ) (step : (place : ℕ) (x : A) (xs : List A) → sites place (x ∷ xs) ≡ one place x ++ sites (place + size x) xs)
    (none : (place : ℕ) → sites place [] ≡ []) (all : List A) (start place i : ℕ) (so_far : linked_by leads (sites start all) ≡ linked_by leads (sites place (drop i all))) where
  parts : (x : A) → drop i all ≡ x ∷ drop (i + 1) all → linked_by leads (sites start all) ≡ linked_by leads (one place x ++ sites (place + size x) (drop (i + 1) all))
  parts x here = so_far ∙ ap (λ (xs : List A). linked_by leads (sites place xs)) here ∙ ap (linked_by leads) (step place x (drop (i + 1) all))

  -- one element more was gone through
  pub walk_on : (x : A) → drop i all ≡ x ∷ drop (i + 1) all → linked_by leads (one place x) ≡ Ok tt → linked_by leads (sites start all) ≡ linked_by leads (sites (place + size x) (drop (i + 1) all))
  walk_on x here is = parts x here ∙ both_linked leads (one place x) (sites (place + size x) (drop (i + 1) all)) is

  -- an element is at fault
  pub walk_stop : (x : A) (fault : OpenFault) → drop i all ≡ x ∷ drop (i + 1) all → linked_by leads (one place x) ≡ Err fault → linked_by leads (sites start all) ≡ Err fault
  walk_stop x fault here is = parts x here ∙ front_fails leads (one place x) (sites (place + size x) (drop (i + 1) all)) fault is

  -- all were gone through
  pub walk_done : length all ≤ i → linked_by leads (sites start all) ≡ Ok tt
  unfolding linked_by
  walk_done le = so_far ∙ ap (λ (xs : List A). linked_by leads (sites place xs)) (drop_of_length-le all le) ∙ ap (linked_by leads) (none place)

-- ---- what is gone through

-- a field
abbrev pub field_at : ℕ → ℕ → Option Addr → List Site
field_at page place field = field_sites page place (field ∷ [])

abbrev pub field_size : Option Addr → ℕ
field_size field = 12

pub field_step : (page place : ℕ) (x : Option Addr) (xs : List (Option Addr)) → field_sites page place (x ∷ xs) ≡ field_at page place x ++ field_sites page (place + field_size x) xs
field_step page place None xs = refl
field_step page place (Some to) xs = refl

pub field_none : (page place : ℕ) → field_sites page place [] ≡ []
field_none page place = refl

-- a record
abbrev pub record_at : ℕ → ℕ → ℕ × Slot → List Site
record_at page place entry = slot_sites page place entry.1

abbrev pub record_size : ℕ × Slot → ℕ
record_size entry = 4 + slot_size entry.1

pub record_step : (page place : ℕ) (x : ℕ × Slot) (xs : List (ℕ × Slot)) → record_sites page place (x ∷ xs) ≡ record_at page place x ++ record_sites page (place + record_size x) xs
record_step page place x xs =
    let same : place + 4 + slot_size x.1 ≡ place + (4 + slot_size x.1) = omega arith in
    ap (λ (k : ℕ). slot_sites page place x.1 ++ record_sites page k xs) same

pub record_none : (page place : ℕ) → record_sites page place [] ≡ []
record_none page place = refl

-- an entry
abbrev pub root_at : ℕ → ℕ → CatEntry → List Site
root_at page place entry = root_sites page place (entry ∷ [])

pub root_step : (page place : ℕ) (x : CatEntry) (xs : List CatEntry) → root_sites page place (x ∷ xs) ≡ root_at page place x ++ root_sites page (place + entry_size x) xs
root_step page place (Car car train at digest) xs = refl
root_step page place (Root name to) xs =
    let same : place + ROOT_ENTRY_BYTES + length name ≡ place + (ROOT_ENTRY_BYTES + length name) = omega arith in
    ap (λ (k : ℕ). record { page = page; at = place + 2 + length name; to = to; to_live = false } ∷ root_sites page k xs) same

pub root_none : (page place : ℕ) → root_sites page place [] ≡ []
root_none page place = refl

-- lists of lists, which stand at no place
abbrev pub listed : {A : Type 0} → (A → List Site) → ℕ → List A → List Site
listed one place xs = flat_map one xs

abbrev pub listed_one : {A : Type 0} → (A → List Site) → ℕ → A → List Site
listed_one one place x = one x

abbrev pub no_size : {A : Type 0} → A → ℕ
no_size x = 0

pub listed_step : {A : Type 0} (one : A → List Site) (place : ℕ) (x : A) (xs : List A) → listed one place (x ∷ xs) ≡ listed_one one place x ++ listed one (place + no_size x) xs
listed_step one place x xs = refl

pub listed_none : {A : Type 0} (one : A → List Site) (place : ℕ) → listed one place [] ≡ []
listed_none one place = refl

-- ---- where they stand

pub used_records : (slots : List (ℕ × Slot)) → CAR_HEAD_BYTES ≤ car_used slots
used_records [] = omega arith
used_records ((number, slot) ∷ slots) = let rest = used_records slots in omega (arith, rest)

pub used_entries : (entries : List CatEntry) → ENTRIES ≤ catalog_used entries
used_entries [] = omega arith
used_entries (entry ∷ entries) = let rest = used_entries entries in omega (arith, rest)

within_limits : (most : ℕ) (slot : Slot) → most ≤ FIELDS → HasSpelling most slot → IsWithinLimits FIELDS slot
within_limits most (Live object) few has = let fields = has.within.0 in (omega arith, has.within.1)
within_limits most (Moved to) few has = tt

all_within : (most : ℕ) (slots : List (ℕ × Slot)) → most ≤ FIELDS → AllByRecursion (λ (entry : ℕ × Slot). HasSpelling most entry.1) slots → AllByRecursion (λ (entry : ℕ × Slot). IsWithinLimits FIELDS entry.1) slots
all_within most [] few has = tt
all_within most (entry ∷ slots) few has = (within_limits most entry.1 few has.0, all_within most slots few has.1)

pub all_measured : (count next : ℕ) (cars : List KeptPage) → AllByRecursion (IsCar count next) cars → AllByRecursion IsMeasured cars
all_measured count next [] are = tt
all_measured count next (kept ∷ cars) are =
    (record { ascend = are.0.has.ascend; fits = are.0.has.fits; within = all_within are.0.most kept.image.slots are.0.few are.0.has.slots }, all_measured count next cars are.1)

-- the fault of an address at this place
abbrev pub led_place : Place → OpenFault
led_place place = Malformed place.page place.at
