-- The plan of a copy once each of its cars stands on a page.
use Rattle.std.proofs.Common.{◌≡◌, ⊎_elim, ℕ, ◌+◌, ◌<◌, ◌^◌, Bool, true, false, ◌==◌, ◌||◌, nat_le, List, [], ◌∷◌, ◌++◌, length, map, Option, Some, None, refl, sym, ap, subst, ◌∙◌, arith}
use Rattle.std.specs.Prelude.{IfSome, IsSome, slice_index_or}
use Rattle.std.specs.List.{AllByRecursion, flat_map}
use Rattle.std.specs.FinSet as set
use Rattle.std.proofs.lemmas.Bool.{leb-false}
use Rattle.std.proofs.lemmas.List.Elements.{Contains-get_or}
use Rattle.pm_types.specs.declared.address.Addr.{Addr}
use Rattle.pm_types.specs.declared.limits.TheConstants.{FIELDS}
use Rattle.pm_types.specs.declared.object.Slot.{Slot}
use Rattle.pm_types.specs.declared.object.Slot.TheVariants.{Live, Moved}
use Rattle.pm_layout.specs.Spelling.{HasSpelling, IsAddress, IsInRange, IsWithinLimits}
use Rattle.pm_image.specs.declared.catalog_kind.TheConstants.{CAR_ENTRY_BYTES}
use Rattle.pm_image.specs.declared.car.CarImage.{CarImage}
use Rattle.pm_image.specs.declared.catalog.CatEntry.{CatEntry}
use Rattle.pm_image.specs.declared.settled.KeptPage.{KeptPage}
use Rattle.pm_image.specs.CarAnswers.{IsCarInRange}
use Rattle.pm_image.specs.CarPages.{AreFree, Ascend, HasCarPage, Numbers, is_taken, one_car}
use Rattle.pm_image.specs.CatalogPages.{entry_size}
use Rattle.pm_image.specs.Graphs.{identity_in, identity_through, slot_named}
use Rattle.pm_image.specs.Leading.{CarLeads, FieldLeads, SlotLeads}
use Rattle.pm_view.specs.View.{Cars}
use Rattle.pm_copies.specs.Listed.{Listed, images}
use Rattle.pm_copies.specs.Accepted.{IsAccepted, IsAcceptedCar}
use Rattle.pm_law_copies.proofs.Naming.{all_in_cars, all_named, slot_lies}
use Rattle.pm_law_copies.proofs.Pages.{are_written}
use Rattle.pm_law_copies.proofs.GraphsLemmas.Lists.{all_follow}
use Rattle.pm_law_copies.proofs.GraphsLemmas.Sets.{once}
use Rattle.pm_copies.specs.Plans.{CarInTrain, PlannedTrain, car_entry, cars_in, cars_of_train, in_list as listed_in_plan, planned_entries, planned_list}
use Rattle.pm_copies.specs.Laid.{HasFewFields, IsStorePlan}
use Rattle.pm_copies.specs.Writing.{MayBeWritten}
use Rattle.pm_law_copies.proofs.LayoutLemmas.Planned.{kept_of}
use Rattle.pm_law_copies.proofs.LayoutLemmas.Sizes.{count_by_sizes}
use Rattle.pm_law_copies.proofs.LayoutLemmas.Written.{plan_parts}
use Rattle.pm_saving.specs.Progress.{Place, Clean, Unwritten, Written, PlacedCar, Progress, cars_plan, catalog_len, draft_entry, image_of, in_list, list_of, page_in, parts_of, planned, roots_of}
use Rattle.pm_saving.specs.Paging.{NextPage, is_unwritten, next_page, unwritten}
use Rattle.pm_saving.specs.Beginning.{IsCarNumbered, IsInProgress, StandsAs}
use Rattle.pm_saving.specs.Tied.{HasPage}
use Rattle.pm_law_saving.proofs.Members.{all_map, of_member}
use Rattle.pm_law_saving.proofs.Next.{IsCarNext, IsPartNext, is_first, which_next}

-- ---- the cars of the plan

-- what a car on a page is in the plan, where it is of this train
abbrev planned_at : ℕ → Place → List PlannedTrain
planned_at train place = map (λ (kept : KeptPage). record { number = train; cars = kept ∷ [] }) (page_in place)

-- the cars of a plan with those of one car before them
abbrev before : ℕ → Place → List PlannedTrain → List CarInTrain
before train place trains = flat_map cars_of_train (planned_at train place ++ trains)

-- the page of a car that stands on one holds that car
pub page_holds : (settled : List KeptPage) (image : CarImage) (place : Place) → StandsAs settled image place → is_unwritten place ≡ false → (kept : KeptPage) × (page_in place ≡ kept ∷ []) × (kept.image ≡ image)
page_holds settled image (Clean kept) stands on = (kept, refl, stands.1)
page_holds settled image Unwritten stands on = absurd cc
page_holds settled image (Written kept) stands on = (kept, refl, ap (λ (kept : KeptPage). kept.image) stands)

on_page : (b : Bool) (n : ℕ) → once b + n ≡ 0 → b ≡ false
on_page true n is = absurd (omega (arith, is))
on_page false n is = refl

-- each with its page
pub cars_paged : (placed : List PlacedCar) → map (λ (one : CarInTrain). one.1) (flat_map cars_of_train (flat_map planned placed)) ≡ flat_map (λ (one : PlacedCar). page_in one.place) placed
cars_paged [] = refl
cars_paged (one ∷ placed) = by one.place (cars_paged placed)
  where
    by : (place : Place) → map (λ (one : CarInTrain). one.1) (flat_map cars_of_train (flat_map planned placed)) ≡ flat_map (λ (one : PlacedCar). page_in one.place) placed
        → map (λ (one : CarInTrain). one.1) (flat_map cars_of_train (planned_at one.train place ++ flat_map planned placed)) ≡ page_in place ++ flat_map (λ (one : PlacedCar). page_in one.place) placed
    by (Clean kept) rest = ap (λ (pages : List KeptPage). kept ∷ pages) rest
    by Unwritten rest = rest
    by (Written kept) rest = ap (λ (pages : List KeptPage). kept ∷ pages) rest

module _ (settled : List KeptPage) (cars : Cars) where
  abbrev Stand : List PlacedCar → Type 0
  Stand placed = AllByRecursion (λ (one : PlacedCar). StandsAs settled (image_of cars one) one.place) placed

  -- the cars of the plan are those of the copy, in its order
  pub cars_same : (placed : List PlacedCar) → Stand placed → unwritten placed ≡ 0 → map listed_in_plan (flat_map cars_of_train (flat_map planned placed)) ≡ map (in_list cars) placed
  cars_same [] stand none = refl
  cars_same (one ∷ placed) stand none =
      let here = page_holds settled (image_of cars one) one.place stand.0 (on_page (is_unwritten one.place) (unwritten placed) none) in
      let rest = cars_same placed stand.1 (omega (arith, none)) in
      ap (λ (pages : List KeptPage). map listed_in_plan (flat_map cars_of_train (map (λ (kept : KeptPage). record { number = one.train; cars = kept ∷ [] }) pages ++ flat_map planned placed))) here.1
      ∙ (λ i. (one.train, here.2 i) ∷ rest i)

  -- and their entries have the size of those before pages were known
  sizes_same : (placed : List PlacedCar) (roots : List CatEntry) → Stand placed → unwritten placed ≡ 0
      → map entry_size (map car_entry (flat_map cars_of_train (flat_map planned placed)) ++ roots) ≡ map entry_size (map draft_entry placed ++ roots)
  sizes_same [] roots stand none = refl
  sizes_same (one ∷ placed) roots stand none =
      let here = page_holds settled (image_of cars one) one.place stand.0 (on_page (is_unwritten one.place) (unwritten placed) none) in
      let rest = sizes_same placed roots stand.1 (omega (arith, none)) in
      ap (λ (pages : List KeptPage). map entry_size (map car_entry (flat_map cars_of_train (map (λ (kept : KeptPage). record { number = one.train; cars = kept ∷ [] }) pages ++ flat_map planned placed)) ++ roots)) here.1
      ∙ ap (λ (sizes : List ℕ). CAR_ENTRY_BYTES ∷ sizes) rest

  pub parts_count : (progress : Progress) → IsInProgress settled cars progress → unwritten progress.cars ≡ 0 → length (parts_of progress) ≡ catalog_len progress
  parts_count progress copy none =
      count_by_sizes (planned_entries (cars_plan progress)) (map draft_entry progress.cars ++ roots_of progress) (sizes_same progress.cars (roots_of progress) copy.stand none)

-- ---- its numbers are such as the types hold

below_taken : (next : ℕ) (met : Numbers) (id : ℕ) → is_taken next met id ≡ false → id < next
below_taken next met id is = by (id == 0) (nat_le next id) refl is
  where
    by : (zero_ most : Bool) → nat_le next id ≡ most → (zero_ || (most || set.contains met id)) ≡ false → id < next
    by true most there is = absurd cc
    by false true there is = absurd cc
    by false false there is = leb-false next id there

-- a slot that an address names has a number that the types hold, and so has its car
abbrev IsNamed : List CarImage → Type 0
IsNamed listed = (a : Addr) (slot : Slot) → slot_named listed a ≡ Some slot → IsAddress a

through_named : (listed : List CarImage) (slot : Option Slot) → IsSome (identity_through listed slot) → (found : Slot) × (slot ≡ Some found)
through_named listed None is = absurd (cc is)
through_named listed (Some slot) is = (slot, refl)

identity_named : (slot : Option Slot) → IsSome (identity_in slot) → (found : Slot) × (slot ≡ Some found)
identity_named None is = absurd (cc is)
identity_named (Some slot) is = (slot, refl)

fields_in_range : (listed : List CarImage) (fields : List (Option Addr)) → IsNamed listed → AllByRecursion (FieldLeads listed) fields → AllByRecursion (λ (field : Option Addr). IfSome field IsAddress) fields
fields_in_range listed [] named lead = tt
fields_in_range listed (None ∷ fields) named lead = (tt, fields_in_range listed fields named lead.1)
fields_in_range listed (Some at ∷ fields) named lead =
    let found = through_named listed (slot_named listed at) lead.0 in
    (named at found.0 found.1, fields_in_range listed fields named lead.1)

slots_in_range : (listed : List CarImage) (met : Numbers) (slots : List (ℕ × Slot)) → IsNamed listed → AreFree 4294967296 met slots → AllByRecursion (λ (entry : ℕ × Slot). SlotLeads listed entry.1) slots
    → AllByRecursion (λ (entry : ℕ × Slot). IsInRange entry.1) slots
slots_in_range listed met [] named free lead = tt
slots_in_range listed met ((number, Live object) ∷ slots) named free lead =
    let below = below_taken 4294967296 met object.id free.0 in
    ((omega (arith, below), fields_in_range listed object.fields named lead.0), slots_in_range listed (set.insert met object.id) slots named free.1 lead.1)
slots_in_range listed met ((number, Moved to) ∷ slots) named free lead =
    let found = identity_named (slot_named listed to) lead.0 in
    (named to found.0 found.1, slots_in_range listed met slots named free lead.1)

low_slots : (least : ℕ) (slots : List (ℕ × Slot)) → Ascend least slots → AllByRecursion (λ (entry : ℕ × Slot). entry.0 < 2 ^ 32) slots
low_slots least [] ascend = tt
low_slots least ((number, slot) ∷ slots) ascend = (let low = ascend.1 in omega (arith, low), low_slots (number + 1) slots ascend.2)

module _ (cars : Cars) (progress : Progress) where
  -- what holds of each car that is listed
  each_image : (P : CarImage → Type 0) → AllByRecursion P (images (list_of cars progress)) → AllByRecursion (λ (one : PlacedCar). P (image_of cars one)) progress.cars
  each_image P all = all_map (λ (listed : Listed). P listed.1) (in_list cars) progress.cars (all_map P (λ (listed : Listed). listed.1) (list_of cars progress) all)

  image_each : (P : CarImage → Type 0) (placed : List PlacedCar) → AllByRecursion (λ (one : PlacedCar). P (image_of cars one)) placed → AllByRecursion P (images (map (in_list cars) placed))
  image_each P [] all = tt
  image_each P (one ∷ placed) all = (all.0, image_each P placed all.1)

  all_addresses : (settled : List KeptPage) → IsInProgress settled cars progress → IsNamed (images (list_of cars progress))
  all_addresses settled copy a slot is =
      let listed = images (list_of cars progress) in
      let small = image_each (λ (car : CarImage). car.number < 2 ^ 64) progress.cars (all_follow IsCarNumbered (λ (one : PlacedCar). one.number < 2 ^ 64) progress.cars (λ one is. is.number) copy.numbered) in
      let low = all_follow IsAcceptedCar (λ (car : CarImage). AllByRecursion (λ (entry : ℕ × Slot). entry.0 < 2 ^ 32) car.slots) listed (λ car is. low_slots 0 car.slots is.ascend) copy.accepted.cars in
      let lies = slot_lies listed a slot is in
      record {
        car = all_in_cars (λ (car : CarImage). car.number < 2 ^ 64) listed a.car lies.0 small lies.1;
        slot = all_named (λ (entry : ℕ × Slot). entry.0 < 2 ^ 32) listed a slot low is;
      }

  pub images_in_range : (settled : List KeptPage) → IsInProgress settled cars progress → AllByRecursion (λ (one : PlacedCar). IsCarInRange (image_of cars one)) progress.cars
  images_in_range settled copy =
      let listed = images (list_of cars progress) in
      let named = all_addresses settled copy in
      let pages = each_image (HasCarPage (one_car FIELDS) set.empty) (are_written (list_of cars progress) (roots_of progress) progress.next_id copy.accepted) in
      let lead = each_image (CarLeads listed) copy.accepted.lead in
      by progress.cars pages lead copy.numbered
    where
      by : (placed : List PlacedCar) → AllByRecursion (λ (one : PlacedCar). HasCarPage (one_car FIELDS) set.empty (image_of cars one)) placed → AllByRecursion (λ (one : PlacedCar). CarLeads (images (list_of cars progress)) (image_of cars one)) placed
          → AllByRecursion IsCarNumbered placed → AllByRecursion (λ (one : PlacedCar). IsCarInRange (image_of cars one)) placed
      by [] pages lead numbered = tt
      by (one ∷ placed) pages lead numbered =
          (record { number = numbered.0.number; slots = slots_in_range (images (list_of cars progress)) set.empty (image_of cars one).slots (all_addresses settled copy) pages.0.free lead.0 }, by placed pages.1 lead.1 numbered.1)

-- ---- the plan is one of a store

few_fields : (planned : List CarInTrain) → AllByRecursion IsAcceptedCar (images (map listed_in_plan planned)) → AllByRecursion (HasFewFields FIELDS) (kept_of planned)
few_fields [] are = tt
few_fields (car ∷ planned) are =
    (all_follow (λ (entry : ℕ × Slot). HasSpelling FIELDS entry.1) (λ (entry : ℕ × Slot). IsWithinLimits FIELDS entry.1) car.1.image.slots (λ entry has. has.within) are.0.slots, few_fields planned are.1)

pages_in_range : (planned : List CarInTrain) → AllByRecursion IsCarInRange (images (map listed_in_plan planned)) → AllByRecursion (λ (kept : KeptPage). IsCarInRange kept.image) (kept_of planned)
pages_in_range [] are = tt
pages_in_range (car ∷ planned) are = (are.0, pages_in_range planned are.1)

trains_in_range : (planned : List CarInTrain) → AllByRecursion (λ (listed : Listed). listed.0 < 2 ^ 64) (map listed_in_plan planned) → AllByRecursion (λ (one : CarInTrain). one.0 < 2 ^ 64) planned
trains_in_range [] are = tt
trains_in_range (car ∷ planned) are = (are.0, trains_in_range planned are.1)

listed_trains : (cars : Cars) (placed : List PlacedCar) → AllByRecursion IsCarNumbered placed → AllByRecursion (λ (listed : Listed). listed.0 < 2 ^ 64) (map (in_list cars) placed)
listed_trains cars [] numbered = tt
listed_trains cars (one ∷ placed) numbered = (numbered.0.train, listed_trains cars placed numbered.1)

pub copy_of_store : (settled : List KeptPage) (cars : Cars) (progress : Progress) → IsInProgress settled cars progress → unwritten progress.cars ≡ 0 → IsStorePlan progress.next_id FIELDS (cars_plan progress)
copy_of_store settled cars progress copy none =
    let plan = cars_plan progress in
    let same : planned_list plan ≡ list_of cars progress = cars_same settled cars progress.cars copy.stand none in
    let accepted : IsAccepted (planned_list plan) (roots_of progress) progress.next_id = subst (λ (list : List Listed). IsAccepted list (roots_of progress) progress.next_id) (sym same) copy.accepted in
    record {
      accepted = accepted;
      fields = few_fields (cars_in plan) accepted.cars;
      in_range = record {
        names = copy.names;
        cars = pages_in_range (cars_in plan) (subst (λ (list : List Listed). AllByRecursion IsCarInRange (images list)) (sym same) (image_each cars progress IsCarInRange progress.cars (images_in_range cars progress settled copy)));
        trains = trains_in_range (cars_in plan) (subst (AllByRecursion (λ (listed : Listed). listed.0 < 2 ^ 64)) (sym same) (listed_trains cars progress.cars copy.numbered));
      };
    }

-- ---- each page may be written

at_index : {A : Type 0} (P : A → Type 0) (xs : List A) (i : ℕ) (d : A) → AllByRecursion P xs → i < length xs → P (slice_index_or xs i d)
at_index P xs i d all below = of_member P xs (slice_index_or xs i d) all (Contains-get_or xs i d below)

pub next_has_page : (settled : List KeptPage) (cars : Cars) (progress : Progress) (next : NextPage) → IsInProgress settled cars progress → next_page cars progress ≡ Some next → HasPage next
next_has_page settled cars progress next copy is =
    ⊎_elim
    (λ (car : IsCarNext cars progress next).
    let pages = each_image cars progress (HasCarPage (one_car FIELDS) set.empty) (are_written (list_of cars progress) (roots_of progress) progress.next_id copy.accepted) in
    subst HasPage car.same (of_member (λ (one : PlacedCar). HasCarPage (one_car FIELDS) set.empty (image_of cars one)) progress.cars car.one pages (is_first progress.cars car.one car.first)))
    (λ (part : IsPartNext progress next).
    let some = part.some in
    let count = parts_count settled cars progress copy part.placed in
    subst HasPage part.same
    (at_index MayBeWritten (parts_of progress) part.before [] (plan_parts progress.next_id FIELDS (cars_plan progress) (copy_of_store settled cars progress copy part.placed)) (omega (arith, some, count))))
    (which_next cars progress next is)
