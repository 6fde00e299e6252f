-- The entries of a plan that is one of a store are in order and in range.
use Rattle.std.proofs.Common.{◌≡◌, ℕ, ◌+◌, ◌<◌, ◌≤◌, ◌^◌, ◌==◌, Bool, true, false, is_some, List, [], ◌∷◌, ◌++◌, length, map, Option, Some, None, refl, sym, ap, subst, arith, if◌then◌else◌}
use Rattle.std.specs.List.{AllByRecursion}
use Rattle.std.proofs.lemmas.Bool.{eqb-true}
use Rattle.std.proofs.lemmas.List.{length-map}
use Rattle.pm_types.specs.declared.address.Addr.{Addr}
use Rattle.pm_types.specs.declared.limits.TheConstants.{ROOTS, LAST_SLOT}
use Rattle.pm_types.specs.declared.object.Slot.{Slot}
use Rattle.pm_types.specs.Names.{IsName}
use Rattle.pm_layout.specs.Spelling.{IsAddress}
use Rattle.pm_image.specs.declared.car.CarImage.{CarImage}
use Rattle.pm_image.specs.declared.catalog.CatEntry.{CatEntry}
use Rattle.pm_image.specs.declared.settled.KeptPage.{KeptPage}
use Rattle.pm_image.specs.CarAnswers.{IsCarInRange}
use Rattle.pm_image.specs.CarPages.{Ascend}
use Rattle.pm_image.specs.CatalogPages.{IsEntryInRange}
use Rattle.pm_image.specs.Graphs.{identity_through, slot_in, slot_named}
use Rattle.pm_image.specs.Leading.{RootLeads}
use Rattle.pm_copies.specs.Listed.{Listed, images}
use Rattle.pm_copies.specs.Accepted.{Differ, IsAcceptedCar, NamesAscend, NeverFall, roots_in}
use Rattle.pm_law_copies.proofs.Naming.{all_in_cars, slot_lies}
use Rattle.pm_copies.specs.Apart.{AreApart, Follow, Neighbours, times}
use Rattle.pm_copies.specs.Entries.{AreInOrder, CarsComeFirst, ComesBefore, IsNoYounger, ListedCar, listed_addresses, listed_cars, listed_names, listed_numbers, listed_trains}
use Rattle.pm_copies.specs.Spelled.{listed_as}
use Rattle.pm_law_copies.proofs.GraphsLemmas.Lists.{all_both}
use Rattle.pm_copies.specs.Plans.{CarInTrain, CarPlan, car_entry, cars_in, in_list, planned_entries, root_entry}
use Rattle.pm_copies.specs.Laid.{IsStorePlan}
use Rattle.pm_law_copies.proofs.LayoutLemmas.Planned.{kept_of}

-- a name with its address
abbrev pub Named : Type 0
Named = List ℕ × Addr

-- the entries of cars and roots
abbrev pub entries_for : List CarInTrain → List Named → List CatEntry
entries_for cars roots = map car_entry cars ++ map root_entry roots

-- ---- what the entries list

no_cars : (roots : List Named) → listed_cars (map root_entry roots) ≡ []
no_cars [] = refl
no_cars (root ∷ roots) = no_cars roots

pub cars_listed : (cars : List CarInTrain) (roots : List Named) → map listed_as (kept_of cars) ≡ listed_cars (entries_for cars roots)
cars_listed [] roots = sym (no_cars roots)
cars_listed (car ∷ cars) roots = ap (λ (rest : List ListedCar). listed_as car.1 ∷ rest) (cars_listed cars roots)

-- the numbers of cars
abbrev numbers : List CarImage → List ℕ
numbers cars = map (λ (car : CarImage). car.number) cars

numbers_listed : (cars : List CarInTrain) (roots : List Named) → listed_numbers (entries_for cars roots) ≡ numbers (images (map in_list cars))
numbers_listed [] roots = ap (map (λ (car : ListedCar). car.number)) (no_cars roots)
numbers_listed (car ∷ cars) roots = ap (λ (rest : List ℕ). car.1.image.number ∷ rest) (numbers_listed cars roots)

no_trains : (roots : List Named) → listed_trains (map root_entry roots) ≡ []
no_trains [] = refl
no_trains (root ∷ roots) = no_trains roots

trains_listed : (cars : List CarInTrain) (roots : List Named) → listed_trains (entries_for cars roots) ≡ map (λ (one : Listed). one.0) (map in_list cars)
trains_listed [] roots = no_trains roots
trains_listed (car ∷ cars) roots = ap (λ (rest : List ℕ). car.0 ∷ rest) (trains_listed cars roots)

names_listed : (cars : List CarInTrain) (roots : List Named) → listed_names (entries_for cars roots) ≡ map (λ (root : Named). root.0) roots
names_listed [] [] = refl
names_listed [] (root ∷ roots) = ap (λ (rest : List (List ℕ)). root.0 ∷ rest) (names_listed [] roots)
names_listed (car ∷ cars) roots = names_listed cars roots

addresses_listed : (cars : List CarInTrain) (roots : List Named) → listed_addresses (entries_for cars roots) ≡ map (λ (root : Named). root.1) roots
addresses_listed [] [] = refl
addresses_listed [] (root ∷ roots) = ap (λ (rest : List Addr). root.1 ∷ rest) (addresses_listed [] roots)
addresses_listed (car ∷ cars) roots = addresses_listed cars roots

first_cars : (cars : List CarInTrain) (roots : List Named) → CarsComeFirst (entries_for cars roots)
first_cars [] [] = tt
first_cars [] (root ∷ roots) = no_cars roots
first_cars (car ∷ cars) roots = first_cars cars roots

-- ---- in order

over_zero : (cars : List CarImage) → AllByRecursion IsAcceptedCar cars → AllByRecursion (λ (number : ℕ). 0 < number) (numbers cars)
over_zero [] are = tt
over_zero (car ∷ cars) are = (are.0.from_one, over_zero cars are.1)

none_times : (number : ℕ) (cars : List CarImage) → AllByRecursion (λ (other : CarImage). (other.number == number) ≡ false) cars → times number (numbers cars) ≡ 0
none_times number [] differ = refl
none_times number (car ∷ cars) differ =
    let here = ap {B = ℕ} (λ (b : Bool). if b then 1 else 0) differ.0 in
    let rest = none_times number cars differ.1 in
    omega (arith, here, rest)

numbers_apart : (cars : List CarImage) → Differ cars → AreApart (numbers cars)
numbers_apart [] differ number = omega arith
numbers_apart (car ∷ cars) differ number = by (car.number == number) refl (numbers_apart cars differ.1 number)
  where
    by : (b : Bool) → (car.number == number) ≡ b → times number (numbers cars) ≤ 1 → (if b then 1 else 0) + times number (numbers cars) ≤ 1
    by true is rest =
        let none = subst (λ (n : ℕ). times n (numbers cars) ≡ 0) (eqb-true car.number number is) (none_times car.number cars differ.0) in
        omega (arith, none)
    by false is rest = omega (arith, rest)

trains_follow : (least : ℕ) (listed : List Listed) → NeverFall least listed → Follow IsNoYounger least (map (λ (one : Listed). one.0) listed)
trains_follow least [] fall = tt
trains_follow least (one ∷ others) fall = (fall.0, trains_follow one.0 others fall.1)

trains_begin : (listed : List Listed) → NeverFall 0 listed → Neighbours IsNoYounger (map (λ (one : Listed). one.0) listed)
trains_begin [] fall = tt
trains_begin (one ∷ others) fall = trains_follow one.0 others fall.1

names_follow : (before : List ℕ) (roots : List Named) → NamesAscend (Some before) (map root_entry roots) → Follow ComesBefore before (map (λ (root : Named). root.0) roots)
names_follow before [] ascend = tt
names_follow before (root ∷ roots) ascend = (ascend.0, names_follow root.0 roots ascend.1)

names_begin : (roots : List Named) → NamesAscend None (map root_entry roots) → Neighbours ComesBefore (map (λ (root : Named). root.0) roots)
names_begin [] ascend = tt
names_begin (root ∷ roots) ascend = names_follow root.0 roots ascend.1

roots_back : (roots : List Named) → roots_in (map root_entry roots) ≡ roots
roots_back [] = refl
roots_back (root ∷ roots) = ap (λ (rest : List Named). root ∷ rest) (roots_back roots)

all_names : (roots : List Named) → AllByRecursion (λ (root : Named). IsName root.0) roots → AllByRecursion IsName (map (λ (root : Named). root.0) roots)
all_names [] all = tt
all_names (root ∷ roots) all = (all.0, all_names roots all.1)

-- ---- where the addresses of roots lead

-- a car that an address may name
record IsAddressed (car : CarImage) : Type 0 where
  from_one : 0 < car.number
  below : car.number < 2 ^ 64
  ascend : Ascend 0 car.slots

addressed : (cars : List CarImage) → AllByRecursion IsAcceptedCar cars → AllByRecursion IsCarInRange cars → AllByRecursion IsAddressed cars
addressed [] accepted range = tt
addressed (car ∷ cars) accepted range = (record { from_one = accepted.0.from_one; below = range.0.number; ascend = accepted.0.ascend }, addressed cars accepted.1 range.1)

last_of : (least : ℕ) (slots : List (ℕ × Slot)) (number : ℕ) (slot : Slot) → Ascend least slots → slot_in slots number ≡ Some slot → number ≤ LAST_SLOT
last_of least [] number slot ascend is = absurd cc
last_of least (first ∷ slots) number slot ascend is = by (first.0 == number) refl (last_of (first.0 + 1) slots number slot ascend.2) is
  where
    by : (b : Bool) → (first.0 == number) ≡ b → (slot_in slots number ≡ Some slot → number ≤ LAST_SLOT) → (if b then Some first.1 else slot_in slots number) ≡ Some slot → number ≤ LAST_SLOT
    by true here later is = let same = eqb-true first.0 number here in let last = ascend.1 in omega (arith, same, last)
    by false there later is = later is

-- an address that names a slot
pub record IsFound (at : Addr) : Type 0 where
  pub from_one : 0 < at.car
  pub address : IsAddress at

leads_found : (cars : List CarImage) (at : Addr) (found : Option Slot) → AllByRecursion IsAddressed cars → slot_named cars at ≡ found → is_some (identity_through cars found) ≡ true → IsFound at
leads_found cars at None all is leads = absurd cc
leads_found cars at (Some slot) all is leads =
    let lies = slot_lies cars at slot is in
    let car = all_in_cars IsAddressed cars at.car lies.0 all lies.1 in
    let last = last_of 0 lies.0 at.slot slot car.ascend lies.2 in
    record { from_one = car.from_one; address = record { car = car.below; slot = omega (arith, last) } }

roots_found : (images : List CarImage) (roots : List Named) → AllByRecursion IsAddressed images → AllByRecursion (RootLeads images) (map root_entry roots) → AllByRecursion (λ (root : Named). IsFound root.1) roots
roots_found images [] all lead = tt
roots_found images (root ∷ roots) all lead = (leads_found images root.1 (slot_named images root.1) all refl lead.0, roots_found images roots all lead.1)

range_images : (cars : List CarInTrain) → AllByRecursion (λ (kept : KeptPage). IsCarInRange kept.image) (kept_of cars) → AllByRecursion IsCarInRange (images (map in_list cars))
range_images [] range = tt
range_images (car ∷ cars) range = (range.0, range_images cars range.1)

have_cars : (roots : List Named) → AllByRecursion (λ (root : Named). IsFound root.1) roots → AllByRecursion (λ (at : Addr). 0 < at.car) (map (λ (root : Named). root.1) roots)
have_cars [] found = tt
have_cars (root ∷ roots) found = (found.0.from_one, have_cars roots found.1)

pub plan_roots : (next most : ℕ) (plan : CarPlan) → IsStorePlan next most plan → AllByRecursion (λ (root : Named). IsFound root.1) plan.roots
plan_roots next most plan is =
    let cars = images (map in_list (cars_in plan)) in
    roots_found cars plan.roots (addressed cars is.accepted.cars (range_images (cars_in plan) is.in_range.cars)) is.accepted.roots

pub plan_ordered : (next most : ℕ) (plan : CarPlan) → IsStorePlan next most plan → AreInOrder (planned_entries plan)
plan_ordered next most plan is =
    let cars = cars_in plan in
    let roots = plan.roots in
    let accepted = is.accepted in
    let few = accepted.few in
    let as_many = ap length (roots_back roots) in
    record {
      cars_first = first_cars cars roots;
      numbered = subst (AllByRecursion (λ (number : ℕ). 0 < number)) (sym (numbers_listed cars roots)) (over_zero (images (map in_list cars)) accepted.cars);
      numbers_apart = subst AreApart (sym (numbers_listed cars roots)) (numbers_apart (images (map in_list cars)) accepted.differ);
      trains = subst (Neighbours IsNoYounger) (sym (trains_listed cars roots)) (trains_begin (map in_list cars) accepted.trains);
      names = subst (AllByRecursion IsName) (sym (names_listed cars roots)) (all_names roots is.in_range.names);
      ascending = subst (Neighbours ComesBefore) (sym (names_listed cars roots)) (names_begin roots accepted.names);
      few = subst (λ (names : List (List ℕ)). length names ≤ ROOTS) (sym (names_listed cars roots)) (omega (arith, few, as_many, length-map roots (λ (root : Named). root.0)));
      have_cars = subst (AllByRecursion (λ (at : Addr). 0 < at.car)) (sym (addresses_listed cars roots)) (have_cars roots (plan_roots next most plan is));
    }

-- ---- in range

-- a page number and a digest such as the types can hold
pub record IsPlaceInRange (kept : KeptPage) : Type 0 where
  pub page : kept.page < 2 ^ 64
  pub digest : length kept.digest ≡ 32

cars_in_range : (cars : List CarInTrain) → AllByRecursion (λ (kept : KeptPage). IsCarInRange kept.image) (kept_of cars) → AllByRecursion (λ (one : CarInTrain). one.0 < 2 ^ 64) cars → AllByRecursion IsPlaceInRange (kept_of cars)
    → AllByRecursion IsEntryInRange (map car_entry cars)
cars_in_range [] range trains places = tt
cars_in_range (car ∷ cars) range trains places = ((range.0.number, trains.0, places.0.page, places.0.digest), cars_in_range cars range.1 trains.1 places.1)

roots_in_range : (roots : List Named) → AllByRecursion (λ (root : Named). IsFound root.1) roots → AllByRecursion IsEntryInRange (map root_entry roots)
roots_in_range [] found = tt
roots_in_range (root ∷ roots) found = (found.0.address, roots_in_range roots found.1)

pub plan_range : (next most : ℕ) (plan : CarPlan) → IsStorePlan next most plan → AllByRecursion IsPlaceInRange (kept_of (cars_in plan)) → AllByRecursion IsEntryInRange (planned_entries plan)
plan_range next most plan is places =
    all_both IsEntryInRange (map car_entry (cars_in plan)) (map root_entry plan.roots) (cars_in_range (cars_in plan) is.in_range.cars is.in_range.trains places) (roots_in_range plan.roots (plan_roots next most plan is))
