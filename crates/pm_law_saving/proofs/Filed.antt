-- Cars that are filed under their numbers are found as they are listed.
use Rattle.std.proofs.Common.{◌≡◌, ℕ, ◌+◌, ◌<◌, ◌==◌, Bool, true, false, cond, T, refl, ap, sym, subst, ◌∙◌, List, [], ◌∷◌, map, Some, arith}
use Rattle.std.specs.List.{AllByRecursion}
use Rattle.std.specs.declared.cmp.Ordering.TheVariants.{Less}
use Rattle.std.specs.Ordering.{is_lt, nat_cmp, eq_by_cmp}
use Rattle.std.specs.Cmp.{nat_cmp_is}
use Rattle.std.specs.FinMap.{get, entries, from_entries, get-from_entries, nat_cmp-IsAntisymmetric}
use Rattle.std.specs.FinMap.Entries.{find, below_all, is_sorted}
use Rattle.std.proofs.lemmas.Cmp.{nat_cmp_total}
use Rattle.std.proofs.lemmas.Bool.{eq-eqb}
use Rattle.std.proofs.lemmas.Bool.Decides.{nat_tests}
use Rattle.pm_types.specs.declared.object.Slot.{Slot}
use Rattle.pm_cars.specs.Cars.{Car}
use Rattle.pm_image.specs.declared.car.CarImage.{CarImage}
use Rattle.pm_image.specs.declared.catalog.CatEntry.{CatEntry}
use Rattle.pm_image.specs.CarPages.{Ascend}
use Rattle.pm_copies.specs.Listed.{Listed, images}
use Rattle.pm_copies.specs.Accepted.{Differ, IsAccepted, IsAcceptedCar}
use Rattle.pm_law_copies.proofs.Lists.{entries_made, nat_turned}
use Rattle.pm_law_copies.proofs.OpenedCars.{both}
use Rattle.pm_saving.specs.Progress.{car_of, cars_of, image_at, slots_of}
use Rattle.pm_saving.specs.Beginning.{AreFrozen}

-- ---- slots that ascend are those of the map that is made of them

less_is : (m n : ℕ) → m < n → T (is_lt (nat_cmp m n))
less_is m n less = subst (λ r. T (is_lt r)) (nat_cmp_is m n Less less) tt

below_slots : (n least : ℕ) (es : List (ℕ × Slot)) → n < least → Ascend least es → T (below_all nat_cmp n es)
below_slots n least [] less ascend = tt
below_slots n least (e ∷ es) less ascend =
    let low = ascend.0 in
    both _ _ (less_is n e.0 (omega (arith, less, low))) (below_slots n (e.0 + 1) es (omega (arith, less, low)) ascend.2)

sorted_slots : (least : ℕ) (es : List (ℕ × Slot)) → Ascend least es → T (is_sorted nat_cmp es)
sorted_slots least [] ascend = tt
sorted_slots least (e ∷ es) ascend = both _ _ (below_slots e.0 (e.0 + 1) es (omega arith) ascend.2) (sorted_slots (e.0 + 1) es ascend.2)

slots_made : (least : ℕ) (es : List (ℕ × Slot)) → Ascend least es → entries (from_entries {R = nat_cmp} es) ≡ es
slots_made least es ascend = entries_made nat_cmp_total nat_cmp-IsAntisymmetric es (sorted_slots least es ascend)

-- ---- a car is found by its number, where no other has it

-- a car under its number
abbrev filed : CarImage → ℕ × Car
filed image = (image.number, car_of image)

abbrev IsFiled : List CarImage → CarImage → Type 0
IsFiled cars car = find nat_cmp car.number (map filed cars) ≡ Some (car_of car)

itself : (n : ℕ) → eq_by_cmp nat_cmp n n ≡ true
itself n = sym (nat_turned n n) ∙ eq-eqb n n refl

another : (m n : ℕ) → (n == m) ≡ false → eq_by_cmp nat_cmp n m ≡ false
another m n apart =
    let turned : (m == n) ≡ false = grind (arith, nat_tests, apart) in
    sym (nat_turned m n) ∙ turned

filed_behind : (first car : CarImage) (cars : List CarImage) → (car.number == first.number) ≡ false → IsFiled cars car → IsFiled (first ∷ cars) car
filed_behind first car cars apart is = ap (λ (b : Bool). cond b (Some (car_of first)) (find nat_cmp car.number (map filed cars))) (another first.number car.number apart) ∙ is

all_behind : (first : CarImage) (cars some : List CarImage) → AllByRecursion (λ (other : CarImage). (other.number == first.number) ≡ false) some → AllByRecursion (IsFiled cars) some → AllByRecursion (IsFiled (first ∷ cars)) some
all_behind first cars [] apart all = tt
all_behind first cars (car ∷ some) apart all = (filed_behind first car cars apart.0 all.0, all_behind first cars some apart.1 all.1)

all_filed : (cars : List CarImage) → Differ cars → AllByRecursion (IsFiled cars) cars
all_filed [] differ = tt
all_filed (first ∷ cars) differ =
    (ap (λ (b : Bool). cond b (Some (car_of first)) (find nat_cmp first.number (map filed cars))) (itself first.number), all_behind first cars cars differ.0 (all_filed cars differ.1))

-- a car that is found has its slots
image_filed : (cars : List CarImage) (car : CarImage) → Ascend 0 car.slots → IsFiled cars car → car ≡ image_at (cars_of cars) car.number
image_filed cars car ascend is =
    let found : get (cars_of cars) car.number ≡ Some (car_of car) = get-from_entries nat_cmp_total (map filed cars) car.number ∙ is in
    let slots : slots_of (get (cars_of cars) car.number) ≡ car.slots = ap slots_of found ∙ slots_made 0 car.slots ascend in
    λ i. record { number = car.number; slots = sym slots i }

list_filed : (cars : List CarImage) (list : List Listed) → AllByRecursion IsAcceptedCar (images list) → AllByRecursion (IsFiled cars) (images list) → AreFrozen (cars_of cars) list
list_filed cars [] accepted all = tt
list_filed cars (one ∷ list) accepted all = (image_filed cars one.1 accepted.0.ascend all.0, list_filed cars list accepted.1 all.1)

-- what no rule refuses is found as it is listed, among its own cars
pub found_listed : (list : List Listed) (catalog : List CatEntry) (next : ℕ) → IsAccepted list catalog next → AreFrozen (cars_of (images list)) list
found_listed list catalog next accepted = list_filed (images list) list accepted.cars (all_filed (images list) accepted.differ)
