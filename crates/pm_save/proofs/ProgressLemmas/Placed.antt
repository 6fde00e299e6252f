-- Cars that stand on pages, in the code and as they are seen.
use Rattle.std.proofs.Common.{◌≡◌, ℕ, zero, suc, ◌<◌, Bool, true, false, List, [], ◌∷◌, ◌++◌, length, map, take, drop, if◌then◌else◌, Some, None, refl, ap, ◌∙◌, subst, arith}
use Rattle.std.specs.List.{AllByRecursion, slice_get}
use Rattle.pm_image.specs.declared.settled.KeptPage.{KeptPage}
use Rattle.pm_saving.specs.Progress as seen
use Rattle.pm_law_copies.proofs.GraphsLemmas.Lists.{all_front, all_back}
use Rattle.pm_saving.specs.Paging.{first_unwritten, is_unwritten}
use Rattle.pm_save.specs.declared.progress.place.Place.{Place}
use Rattle.pm_save.specs.declared.progress.place.Place.TheVariants.{Clean, Unwritten, Written}
use Rattle.pm_save.specs.declared.progress.place.PlacedCar.{PlacedCar}
use Rattle.pm_save.specs.Progress.Seen.{car_seen, clean_at, place_seen}
use Rattle.std.proofs.lemmas.List.{take_all}
use Rattle.pm_save.proofs.ProgressLemmas.Slices.{split_at, past_end}
use Rattle.pm_save.specs.Progress.Kept.{IsPlaced, IsWithin, is_open}

-- a settled car that is there
clean_seen : (settled : List KeptPage) (index : ℕ) → index < length settled → is_unwritten (clean_at (slice_get settled index)) ≡ false
clean_seen [] index low = absurd (omega (arith, low))
clean_seen (kept ∷ settled) zero low = refl
clean_seen (kept ∷ settled) (suc index) low = clean_seen settled index (omega (arith, low))

pub same_open : (settled : List KeptPage) (place : Place) → IsWithin settled place → is_unwritten (place_seen settled place) ≡ is_open place
same_open settled (Clean index) within = clean_seen settled index within
same_open settled Unwritten within = refl
same_open settled (Written kept) within = refl

abbrev pub Within : List KeptPage → List PlacedCar → Type 0
Within settled cars = AllByRecursion (λ (one : PlacedCar). IsWithin settled one.place) cars

pub all_placed : (settled : List KeptPage) (cars : List PlacedCar) → Within settled cars → AllByRecursion IsPlaced cars
    → AllByRecursion (λ (one : seen.PlacedCar). is_unwritten one.place ≡ false) (map (car_seen settled) cars)
all_placed settled [] within placed = tt
all_placed settled (one ∷ cars) within placed = (same_open settled one.place within.0 ∙ placed.0, all_placed settled cars within.1 placed.1)

-- ---- the first car that stands on no page

within_front : (settled : List KeptPage) (front : List PlacedCar) (one : PlacedCar) (back : List PlacedCar) → Within settled (front ++ one ∷ back) → Within settled front × IsWithin settled one.place
within_front settled front one back within =
    (all_front (λ (one : PlacedCar). IsWithin settled one.place) front (one ∷ back) within, (all_back (λ (one : PlacedCar). IsWithin settled one.place) front (one ∷ back) within).0)

if_open : {A : Type 0} (b : Bool) (x y : A) → b ≡ true → (if b then x else y) ≡ x
if_open b x y is = ap (λ (b : Bool). if b then x else y) is

if_shut : {A : Type 0} (b : Bool) (x y : A) → b ≡ false → (if b then x else y) ≡ y
if_shut b x y is = ap (λ (b : Bool). if b then x else y) is

first_in : (settled : List KeptPage) (front : List PlacedCar) (one : PlacedCar) (back : List PlacedCar) → Within settled front → IsWithin settled one.place → AllByRecursion IsPlaced front → is_open one.place ≡ true
    → first_unwritten (map (car_seen settled) (front ++ one ∷ back)) ≡ Some (car_seen settled one)
first_in settled [] one back within here placed is =
    if_open (is_unwritten (place_seen settled one.place)) (Some (car_seen settled one)) (first_unwritten (map (car_seen settled) back)) (same_open settled one.place here ∙ is)
first_in settled (before ∷ front) one back within here placed is =
    if_shut (is_unwritten (place_seen settled before.place)) (Some (car_seen settled before)) (first_unwritten (map (car_seen settled) (front ++ one ∷ back))) (same_open settled before.place within.0 ∙ placed.0)
    ∙ first_in settled front one back within.1 here placed.1 is

pub none_open : (cars : List seen.PlacedCar) → AllByRecursion (λ (one : seen.PlacedCar). is_unwritten one.place ≡ false) cars → first_unwritten cars ≡ None
none_open [] placed = refl
none_open (one ∷ cars) placed = if_shut (is_unwritten one.place) (Some one) (first_unwritten cars) placed.0 ∙ none_open cars placed.1

pub first_found : (settled : List KeptPage) (cars : List PlacedCar) (placed : ℕ) (one : PlacedCar) → Within settled cars → AllByRecursion IsPlaced (take placed cars) → slice_get cars placed ≡ Some one → is_open one.place ≡ true
    → first_unwritten (map (car_seen settled) cars) ≡ Some (car_seen settled one)
first_found settled cars placed one within before at is =
    let split = split_at cars placed one at in
    let both = within_front settled (take placed cars) one (drop (suc placed) cars) (subst (Within settled) split within) in
    ap (λ (cars : List PlacedCar). first_unwritten (map (car_seen settled) cars)) split ∙ first_in settled (take placed cars) one (drop (suc placed) cars) both.0 both.1 before is

-- where none is found all stand on pages
pub all_before : (cars : List PlacedCar) (placed : ℕ) → AllByRecursion IsPlaced (take placed cars) → slice_get cars placed ≡ None → AllByRecursion IsPlaced cars
all_before cars placed before none = subst (AllByRecursion IsPlaced) (take_all placed cars (past_end cars placed none)) before
