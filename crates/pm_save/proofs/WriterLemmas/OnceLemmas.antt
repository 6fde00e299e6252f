-- What is known of the cars of a copy that was written whole: each stands on a page, and no settled car is that of two.
use Rattle.std.proofs.Common.{◌≡◌, ℕ, zero, suc, ◌+◌, ◌<◌, ◌==◌, if◌then◌else◌, Bool, true, false, List, [], ◌∷◌, length, map, Some, refl, sym, ap, ◌∙◌, subst, arith}
use Rattle.std.specs.List.{AllByRecursion, slice_get}
use Rattle.std.proofs.lemmas.Bool.{eqb-true}
use Rattle.std.proofs.lemmas.Bool.Decides.{nat_tests}
use Rattle.pm_image.specs.declared.car.CarImage.{CarImage}
use Rattle.pm_image.specs.declared.settled.KeptPage.{KeptPage}
use Rattle.pm_view.specs.View.{Cars}
use Rattle.pm_copies.specs.Listed.{images}
use Rattle.pm_copies.specs.Accepted.{Differ}
use Rattle.pm_saving.specs.Progress as seen
use Rattle.pm_saving.specs.Progress.{image_of, in_list}
use Rattle.pm_saving.specs.Paging.{is_unwritten, left, unwritten}
use Rattle.pm_saving.specs.Beginning.{StandsAs}
use Rattle.pm_save.specs.declared.progress.place.Place.{Place}
use Rattle.pm_save.specs.declared.progress.place.Place.TheVariants.{Clean, Unwritten, Written}
use Rattle.pm_save.specs.declared.progress.place.PlacedCar.{PlacedCar}
use Rattle.pm_save.specs.declared.progress.place.InProgress.{InProgress}
use Rattle.pm_save.specs.Progress.Seen.{car_seen, clean_at, place_seen, progress_seen}
use Rattle.pm_save.specs.Progress.Kept.{IsKept, IsPlaced, IsWithin}
use Rattle.pm_save.specs.Progress.Taken.{ArePlacesApart, AreOnce, IsNotAt}
use Rattle.pm_save.proofs.ProgressLemmas.Placed.{Within, same_open}

-- ---- each stands on a page

none_counted : (b : Bool) (rest : ℕ) → (if b then 1 else 0) + rest ≡ 0 → (b ≡ false) × (rest ≡ 0)
none_counted true rest is = absurd (omega (arith, is))
none_counted false rest is = (refl, omega (arith, is))

all_are : (settled : List KeptPage) (cars : List PlacedCar) → Within settled cars → unwritten (map (car_seen settled) cars) ≡ 0 → AllByRecursion IsPlaced cars
all_are settled [] within none = tt
all_are settled (one ∷ cars) within none =
    let both = none_counted (is_unwritten (place_seen settled one.place)) (unwritten (map (car_seen settled) cars)) none in
    (sym (same_open settled one.place within.0) ∙ both.0, all_are settled cars within.1 both.1)

pub placed_by : (settled : List KeptPage) (it : InProgress) → IsKept settled it → left (progress_seen settled it) ≡ 0 → AllByRecursion IsPlaced it.cars.items
placed_by settled it kept none = all_are settled it.cars.items kept.within (omega (arith, none))

-- ---- no settled car is that of two

stands_on : (settled all : List KeptPage) (index : ℕ) (image : CarImage) → index < length settled → StandsAs all image (clean_at (slice_get settled index)) → (kept : KeptPage) × (slice_get settled index ≡ Some kept) × (kept.image ≡ image)
stands_on [] all index image low stands = absurd (omega (arith, low))
stands_on (kept ∷ settled) all zero image low stands = (kept, refl, stands.1)
stands_on (kept ∷ settled) all (suc index) image low stands = stands_on settled all index image (omega (arith, low)) stands

same_kept : (settled : List KeptPage) (i j : ℕ) (a b : KeptPage) → j ≡ i → slice_get settled i ≡ Some a → slice_get settled j ≡ Some b → a ≡ b
same_kept settled i j a b same one two = let both : Some a ≡ Some b = sym one ∙ sym (ap (slice_get settled) same) ∙ two in cc

module _ (settled : List KeptPage) (cars : Cars) where
  abbrev Stands : PlacedCar → Type 0
  Stands one = StandsAs settled (image_of cars (car_seen settled one)) (place_seen settled one.place)

  apart_at : (index : ℕ) (one other : PlacedCar) → one.place ≡ Clean index → IsWithin settled one.place → Stands one → IsWithin settled other.place → Stands other → (other.number == one.number) ≡ false → (place : Place) → other.place ≡ place → IsNotAt index place
  apart_at index one other is within stands there stands_too differ (Clean at) at_is = by (at == index) refl
    where
      by : (b : Bool) → (at == index) ≡ b → (at == index) ≡ false
      by false unlike = unlike
      by true alike =
          let first = stands_on settled settled index (image_of cars (car_seen settled one)) (subst (IsWithin settled) is within) (subst (λ (place : Place). StandsAs settled (image_of cars (car_seen settled one)) (place_seen settled place)) is stands) in
          let second = stands_on settled settled at (image_of cars (car_seen settled other)) (subst (IsWithin settled) at_is there) (subst (λ (place : Place). StandsAs settled (image_of cars (car_seen settled other)) (place_seen settled place)) at_is stands_too) in
          let same : first.0 ≡ second.0 = same_kept settled index at first.0 second.0 (eqb-true at index alike) first.1 second.1 in
          let number : one.number ≡ other.number = sym (ap (λ (image : CarImage). image.number) first.2) ∙ ap (λ (kept : KeptPage). kept.image.number) same ∙ ap (λ (image : CarImage). image.number) second.2 in
          let equal : (other.number == one.number) ≡ true = grind (arith, nat_tests, number) in
          absurd (cc (equal, differ))
  apart_at index one other is within stands there stands_too differ Unwritten at_is = tt
  apart_at index one other is within stands there stands_too differ (Written kept) at_is = tt

  apart_from : (one other : PlacedCar) → IsWithin settled one.place → Stands one → IsWithin settled other.place → Stands other → (other.number == one.number) ≡ false → (place : Place) → one.place ≡ place → ArePlacesApart place other.place
  apart_from one other within stands there stands_too differ (Clean index) is = apart_at index one other is within stands there stands_too differ other.place refl
  apart_from one other within stands there stands_too differ Unwritten is = tt
  apart_from one other within stands there stands_too differ (Written kept) is = tt

  apart_all : (one : PlacedCar) (others : List PlacedCar) → IsWithin settled one.place → Stands one → Within settled others → AllByRecursion (λ (one : seen.PlacedCar). StandsAs settled (image_of cars one) one.place) (map (car_seen settled) others)
      → AllByRecursion (λ (other : CarImage). (other.number == one.number) ≡ false) (images (map (in_list cars) (map (car_seen settled) others))) → AllByRecursion (λ (other : PlacedCar). ArePlacesApart one.place other.place) others
  apart_all one [] within stands there all differ = tt
  apart_all one (other ∷ others) within stands there all differ =
      (apart_from one other within stands there.0 all.0 differ.0 one.place refl, apart_all one others within stands there.1 all.1 differ.1)

  pub once_by : (items : List PlacedCar) → Within settled items → AllByRecursion (λ (one : seen.PlacedCar). StandsAs settled (image_of cars one) one.place) (map (car_seen settled) items) → Differ (images (map (in_list cars) (map (car_seen settled) items))) → AreOnce items
  once_by [] within all differ = tt
  once_by (one ∷ others) within all differ = (apart_all one others within.0 all.0 within.1 all.1 differ.0, once_by others within.1 all.1 differ.1)
