-- How many pages a ship writes.
use Rattle.std.proofs.Common.{◌≡◌, ◌⊎◌, inl, inr, ⊎_elim, ℕ, ◌+◌, ◌-◌, ◌==◌, Bool, true, false, List, [], ◌∷◌, ◌++◌, map, length, replicate, Some, refl, ap, subst, ◌∙◌, arith, if◌then◌else◌}
use Rattle.std.specs.Prelude.{Contains}
use Rattle.std.specs.List.{AllByRecursion}
use Rattle.std.proofs.lemmas.Bool.Decides.{nat_tests}
use Rattle.pm_model.proofs.Members.{at_first, first_or_rest, in_none, in_rest}
use Rattle.pm_image.specs.declared.car.CarImage.{CarImage}
use Rattle.pm_image.specs.declared.catalog.CatEntry.{CatEntry}
use Rattle.pm_image.specs.declared.catalog.CatEntry.TheVariants.{Car}
use Rattle.pm_image.specs.declared.settled.KeptPage.{KeptPage}
use Rattle.pm_image.specs.Graphs.{images_of}
use Rattle.pm_copies.specs.Accepted.{Differ}
use Rattle.pm_copies.specs.Listed.{Listed, images}
use Rattle.pm_copies.specs.Plans.{root_entry}
use Rattle.pm_copies.specs.Cutting.{cut}
use Rattle.pm_saving.specs.Progress.{Clean, PlacedCar, Place, Progress, Unwritten, Written, catalog_left, catalog_len, draft_entry}
use Rattle.pm_saving.specs.Paging.{left, unwritten}
use Rattle.pm_saving.specs.Beginning.{ArePlaced, IsPlacedAs, settled_at}
use Rattle.pm_ship.specs.Counting.{AreMissing, IsCount, entry_drafted}
use Rattle.pm_ship.specs.Offers.{Offer}

-- ---- the settled car of a number, where no two have one

among : (settled : List KeptPage) (number : ℕ) (image : CarImage) → AllByRecursion (λ (other : CarImage). (other.number == number) ≡ false) (images_of settled) → Contains (images_of settled) image → (image.number == number) ≡ false
among [] number image all there = absurd (in_none image there)
among (kept ∷ settled) number image all there =
    ⊎_elim (λ (same : kept.image ≡ image). subst (λ (car : CarImage). (car.number == number) ≡ false) same all.0)
    (λ rest. among settled number image all.1 rest) (first_or_rest kept.image image (images_of settled) there)

-- one that has this content is found
found_at : (settled : List KeptPage) (image : CarImage) → Differ (images_of settled) → Contains (images_of settled) image → (kept : KeptPage) × (settled_at image.number settled ≡ Some kept) × (kept.image ≡ image)
found_at [] image differ there = absurd (in_none image there)
found_at (kept ∷ settled) image differ there = by (λ rest. found_at settled image differ.1 rest) (first_or_rest kept.image image (images_of settled) there)
  where
    by : (Contains (images_of settled) image → (found : KeptPage) × (settled_at image.number settled ≡ Some found) × (found.image ≡ image))
        → (kept.image ≡ image) ⊎ Contains (images_of settled) image → (found : KeptPage) × (settled_at image.number (kept ∷ settled) ≡ Some found) × (found.image ≡ image)
    by behind (inl same) =
        let self : (image.number == image.number) ≡ true = grind (arith, nat_tests) in
        let test : (kept.image.number == image.number) ≡ true = ap (λ (car : CarImage). car.number == image.number) same ∙ self in
        (kept, ap (λ (b : Bool). if b then Some kept else settled_at image.number settled) test, same)
    by behind (inr rest) =
        let apart = among settled kept.image.number image differ.0 rest in
        let turned : (kept.image.number == image.number) ≡ false = grind (arith, nat_tests, apart) in
        let found = behind rest in
        (found.0, ap (λ (b : Bool). if b then Some kept else settled_at image.number settled) turned ∙ found.1, found.2)

-- one that is found is among them
found_in : (number : ℕ) (settled : List KeptPage) (kept : KeptPage) → settled_at number settled ≡ Some kept → Contains (images_of settled) kept.image
found_in number [] kept found = absurd cc
found_in number (first ∷ settled) kept found = by (λ is. found_in number settled kept is) (first.image.number == number) found
  where
    by : (settled_at number settled ≡ Some kept → Contains (images_of settled) kept.image) → (b : Bool) → (if b then Some first else settled_at number settled) ≡ Some kept → Contains (images_of (first ∷ settled)) kept.image
    by behind true is = let same : first ≡ kept = cc in subst (λ (k : KeptPage). Contains (images_of (first ∷ settled)) k.image) same (at_first first.image (images_of settled))
    by behind false is = in_rest first.image kept.image (images_of settled) (behind is)

-- ---- the cars that are to be written

module _ (settled : List KeptPage) (differ : Differ (images_of settled)) where
  missing_first : (image : CarImage) (list : List Listed) (place : Place) (others : List PlacedCar) (train number : ℕ) → IsPlacedAs settled image place → AreMissing (images_of settled) (images list) (unwritten others)
      → AreMissing (images_of settled) (image ∷ images list) (unwritten (record { train = train; number = number; place = place } ∷ others))
  missing_first image list (Clean kept) others train number placed rest =
      let sum : unwritten others ≡ 0 + unwritten others = omega arith in
      inl (subst (Contains (images_of settled)) placed.1 (found_in image.number settled kept placed.0), subst (AreMissing (images_of settled) (images list)) sum rest)
  missing_first image list Unwritten others train number placed rest =
      let sum : 1 + unwritten others ≡ unwritten others + 1 = omega arith in
      inr ((λ there. let found = found_at settled image differ there in placed found.0 found.1 found.2), (unwritten others, sum, rest))
  missing_first image list (Written kept) others train number placed rest = absurd placed

  pub missing_counted : (list : List Listed) (cars : List PlacedCar) → ArePlaced settled list cars → AreMissing (images_of settled) (images list) (unwritten cars)
  missing_counted [] [] placed = refl
  missing_counted [] (one ∷ cars) placed = absurd placed
  missing_counted (first ∷ list) [] placed = absurd placed
  missing_counted (first ∷ list) (one ∷ cars) placed = missing_first first.1 list one.place cars one.train one.number placed.2 (missing_counted list cars placed.3)

-- ---- the pages of the catalog

drafted_same : (settled : List KeptPage) (list : List Listed) (cars : List PlacedCar) → ArePlaced settled list cars → map draft_entry cars ≡ map entry_drafted list
drafted_same settled [] [] placed = refl
drafted_same settled [] (one ∷ cars) placed = absurd placed
drafted_same settled (first ∷ list) [] placed = absurd placed
drafted_same settled (first ∷ list) (one ∷ cars) placed =
    let rest = drafted_same settled list cars placed.3 in
    λ i. Car (placed.1 i) (placed.0 i) 0 (replicate 32 0) ∷ rest i

less_none : (n : ℕ) → n - length {A = ℕ} [] ≡ n
less_none n = omega arith

-- as many pages are left as are counted
pub left_counted : (settled : List KeptPage) (offer : Offer) (progress : Progress) → Differ (images_of settled) → ArePlaced settled offer.list progress.cars → progress.roots ≡ offer.roots → progress.parts ≡ []
    → IsCount (images_of settled) offer (left progress)
left_counted settled offer progress differ placed roots none =
    let entries : map draft_entry progress.cars ++ map root_entry progress.roots ≡ map entry_drafted offer.list ++ map root_entry offer.roots =
    λ i. drafted_same settled offer.list progress.cars placed i ++ map root_entry (roots i) in
    let all : catalog_left progress ≡ length (cut (map entry_drafted offer.list ++ map root_entry offer.roots)) =
    ap (λ (parts : List ℕ). catalog_len progress - length parts) none ∙ less_none (catalog_len progress) ∙ ap (λ (es : List CatEntry). length (cut es)) entries in
    record {
      missing = unwritten progress.cars;
      are_missing = missing_counted settled differ offer.list progress.cars placed;
      sum = ap (λ (n : ℕ). unwritten progress.cars + n) all;
    }
