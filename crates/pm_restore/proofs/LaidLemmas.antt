-- On which pages a dump is laid.
use Rattle.std.proofs.Common.{◌≡◌, ◌⊎◌, inl, inr, ℕ, ◌+◌, ◌<◌, ◌≤◌, ◌==◌, Bool, true, false, List, [], ◌∷◌, map, length, refl, sym, ap, ◌∙◌, arith, if◌then◌else◌}
use Rattle.std.proofs.lemmas.Bool.{cases_lt, le-ltb, lt-ltb}
use Rattle.std.proofs.lemmas.Bool.Decides.{nat_tests}
use Rattle.pm_image.specs.declared.car.CarImage.{CarImage}
use Rattle.pm_shadow.specs.declared.page_use.PageUse.{PageUse}
use Rattle.pm_shadow.specs.declared.page_use.PageUse.TheVariants.{Claimed, Current, Free}
use Rattle.pm_shadow.specs.Uses.{AreLowestFree, IsLowestFree, new_uses, with_use}
use Rattle.pm_saving.specs.Progress.{Clean, Place, PlacedCar, Unwritten, Written}
use Rattle.pm_saving.specs.Beginning.{ArePlaced, IsPlacedAs}
use Rattle.pm_restore.specs.Restored.{open_car, pages_from}

-- ---- the cars as they begin

place_begun : (car : CarImage) (place : Place) → IsPlacedAs [] car place → place ≡ Unwritten
place_begun car (Clean kept) placed = let none = placed.0 in absurd cc
place_begun car Unwritten placed = refl
place_begun car (Written kept) placed = absurd placed

one_begun : (car : CarImage) (one : PlacedCar) → one.train ≡ 1 → one.number ≡ car.number → IsPlacedAs [] car one.place → one ≡ open_car car
one_begun car one train number placed = λ i. record { train = train i; number = number i; place = place_begun car one.place placed i }

pub cars_begun : (list : List CarImage) (cars : List PlacedCar) → ArePlaced [] (map (λ (car : CarImage). (1, car)) list) cars → cars ≡ map open_car list
cars_begun [] [] placed = refl
cars_begun [] (one ∷ cars) placed = absurd placed
cars_begun (car ∷ list) [] placed = absurd placed
cars_begun (car ∷ list) (one ∷ cars) placed = λ i. one_begun car one placed.0 placed.1 placed.2 i ∷ cars_begun list cars placed.3 i

-- ---- the lowest pages that are free

claimed_apart : Claimed ≡ Free → ⊥
claimed_apart is = cc

current_apart : Current ≡ Free → ⊥
current_apart is = cc

module _ (uses : ℕ → PageUse) (n page : ℕ) (same : page ≡ n) where
  below_next : ((q : ℕ) → q < n → uses q ≡ Free → ⊥) → (q : ℕ) → q < n + 1 → with_use page Claimed uses q ≡ Free → ⊥
  below_next below q lt = by (cases_lt q n)
    where
      by : (q < n) ⊎ (n ≤ q) → with_use page Claimed uses q ≡ Free → ⊥
      by (inl less) is =
          let apart : (q == page) ≡ false = grind (arith, nat_tests, less, same) in
          below q less (sym (ap (λ (b : Bool). if b then Claimed else uses q) apart) ∙ is)
      by (inr more) is =
          let this : (q == page) ≡ true = grind (arith, nat_tests, lt, more, same) in
          claimed_apart (sym (ap (λ (b : Bool). if b then Claimed else uses q) this) ∙ is)

  above_next : ((q : ℕ) → n ≤ q → uses q ≡ Free) → (q : ℕ) → n + 1 ≤ q → with_use page Claimed uses q ≡ Free
  above_next above q le =
      let apart : (q == page) ≡ false = grind (arith, nat_tests, le, same) in
      ap (λ (b : Bool). if b then Claimed else uses q) apart ∙ above q (omega (arith, le))

lowest_is : (uses : ℕ → PageUse) (n page : ℕ) → IsLowestFree uses page → ((q : ℕ) → q < n → uses q ≡ Free → ⊥) → ((q : ℕ) → n ≤ q → uses q ≡ Free) → page ≡ n
lowest_is uses n page low below above = by (cases_lt page n) (cases_lt n page)
  where
    by : (page < n) ⊎ (n ≤ page) → (n < page) ⊎ (page ≤ n) → page ≡ n
    by (inl lt) other = absurd (below page lt low.free)
    by (inr le) (inl lt) = absurd (low.lowest n lt (above n (omega arith)))
    by (inr le) (inr ge) = omega (arith, le, ge)

pages_are : (pages : List ℕ) (uses : ℕ → PageUse) (n : ℕ) → AreLowestFree uses pages → ((q : ℕ) → q < n → uses q ≡ Free → ⊥) → ((q : ℕ) → n ≤ q → uses q ≡ Free) → pages ≡ pages_from n (length pages)
pages_are [] uses n low below above = refl
pages_are (page ∷ pages) uses n low below above =
    let same = lowest_is uses n page low.0 below above in
    let rest = pages_are pages (with_use page Claimed uses) (n + 1) low.1 (below_next uses n page same below) (above_next uses n page same above) in
    λ i. same i ∷ rest i

-- in a new store they are those from page 3 on
pub pages_new : (pages : List ℕ) → AreLowestFree new_uses pages → pages ≡ pages_from 3 (length pages)
pages_new pages low =
    pages_are pages new_uses 3 low
    (λ q lt is. current_apart (sym (ap (λ (b : Bool). if b then Current else Free) (lt-ltb q 3 lt)) ∙ is))
    (λ q le. ap (λ (b : Bool). if b then Current else Free) (le-ltb q 3 le))
