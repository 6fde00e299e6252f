-- Cars in their trains, and the lists that entries are parted into.
use Rattle.std.proofs.Common.{◌≡◌, ℕ, zero, suc, ◌+◌, ◌<◌, List, [], ◌∷◌, ◌++◌, length, take, get_or, refl, ap, ◌∙◌, arith}
use Rattle.pm_image.specs.declared.car.CarImage.{CarImage}
use Rattle.pm_image.specs.declared.catalog.CatEntry.{CatEntry}
use Rattle.pm_image.specs.declared.catalog.CatEntry.TheVariants.{Car, Root}
use Rattle.pm_image.specs.declared.settled.KeptPage.{KeptPage}
use Rattle.pm_image.specs.CarPages.{Numbers}
use Rattle.pm_image.specs.Graphs.{images_of, with_identities}
use Rattle.pm_copies.specs.Listed.{Listed, images}
use Rattle.pm_copies.specs.Opened.{listed_in}
use Rattle.pm_graphs.specs.Reading.{AreRead}
use Rattle.pm_ship.specs.Listing.{trains_in, with_trains}

-- what entries list is their cars in their trains
pub listed_paired : (entries : List CatEntry) (images : List CarImage) → listed_in entries images ≡ with_trains (trains_in entries) images
listed_paired [] images = refl
listed_paired (Root name at ∷ entries) images = listed_paired entries images
listed_paired (Car car train page digest ∷ entries) [] = refl
listed_paired (Car car train page digest ∷ entries) (image ∷ images) = ap (λ (rest : List Listed). (train, image) ∷ rest) (listed_paired entries images)

-- as many trains as cars
pub trains_counted : (most next : ℕ) (met : Numbers) (entries : List CatEntry) (cars : List KeptPage) → AreRead most next met entries cars → length (trains_in entries) ≡ length cars
trains_counted most next met [] [] reads = refl
trains_counted most next met [] (kept ∷ cars) reads = absurd reads
trains_counted most next met (Root name at ∷ entries) cars reads = trains_counted most next met entries cars reads
trains_counted most next met (Car car train page digest ∷ entries) [] reads = absurd reads
trains_counted most next met (Car car train page digest ∷ entries) (kept ∷ cars) reads = ap suc (trains_counted most next (with_identities met kept.image.slots) entries cars reads.2)

-- the cars so far, with one more
pub trains_more : (trains : List ℕ) (cars : List KeptPage) (i t : ℕ) (d : KeptPage) → i < length cars → length trains ≡ length cars
    → with_trains (take (i + 1) trains) (images_of (take (i + 1) cars)) ≡ with_trains (take i trains) (images_of (take i cars)) ++ (get_or trains i t, (get_or cars i d).image) ∷ []
trains_more [] [] i t d inside long = absurd (omega (arith, inside))
trains_more [] (kept ∷ cars) i t d inside long = absurd (omega (arith, long))
trains_more (train ∷ trains) [] i t d inside long = absurd (omega (arith, inside))
trains_more (train ∷ trains) (kept ∷ cars) zero t d inside long = refl
trains_more (train ∷ trains) (kept ∷ cars) (suc i) t d inside long =
    let more : suc i + 1 ≡ suc (i + 1) = omega arith in
    ap (λ (n : ℕ). with_trains (take n (train ∷ trains)) (images_of (take n (kept ∷ cars)))) more
    ∙ ap (λ (rest : List Listed). (train, kept.image) ∷ rest) (trains_more trains cars i t d (omega (arith, inside)) (omega (arith, long)))

-- the lists are told by the cars in their trains
pub record AreBoth (ts us : List ℕ) (xs ys : List CarImage) : Type 0 where
  pub trains : ts ≡ us
  pub cars : xs ≡ ys

pub both_told : (ts us : List ℕ) (xs ys : List CarImage) → length ts ≡ length xs → length us ≡ length ys → with_trains ts xs ≡ with_trains us ys → AreBoth ts us xs ys
both_told [] [] [] [] one two same = record { trains = refl; cars = refl }
both_told [] us (x ∷ xs) ys one two same = absurd (omega (arith, one))
both_told (t ∷ ts) us [] ys one two same = absurd (omega (arith, one))
both_told ts [] xs (y ∷ ys) one two same = absurd (omega (arith, two))
both_told ts (u ∷ us) xs [] one two same = absurd (omega (arith, two))
both_told [] (u ∷ us) [] (y ∷ ys) one two same = absurd cc
both_told (t ∷ ts) [] (x ∷ xs) [] one two same = absurd cc
both_told (t ∷ ts) (u ∷ us) (x ∷ xs) (y ∷ ys) one two same =
    let first : ◌≡◌ {A = Listed} (t, x) (u, y) = cc in
    let rest : with_trains ts xs ≡ with_trains us ys = cc in
    let both = both_told ts us xs ys (omega (arith, one)) (omega (arith, two)) rest in
    record { trains = λ i. (first i).0 ∷ both.trains i; cars = λ i. (first i).1 ∷ both.cars i }
