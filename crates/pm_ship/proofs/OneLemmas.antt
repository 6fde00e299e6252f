-- That a ship leaves one store, by what both stores have.
use Rattle.std.proofs.Common.{◌≡◌, ◌⊎◌, inl, inr, ⊎_elim, ℕ, ◌+◌, ◌<◌, Bool, List, [], ◌∷◌, length, refl, sym, ap, subst, ◌∙◌, arith}
use Rattle.std.proofs.lemmas.Bool.{cases_lt}
use Rattle.std.proofs.lemmas.Option.{same_Some}
use Rattle.pm_image.specs.declared.car.CarImage.{CarImage}
use Rattle.pm_image.specs.declared.settled.KeptPage.{KeptPage}
use Rattle.pm_image.specs.Graphs.{images_of, used_pages}
use Rattle.pm_image.specs.Stands.{Opened}
use Rattle.pm_shadow.specs.State.{attached}
use Rattle.pm_copies.specs.Listed.{Listed}
use Rattle.pm_saving.specs.Beginning.{ArePlaced, IsPlacedAs}
use Rattle.pm_saving.specs.Progress.{Clean, Place, PlacedCar, Progress, Unwritten, Written}
use Rattle.pm_saving.specs.Tied.{settled_on}
use Rattle.pm_ship.specs.Begun.{IsOfferBegun}
use Rattle.pm_ship.specs.Cars.{cars_offered}
use Rattle.pm_ship.specs.Counting.{AreMissing, IsCount, catalog_count}
use Rattle.pm_ship.specs.Offers.{Offer}
use Rattle.pm_ship.specs.Written.{AreLowestBeside}
use Rattle.pm_ship.specs.Shipped.{GotIt}

-- ---- how many pages

missing_once : (there cars : List CarImage) (a b : ℕ) → AreMissing there cars a → AreMissing there cars b → a ≡ b
missing_once there [] a b one two = one ∙ sym two
missing_once there (car ∷ cars) a b (inl one) (inl two) = missing_once there cars a b one.1 two.1
missing_once there (car ∷ cars) a b (inl one) (inr two) = absurd (two.0 one.0)
missing_once there (car ∷ cars) a b (inr one) (inl two) = absurd (one.0 two.0)
missing_once there (car ∷ cars) a b (inr one) (inr two) =
    let fewer : one.1.0 ≡ two.1.0 = missing_once there cars one.1.0 two.1.0 one.1.2 two.1.2 in
    one.1.1 ∙ ap (λ (n : ℕ). n + 1) fewer ∙ sym two.1.1

count_once : (there : List CarImage) (offer : Offer) (a b : ℕ) → IsCount there offer a → IsCount there offer b → a ≡ b
count_once there offer a b one two =
    one.sum ∙ ap (λ (n : ℕ). n + catalog_count offer) (missing_once there _ one.missing two.missing one.are_missing two.are_missing) ∙ sym two.sum

-- ---- which

lowest_once : (used pages others : List ℕ) → AreLowestBeside used pages → AreLowestBeside used others → length pages ≡ length others → pages ≡ others
lowest_once used [] [] one two same = refl
lowest_once used [] (other ∷ others) one two same = absurd (omega (arith, same))
lowest_once used (page ∷ pages) [] one two same = absurd (omega (arith, same))
lowest_once used (page ∷ pages) (other ∷ others) one two same =
    let here : page ≡ other =
    ⊎_elim (λ (less : page < other). absurd (one.0.apart (two.0.lowest page one.0.from_2 less)))
    (λ most.
    ⊎_elim (λ (less : other < page). absurd (two.0.apart (one.0.lowest other two.0.from_2 less))) (λ least. omega (arith, most, least)) (cases_lt other page))
    (cases_lt page other) in
    let rest : pages ≡ others = lowest_once (page ∷ used) pages others one.1 (subst (λ (n : ℕ). AreLowestBeside (n ∷ used) others) (sym here) two.1) (omega (arith, same)) in
    λ i. here i ∷ rest i

-- ---- how the copy begins

place_once : (settled : List KeptPage) (image : CarImage) (a b : Place) → IsPlacedAs settled image a → IsPlacedAs settled image b → a ≡ b
place_once settled image (Clean kept) (Clean other) one two = ap Clean (same_Some kept other (sym one.0 ∙ two.0))
place_once settled image (Clean kept) Unwritten one two = absurd (two kept one.0 one.1)
place_once settled image (Clean kept) (Written other) one two = absurd two
place_once settled image Unwritten (Clean other) one two = absurd (one other two.0 two.1)
place_once settled image Unwritten Unwritten one two = refl
place_once settled image Unwritten (Written other) one two = absurd two
place_once settled image (Written kept) b one two = absurd one

placed_once : (settled : List KeptPage) (list : List Listed) (a b : List PlacedCar) → ArePlaced settled list a → ArePlaced settled list b → a ≡ b
placed_once settled [] [] [] one two = refl
placed_once settled [] [] (other ∷ b) one two = absurd two
placed_once settled [] (car ∷ a) b one two = absurd one
placed_once settled (first ∷ list) [] b one two = absurd one
placed_once settled (first ∷ list) (car ∷ a) [] one two = absurd two
placed_once settled (first ∷ list) (car ∷ a) (other ∷ b) one two =
    let train : car.train ≡ other.train = one.0 ∙ sym two.0 in
    let number : car.number ≡ other.number = one.1 ∙ sym two.1 in
    let place : car.place ≡ other.place = place_once settled first.1 car.place other.place one.2 two.2 in
    let rest : a ≡ b = placed_once settled list a b one.3 two.3 in
    λ i. record { train = train i; number = number i; place = place i } ∷ rest i

begun_once : (offer : Offer) (settled : List KeptPage) (a b : Progress) → IsOfferBegun offer settled a → IsOfferBegun offer settled b → a ≡ b
begun_once offer settled a b one two =
    let number : a.number ≡ b.number = one.number ∙ sym two.number in
    let cars : a.cars ≡ b.cars = placed_once settled offer.list a.cars b.cars one.cars two.cars in
    let roots : a.roots ≡ b.roots = one.roots ∙ sym two.roots in
    let next : a.next_id ≡ b.next_id = one.next ∙ sym two.next in
    let kept : a.kept ≡ b.kept = one.kept ∙ sym two.kept in
    let parts : a.parts ≡ b.parts = one.parts ∙ sym two.parts in
    λ i. record { number = number i; cars = cars i; roots = roots i; next_id = next i; kept = kept i; parts = parts i }

-- ---- the bytes

pub got_once : (offer : Offer) (mine : Opened) (closed : Bool) (was now other : List ℕ) (written again : ℕ) → GotIt offer mine closed was now written → GotIt offer mine closed was other again → now ≡ other
got_once offer mine closed was now other written again one two =
    let count : written ≡ again = count_once (images_of mine.graph.cars) offer written again one.count two.count in
    let pages = lowest_once (used_pages mine.graph) one.changes.pages two.changes.pages one.lowest two.lowest (one.changes.count ∙ count ∙ sym two.changes.count) in
    let begun = begun_once offer mine.graph.cars one.laid.begun two.laid.begun one.laid.is_begun two.laid.is_begun in
    one.laid.bytes
    ∙ (λ i. settled_on (cars_offered offer) (pages i) (begun i) (attached mine.current.slot mine.current.header 0 closed) was)
    ∙ sym two.laid.bytes
