-- The cars that a store lists, found by their numbers.
use Rattle.std.proofs.Common.{◌≡◌, ℕ, suc, ◌==◌, Bool, true, false, cond, List, [], ◌∷◌, map, get_or, Option, Some, None, refl, sym, ap, subst, ◌∙◌, if◌then◌else◌}
use Rattle.std.specs.Prelude.{option_map}
use Rattle.std.specs.List.{AllByRecursion}
use Rattle.std.specs.Ordering.{nat_cmp}
use Rattle.std.specs.FinMap.{get, get-from_entries}
use Rattle.std.specs.FinMap.Entries.{find}
use Rattle.std.proofs.lemmas.Cmp.{nat_cmp_total}
use Rattle.std.proofs.lemmas.Option.{slice_get-get_or}
use Rattle.pm_cars.specs.Cars.{Car}
use Rattle.pm_image.specs.declared.car.CarImage.{CarImage}
use Rattle.pm_image.specs.declared.settled.KeptPage.{KeptPage}
use Rattle.pm_image.specs.Graphs.{images_of}
use Rattle.pm_copies.specs.Listed.{Listed, images}
use Rattle.pm_law_copies.proofs.Lists.{all_at, all_mapped, nat_turned}
use Rattle.pm_saving.specs.Progress.{car_of, cars_of, image_at, slots_of}
use Rattle.pm_saving.specs.Beginning.{AreFrozen}
use Rattle.pm_save.specs.Writer.Planned.{first_at}
use Rattle.pm_save.proofs.WriterLemmas.PlaceLemmas.{first_within, settled_is, settled_number}
use Rattle.pm_ship.specs.Cars.{AreFoundAlone, cars_kept}

all_under : (P : CarImage → Type 0) (cars : List KeptPage) → AllByRecursion P (images_of cars) → AllByRecursion (λ (kept : KeptPage). P kept.image) cars
all_under P [] all = tt
all_under P (kept ∷ cars) all = (all.0, all_under P cars all.1)

-- cars that are found as they are listed
pub found_alone : (list : List Listed) (cars : List KeptPage) → images list ≡ images_of cars → AreFrozen (cars_of (images list)) list → AreFoundAlone cars
found_alone list cars same frozen =
    let here : AllByRecursion (λ (image : CarImage). image ≡ image_at (cars_of (images list)) image.number) (images list) =
    all_mapped (λ (image : CarImage). image ≡ image_at (cars_of (images list)) image.number) (λ (one : Listed). one.1) list frozen in
    all_under (λ (image : CarImage). image ≡ image_at (cars_kept cars) image.number) cars
    (subst (λ (all : List CarImage). AllByRecursion (λ (image : CarImage). image ≡ image_at (cars_of all) image.number) all) same here)

-- the slots of a car that is found
pub slots_there : (cars : List KeptPage) (number place : ℕ) (d : KeptPage) → AreFoundAlone cars → first_at number cars ≡ Some place → (get_or cars place d).image.slots ≡ slots_of (get (cars_kept cars) number)
slots_there cars number place d alone first =
    let kept = get_or cars place d in
    let here = all_at (λ (kept : KeptPage). kept.image ≡ image_at (cars_kept cars) kept.image.number) cars place kept alone (slice_get-get_or cars place d (first_within number cars place first)) in
    let is = settled_number number cars kept (settled_is number cars place d first) in
    ap (λ (image : CarImage). image.slots) here ∙ ap (λ (n : ℕ). slots_of (get (cars_kept cars) n)) is

none_first : (b : Bool) (o : Option ℕ) → (if b then Some 0 else option_map suc o) ≡ None → (b ≡ false) × (o ≡ None)
none_first true o is = absurd cc
none_first false None is = (refl, refl)
none_first false (Some place) is = absurd cc

-- a car under its number
abbrev filed : CarImage → ℕ × Car
filed image = (image.number, car_of image)

none_filed : (number : ℕ) (cars : List KeptPage) → first_at number cars ≡ None → find nat_cmp number (map filed (images_of cars)) ≡ None
none_filed number [] none = refl
none_filed number (kept ∷ cars) none =
    let apart = none_first (kept.image.number == number) (first_at number cars) none in
    ap (λ (b : Bool). cond b (Some (car_of kept.image)) (find nat_cmp number (map filed (images_of cars)))) (sym (nat_turned kept.image.number number) ∙ apart.0)
    ∙ none_filed number cars apart.1

-- no car has the number
pub slots_none : (cars : List KeptPage) (number : ℕ) → first_at number cars ≡ None → [] ≡ slots_of (get (cars_kept cars) number)
slots_none cars number none =
    ap slots_of (sym (get-from_entries nat_cmp_total (map filed (images_of cars)) number ∙ none_filed number cars none))
