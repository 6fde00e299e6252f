-- Which cars a copy lists that begins.
use Rattle.std.proofs.Common.{◌≡◌, sym, subst, List, [], ◌∷◌, ◌++◌, map}
use Rattle.std.specs.List.{AllByRecursion}
use Rattle.std.proofs.lemmas.List.{map-append}
use Rattle.pm_image.specs.declared.settled.KeptPage.{KeptPage}
use Rattle.pm_copies.specs.Listed.{Listed}
use Rattle.pm_saving.specs.Progress as seen
use Rattle.pm_saving.specs.Beginning.{ArePlaced, IsCarNumbered, IsPlacedAs}
use Rattle.pm_save.specs.declared.progress.place.PlacedCar.{PlacedCar}
use Rattle.pm_save.specs.Progress.Seen.{car_seen, place_seen}
use Rattle.pm_save.specs.Progress.Kept.{IsWithin}
use Rattle.pm_save.specs.Writer.Planned.{IsPlanned}

-- what holds of each holds with one more behind
pub all_behind : {A : Type 0} (P : A → Type 0) (xs : List A) (x : A) → AllByRecursion P xs → P x → AllByRecursion P (xs ++ x ∷ [])
all_behind P [] x all one = (one, tt)
all_behind P (first ∷ xs) x all one = (all.0, all_behind P xs x all.1 one)

placed_behind : (settled : List KeptPage) (list : List Listed) (cars : List seen.PlacedCar) (last : Listed) (one : seen.PlacedCar) → ArePlaced settled list cars
    → one.train ≡ last.0 → one.number ≡ last.1.number → IsPlacedAs settled last.1 one.place → ArePlaced settled (list ++ last ∷ []) (cars ++ one ∷ [])
placed_behind settled [] [] last one all train number place = (train, number, place, tt)
placed_behind settled [] (car ∷ cars) last one all train number place = absurd all
placed_behind settled (first ∷ list) [] last one all train number place = absurd all
placed_behind settled (first ∷ list) (car ∷ cars) last one all train number place =
    (all.0, all.1, all.2, placed_behind settled list cars last one all.3 train number place)

-- one car more
pub planned_behind : (settled : List KeptPage) (list : List Listed) (cars : List PlacedCar) (last : Listed) (one : PlacedCar) → IsPlanned settled list cars
    → one.train ≡ last.0 → one.number ≡ last.1.number → IsPlacedAs settled last.1 (place_seen settled one.place) → IsWithin settled one.place → IsCarNumbered (car_seen settled one)
    → IsPlanned settled (list ++ last ∷ []) (cars ++ one ∷ [])
planned_behind settled list cars last one had train number place within range =
    let all : map (car_seen settled) (cars ++ one ∷ []) ≡ map (car_seen settled) cars ++ car_seen settled one ∷ [] = map-append (car_seen settled) cars (one ∷ []) in
    record {
      placed = subst (ArePlaced settled (list ++ last ∷ [])) (sym all) (placed_behind settled list (map (car_seen settled) cars) last (car_seen settled one) had.placed train number place);
      within = all_behind (λ (one : PlacedCar). IsWithin settled one.place) cars one had.within within;
      numbered = subst (AllByRecursion IsCarNumbered) (sym all) (all_behind IsCarNumbered (map (car_seen settled) cars) (car_seen settled one) had.numbered range);
    }
