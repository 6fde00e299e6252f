-- Settled cars that are taken one by one.
use Rattle.std.proofs.Common.{◌≡◌, ℕ, ◌+◌, ◌<◌, List, [], ◌∷◌, ◌++◌, length, map, take, drop, get_or, refl, sym, ap, ◌∙◌, subst, arith, append_assoc}
use Rattle.std.specs.List.{AllByRecursion, flat_map}
use Rattle.std.proofs.lemmas.List.{drop_more, take_more}
use Rattle.pm_image.specs.declared.settled.KeptPage.{KeptPage}
use Rattle.pm_saving.specs.Progress as seen
use Rattle.pm_saving.specs.Progress.{page_in}
use Rattle.pm_save.specs.declared.progress.place.Place.{Place}
use Rattle.pm_save.specs.declared.progress.place.Place.TheVariants.{Clean, Unwritten, Written}
use Rattle.pm_save.specs.declared.progress.place.PlacedCar.{PlacedCar}
use Rattle.pm_save.specs.Progress.Seen.{car_seen, clean_at, place_seen}
use Rattle.pm_save.specs.Progress.Kept.{IsWithin}
use Rattle.pm_save.specs.Progress.Taken.{ArePlacesApart, StaysBut, StaysFor, pages_of}

-- lists one behind another
pub flat_more : {A B : Type 0} (f : A → List B) (xs ys : List A) → flat_map f (xs ++ ys) ≡ flat_map f xs ++ flat_map f ys
flat_more f [] ys = refl
flat_more f (x ∷ xs) ys = ap (λ rest. f x ++ rest) (flat_more f xs ys) ∙ sym (append_assoc (f x) (flat_map f xs) (flat_map f ys))

pub nil_right : {A : Type 0} (xs : List A) → xs ++ [] ≡ xs
nil_right [] = refl
nil_right (x ∷ xs) = ap (λ rest. x ∷ rest) (nil_right xs)

pub map_both : {A B : Type 0} (f : A → B) (xs ys : List A) → map f (xs ++ ys) ≡ map f xs ++ map f ys
map_both f [] ys = refl
map_both f (x ∷ xs) ys = ap (λ rest. f x ∷ rest) (map_both f xs ys)

pub kept_more : (settled : List KeptPage) (cars : List PlacedCar) (i : ℕ) (one : PlacedCar) → i < length cars → one ≡ get_or cars i one
    → pages_of settled (take (i + 1) cars) ≡ pages_of settled (take i cars) ++ page_in (place_seen settled one.place)
kept_more settled cars i one low is =
    ap (pages_of settled) (take_more cars i one low)
    ∙ ap (flat_map (λ (one : seen.PlacedCar). page_in one.place)) (map_both (car_seen settled) (take i cars) (get_or cars i one ∷ []))
    ∙ flat_more (λ (one : seen.PlacedCar). page_in one.place) (map (car_seen settled) (take i cars)) (car_seen settled (get_or cars i one) ∷ [])
    ∙ ap (λ (pages : List KeptPage). pages_of settled (take i cars) ++ pages) (nil_right (page_in (place_seen settled (get_or cars i one).place)) ∙ ap (λ (one : PlacedCar). page_in (place_seen settled one.place)) (sym is))

pub same_at : {A : Type 0} (xs ys : List A) (i : ℕ) (d : A) → drop i xs ≡ drop i ys → i < length xs → i < length ys → (get_or xs i d ≡ get_or ys i d) × (drop (i + 1) xs ≡ drop (i + 1) ys)
same_at xs ys i d same low there =
    let two = sym (drop_more xs i d low) ∙ same ∙ drop_more ys i d there in
    (cc, cc)

-- another car's page stays
stays_by : (settled now new : List KeptPage) (place other : Place) → ArePlacesApart place other → StaysBut place now new → length new ≡ length now → place_seen now other ≡ place_seen settled other → IsWithin now other
    → (place_seen new other ≡ place_seen settled other) × IsWithin new other
stays_by settled now new (Clean index) (Clean other) apart but len same within = (ap clean_at (but other apart) ∙ same, omega (arith, len, within))
stays_by settled now new (Clean index) Unwritten apart but len same within = (same, tt)
stays_by settled now new (Clean index) (Written kept) apart but len same within = (same, tt)
stays_by settled now new Unwritten other apart but len same within = (ap (λ (now : List KeptPage). place_seen now other) but ∙ same, subst (λ (now : List KeptPage). IsWithin now other) (sym but) within)
stays_by settled now new (Written kept) other apart but len same within = (ap (λ (now : List KeptPage). place_seen now other) but ∙ same, subst (λ (now : List KeptPage). IsWithin now other) (sym but) within)

pub all_stay : (settled now new : List KeptPage) (place : Place) (others : List PlacedCar) → AllByRecursion (λ (other : PlacedCar). ArePlacesApart place other.place) others → StaysBut place now new → length new ≡ length now
    → AllByRecursion (StaysFor settled now) others → AllByRecursion (StaysFor settled new) others
all_stay settled now new place [] apart but len stays = tt
all_stay settled now new place (other ∷ others) apart but len stays =
    let here = stays_by settled now new place other.place apart.0 but len stays.0.same stays.0.within in
    (record { same = here.0; within = here.1 }, all_stay settled now new place others apart.1 but len stays.1)
