-- The cars that a copy of a space lists.
use Rattle.std.proofs.Common.{◌≡◌, ℕ, ◌<◌, ◌+◌, ◌==◌, ◌↔◌, Bool, true, false, if◌then◌else◌, refl, sym, ap, subst, ◌∙◌, List, [], ◌∷◌, ◌++◌, length, map, take, get_or, slice_index, Option, Some, IsSomeAnd, IsTrue, append_assoc}
use Rattle.std.specs.List.{flat_map, list_any}
use Rattle.std.specs.FinMap.{get}
use Rattle.std.proofs.lemmas.List.{append-nil, get_or-map, take_more}
use Rattle.std.proofs.lemmas.List.Concat.{flat_map-append}
use Rattle.std.proofs.lemmas.List.Folds.{list_any_at}
use Rattle.std.proofs.lemmas.Bool.{eq-eqb}
use Rattle.pm_cars.specs.Cars.{Car}
use Rattle.pm_trains.specs.Trains.{Train, cars_at, train_of}
use Rattle.pm_trains.specs.Sound.{Rise}
use Rattle.pm_trains.specs.Changes.{StandsIn}
use Rattle.pm_trains.proofs.Numbers.{cars_there}
use Rattle.pm_view.specs.View.{SpaceView}
use Rattle.pm_view.specs.Reading.{is_aside}
use Rattle.pm_image.specs.declared.settled.KeptPage.{KeptPage}
use Rattle.pm_copies.specs.Listed.{Listed, image_in, listed_car, listed_of}
use Rattle.pm_save.specs.declared.progress.place.PlacedCar.{PlacedCar}
use Rattle.pm_save.specs.Writer.Planned.{IsPlanned}

left : (b : Bool) (o : Option Car) (train number : ℕ) → b ≡ false → (if b then [] else image_in train number o) ≡ image_in train number o
left true o train number is = absurd cc
left false o train number is = refl

-- another one is, where it stands
pub listed_there : (view : SpaceView) (train number : ℕ) (o : Option Car) → is_aside view number ≡ false → get view.cars number ≡ o → listed_car view train number ≡ image_in train number o
listed_there view train number o kept is = left (is_aside view number) (get view.cars number) train number kept ∙ ap (image_in train number) is

-- each car of a train is found in it
pub housed_in : (ts : List Train) (train : ℕ) (cars : List ℕ) (k : ℕ) → cars_at ts train ≡ Some cars → ((car : ℕ) → (train_of ts car ≡ Some train) ↔ StandsIn ts car train) → k < length cars
    → train_of ts (get_or cars k 0) ≡ Some train
housed_in ts train cars k is law inside =
    (law (get_or cars k 0)).1 (subst (λ o. IsSomeAnd o (λ cs. IsTrue (list_any (λ c. c == get_or cars k 0) cs))) (sym is) (list_any_at (λ c. c == get_or cars k 0) cars k 0 inside (eq-eqb _ _ refl)))

-- a list and what one more gives
pub lists_more : {A : Type 0} (f : A → List Listed) (list : List Listed) (xs : List A) (i : ℕ) (d : A) → i < length xs
    → (list ++ flat_map f (take i xs)) ++ f (get_or xs i d) ≡ list ++ flat_map f (take (i + 1) xs)
lists_more {A} f list xs i d inside =
    let x = get_or xs i d in
    append_assoc list (flat_map f (take i xs)) (f x)
    ∙ ap (λ (ls : List Listed). list ++ ls) (ap (λ (ls : List Listed). flat_map f (take i xs) ++ ls) (sym (append-nil (f x))) ∙ sym (flat_map-append f (take i xs) (x ∷ [])) ∙ ap (flat_map f) (sym (take_more xs i d inside)))

-- the number of the train at a place
named : (ts : List Train) (place number : ℕ) (d : Train) → place < length ts → number ≡ slice_index (map (λ (t : Train). t.number) ts) place → number ≡ (get_or ts place d).number
named ts place number d inside is = is ∙ get_or-map (λ (t : Train). t.number) ts place d 0 inside

-- the cars of one train more
pub trains_more : (view : SpaceView) (settled : List KeptPage) (ts : List Train) (place number : ℕ) (d : Train) (old new : List PlacedCar) → Rise 0 ts → place < length ts → number ≡ slice_index (map (λ (t : Train). t.number) ts) place
    → IsPlanned settled (flat_map (listed_of view) (take place ts)) old
    → IsSomeAnd (cars_at ts number) (λ numbers. (list : List Listed) → IsPlanned settled list old → IsPlanned settled (list ++ flat_map (listed_car view number) numbers) new)
    → IsPlanned settled (flat_map (listed_of view) (take (place + 1) ts)) new
trains_more view settled ts place number d old new rise inside is had all =
    let t = get_or ts place d in
    let so_far = flat_map (listed_of view) (take place ts) in
    let here : IsPlanned settled (so_far ++ flat_map (listed_car view number) t.cars) new =
    subst (λ o. IsSomeAnd o (λ numbers. (list : List Listed) → IsPlanned settled list old → IsPlanned settled (list ++ flat_map (listed_car view number) numbers) new))
    (cars_there 0 ts number place d rise (record { inside = inside; named = λ e. sym (named ts place number e inside is) })) all so_far had in
    subst (λ (ls : List Listed). IsPlanned settled ls new)
    (ap (λ (n : ℕ). so_far ++ flat_map (listed_car view n) t.cars) (named ts place number d inside is) ∙ lists_more (listed_of view) [] ts place d inside) here
