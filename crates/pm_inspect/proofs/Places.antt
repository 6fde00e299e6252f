-- Trains gone over place by place.
use Rattle.std.proofs.Common.{◌≡◌, ℕ, ◌<◌, ◌+◌, ◌++◌, List, length, map, take, get_or, slice_index, ap, sym, subst, ◌∙◌}
use Rattle.std.specs.Prelude.{IsSomeAnd}
use Rattle.std.specs.List.{flat_map}
use Rattle.std.proofs.lemmas.List.{get_or-map, take_more, flat_map_more}
use Rattle.pm_trains.specs.Trains.{Train, cars_at}
use Rattle.pm_trains.specs.Sound.{Rise}
use Rattle.pm_trains.proofs.Numbers.{cars_there}

-- what holds of a train's cars, found by the number at a place, holds of the train at that place
pub at_place : (ts : List Train) (place number : ℕ) (d : Train) (P : Train → Type 0) → Rise 0 ts → place < length ts → number ≡ slice_index (map (λ (t : Train). t.number) ts) place
    → IsSomeAnd (cars_at ts number) (λ cars. P (record { number = number; cars = cars })) → P (get_or ts place d)
at_place ts place number d P rise inside is holds =
    let named : number ≡ (get_or ts place d).number = is ∙ get_or-map (λ (t : Train). t.number) ts place d 0 inside in
    let there = cars_there 0 ts number place d rise (record { inside = inside; named = λ e. sym (is ∙ get_or-map (λ (t : Train). t.number) ts place e 0 inside) }) in
    let here : P (record { number = number; cars = (get_or ts place d).cars }) = subst (λ o. IsSomeAnd o (λ cars. P (record { number = number; cars = cars }))) there holds in
    subst (λ n. P (record { number = n; cars = (get_or ts place d).cars })) named here

-- the texts of one more member of a list
pub text_more : {X : Type 0} (f : X → List ℕ) (before : List ℕ) (xs : List X) (i : ℕ) (d : X) → i < length xs → (before ++ flat_map f (take i xs)) ++ f (get_or xs i d) ≡ before ++ flat_map f (take (i + 1) xs)
text_more f before xs i d inside = flat_map_more f before (take i xs) (get_or xs i d) ∙ sym (ap (λ ys. before ++ flat_map f ys) (take_more xs i d inside))
