-- Trains where the oldest lost its first car.
use Rattle.std.proofs.Common.{◌≡◌, ℕ, ◌<◌, ◌≤◌, ◌==◌, ◌&&◌, nat_lt, Bool, true, false, cond, not, refl, ap, sym, subst, ◌∙◌, List, [], ◌∷◌, length, drop, Some, None, arith}
use Rattle.std.specs.Option.{unwrap_or, option_and_then}
use Rattle.std.specs.List.{slice_get}
use Rattle.std.proofs.lemmas.Bool.{eqb-true, eq-eqb, cond-true, cond-false, both_ways, true≢false, not_from_false, and_from, and_parts}
use Rattle.std.proofs.lemmas.Bool.Decides.{nat_tests}
use Rattle.pm_trains.specs.Trains.{Train, cars_at, train_of, is_among, first_car, oldest, youngest, with_cars, without_empty, without_first, left_standing}
use Rattle.pm_trains.specs.Sound as line
use Rattle.pm_trains.proofs.Numbers.{rise_changed, rise_emptied}
use Rattle.pm_trains.proofs.Found.{cars_removed, last_changed, last_emptied, home_first}
use Rattle.pm_trains.proofs.Cars.{single_removed}
use Rattle.pm_view.specs.Reading.{cars_of}
use Rattle.pm_view.specs.Law.{IsOldest}
use Rattle.pm_law_commands.proofs.RowLemmas.OpenTrain.{among_home}
use Rattle.pm_law_commands.proofs.RowLemmas.Born.{home_among}
use Rattle.pm_law_collect.proofs.PhasesLemmas.Small.{some_same, none_some}

pub bool_same : (a b : Bool) → (a ≡ true → b ≡ true) → (b ≡ true → a ≡ true) → a ≡ b
bool_same true b f g = sym (f refl)
bool_same false true f g = g refl
bool_same false false f g = refl

module _ (ts : List Train) (T c : ℕ) (rest : List ℕ) (rising : line.Rise 0 ts) (filled : line.Filled ts) (single : (q : ℕ) → line.places q ts ≤ 1) (old : IsOldest ts T) (cars : cars_at ts T ≡ Some (c ∷ rest)) where
  abbrev less : List Train
  less = without_first T ts

  rising_less : line.Rise 0 (with_cars T (λ cars. drop 1 cars) ts)
  rising_less = rise_changed 0 T (λ cars. drop 1 cars) ts rising

  pub first_is : first_car ts T ≡ Some c
  first_is = ap (option_and_then (λ (cars : List ℕ). slice_get cars 0)) cars

  pub home_less : (q : ℕ) → train_of less q ≡ cond (q == c) None (train_of ts q)
  home_less q = home_first ts T c (single c) first_is q

  pub single_less : (q : ℕ) → line.places q less ≤ 1
  single_less q = single_removed T ts single q

  pub youngest_less : youngest less ≡ youngest ts
  youngest_less = last_emptied 0 (with_cars T (λ cars. drop 1 cars) ts) ∙ last_changed 0 T (λ cars. drop 1 cars) ts

  -- the other trains keep their cars
  pub others_less : (m : ℕ) → (m == T) ≡ false → cars_at less m ≡ cars_at ts m
  others_less m apart = cars_removed ts T m rising rising_less filled ∙ cond-false _ _ _ apart

  pub open_less : cars_of less (youngest less) ≡ cars_of ts (youngest ts)
  open_less = ap (cars_of less) youngest_less ∙ ap (λ o. unwrap_or o []) (others_less (youngest ts) (turned_false T (youngest ts) old.1))
    where
      turned_false : (m n : ℕ) → (m == n) ≡ false → (n == m) ≡ false
      turned_false m n is = grind (arith, nat_tests, is)

  -- the train itself keeps its other cars, or goes
  pub own_less : cars_of less T ≡ rest
  own_less =
      ap (λ o. unwrap_or o [])
      (cars_removed ts T T rising rising_less filled ∙ cond-true _ _ _ (eq-eqb T T refl)
      ∙ (λ i. option_and_then (λ (cars : List ℕ). left_standing (old.1 i) (drop 1 cars)) (cars i)))
      ∙ by_rest rest
    where
      by_rest : (xs : List ℕ) → unwrap_or (left_standing false xs) [] ≡ xs
      by_rest [] = refl
      by_rest (x ∷ xs) = refl

  pub among_less : (e : ℕ) → is_among e (cars_of less T) ≡ (is_among e (cars_of ts T) && not (e == c))
  among_less e = bool_same (is_among e (cars_of less T)) (is_among e (cars_of ts T) && not (e == c)) forth back
    where
      by_same : (b : Bool) → (e == c) ≡ b → cond b None (train_of ts e) ≡ Some T → (train_of ts e ≡ Some T) × ((e == c) ≡ false)
      by_same true same is = cc
      by_same false same is = (is, same)

      forth : is_among e (cars_of less T) ≡ true → (is_among e (cars_of ts T) && not (e == c)) ≡ true
      forth among =
          let was = by_same (e == c) refl (sym (home_less e) ∙ among_home less T e single_less among) in
          and_from _ _ (home_among ts T e rising was.0) (not_from_false _ was.1)

      not_true : (b : Bool) → not b ≡ true → b ≡ false
      not_true true is = absurd (true≢false (sym is))
      not_true false is = refl

      back : (is_among e (cars_of ts T) && not (e == c)) ≡ true → is_among e (cars_of less T) ≡ true
      back both =
          let parts = and_parts (is_among e (cars_of ts T)) (not (e == c)) both in
          home_among less T e (rise_emptied 0 (with_cars T (λ cars. drop 1 cars) ts) rising_less) (home_less e ∙ cond-false _ _ _ (not_true (e == c) parts.1) ∙ among_home ts T e single parts.0)

-- the oldest train stays the oldest where it keeps a car
pub oldest_less : (ts : List Train) (T c d : ℕ) (rest : List ℕ) → line.Filled ts → oldest ts ≡ Some T → cars_at ts T ≡ Some (c ∷ d ∷ rest) → oldest (without_first T ts) ≡ Some T
oldest_less [] T c d rest filled old cars = cc
oldest_less (t ∷ ts) T c d rest filled old cars = by_case (length t.cars == 0) refl old
  where
    no_other : (ts : List Train) → (0 < length ts → 0 < length t.cars) → length t.cars ≡ 0 → ts ≡ []
    no_other [] has none = refl
    no_other (u ∷ us) has none = let some = has (omega arith) in absurd (omega (arith, some, none))

    kept : (cars : List ℕ) → t.cars ≡ cars → (n : ℕ) → cars ≡ c ∷ d ∷ rest → oldest (cond (nat_lt 0 (length ts) && (length (drop 1 cars) == 0)) (without_empty ts) (record t { cars = drop 1 cars } ∷ without_empty ts)) ≡ Some t.number
    kept cars at n is =
        subst (λ cars. oldest (cond (nat_lt 0 (length ts) && (length (drop 1 cars) == 0)) (without_empty ts) (record t { cars = drop 1 cars } ∷ without_empty ts)) ≡ Some t.number) (sym is) (either (nat_lt 0 (length ts)))
      where
        either : (b : Bool) → oldest (cond (b && (length (d ∷ rest) == 0)) (without_empty ts) (record t { cars = d ∷ rest } ∷ without_empty ts)) ≡ Some t.number
        either b = grind (arith, nat_tests)

    by_number : (b : Bool) → (t.number == T) ≡ b → t.number ≡ T → cond b (Some t.cars) (cars_at ts T) ≡ Some (c ∷ d ∷ rest)
        → oldest (without_empty (cond b (record t { cars = drop 1 t.cars } ∷ ts) (t ∷ with_cars T (λ cars. drop 1 cars) ts))) ≡ Some T
    by_number true same one is = kept t.cars refl T (some_same t.cars (c ∷ d ∷ rest) is) ∙ ap Some one
    by_number false same one is = absurd (both_ways (t.number == T) same (eq-eqb t.number T one))

    by_case : (b : Bool) → (length t.cars == 0) ≡ b → cond b (oldest ts) (Some t.number) ≡ Some T → oldest (without_first T (t ∷ ts)) ≡ Some T
    by_case true empty is = absurd (none_some T (sym (ap oldest (no_other ts filled.0 (eqb-true (length t.cars) 0 empty))) ∙ is))
    by_case false some is = by_number (t.number == T) refl (some_same t.number T is) cars
