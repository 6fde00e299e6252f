-- In which order cars are listed.
use Rattle.std.proofs.Common.{◌≡◌, ℕ, ◌+◌, ◌≤◌, ◌==◌, ◌||◌, Bool, true, false, cond, not, refl, ap, sym, subst, ◌∙◌, List, [], ◌∷◌, ◌++◌, map, Option, Some, None, arith, is_some, if◌then◌else◌}
use Rattle.std.specs.List.{flat_map, filter, AllByRecursion, count_by}
use Rattle.std.specs.FinMap.{get}
use Rattle.std.proofs.lemmas.List.{map-append}
use Rattle.std.proofs.lemmas.Bool.{eq-eqb}
use Rattle.std.proofs.lemmas.List.Sums.{sum_by-cons}
use Rattle.pm_cars.specs.Cars.{Car}
use Rattle.pm_trains.specs.Trains.{Train, is_among, train_of}
use Rattle.pm_trains.specs.Sound.{all_cars, places}
use Rattle.pm_image.specs.declared.car.CarImage.{CarImage}
use Rattle.pm_view.specs.View.{SpaceView}
use Rattle.pm_view.specs.Reading.{is_aside}
use Rattle.pm_view.specs.Law.{HeapLaw}
use Rattle.pm_copies.specs.Listed.{Listed, images, image_in, listed_car, listed_of, listed, listed_cars}
use Rattle.pm_law_copies.proofs.Lists.{all_append, all_weaker, count_append}
use Rattle.pm_law_copies.proofs.OpenedTrains.{in_a_train}

-- the numbers of listed cars
abbrev numbers : List Listed → List ℕ
numbers xs = map (λ (one : Listed). one.1.number) xs

module _ (view : SpaceView) (law : HeapLaw view) where
  abbrev Stands : ℕ → Type 0
  Stands n = is_some (get view.cars n) ≡ true

  filter_append : (xs ys : List ℕ) → filter (λ n. not (is_aside view n)) (xs ++ ys) ≡ filter (λ n. not (is_aside view n)) xs ++ filter (λ n. not (is_aside view n)) ys
  filter_append [] ys = refl
  filter_append (x ∷ xs) ys = elim (not (is_aside view x)) as (λ b. cond b (x ∷ filter (λ n. not (is_aside view n)) (xs ++ ys)) (filter (λ n. not (is_aside view n)) (xs ++ ys)) ≡ cond b (x ∷ filter (λ n. not (is_aside view n)) xs) (filter (λ n. not (is_aside view n)) xs) ++ filter (λ n. not (is_aside view n)) ys) [
    | true ↦ ap (λ rest. x ∷ rest) (filter_append xs ys)
    | false ↦ filter_append xs ys
  ]

  image_number : (train n : ℕ) (o : Option Car) → is_some o ≡ true → numbers (image_in train n o) ≡ n ∷ []
  image_number train n None some = cc
  image_number train n (Some car) some = refl

  car_number : (train n : ℕ) (aside : Bool) (rest : List ℕ) → Stands n → numbers (cond aside [] (image_in train n (get view.cars n))) ++ rest ≡ cond (not aside) (n ∷ rest) rest
  car_number train n true rest stands = refl
  car_number train n false rest stands = ap (λ xs. xs ++ rest) (image_number train n (get view.cars n) stands)

  train_numbers : (train : ℕ) (cars : List ℕ) → AllByRecursion Stands cars → numbers (flat_map (listed_car view train) cars) ≡ filter (λ n. not (is_aside view n)) cars
  train_numbers train [] all = refl
  train_numbers train (n ∷ cars) all =
      map-append (λ (one : Listed). one.1.number) (listed_car view train n) (flat_map (listed_car view train) cars)
      ∙ car_number train n (is_aside view n) (numbers (flat_map (listed_car view train) cars)) all.0
      ∙ ap (λ rest. cond (not (is_aside view n)) (n ∷ rest) rest) (train_numbers train cars all.1)

  all_numbers : (trains : List Train) → AllByRecursion Stands (all_cars trains) → numbers (flat_map (listed_of view) trains) ≡ filter (λ n. not (is_aside view n)) (all_cars trains)
  all_numbers [] all = refl
  all_numbers (t ∷ trains) all =
      map-append (λ (one : Listed). one.1.number) (listed_of view t) (flat_map (listed_of view) trains)
      ∙ (λ i. train_numbers t.number t.cars (first_part t.cars (all_cars trains) all) i ++ all_numbers trains (last_part t.cars (all_cars trains) all) i)
      ∙ sym (filter_append t.cars (all_cars trains))
    where
      first_part : (xs ys : List ℕ) → AllByRecursion Stands (xs ++ ys) → AllByRecursion Stands xs
      first_part [] ys all = tt
      first_part (x ∷ xs) ys all = (all.0, first_part xs ys all.1)

      last_part : (xs ys : List ℕ) → AllByRecursion Stands (xs ++ ys) → AllByRecursion Stands ys
      last_part [] ys all = all
      last_part (x ∷ xs) ys all = last_part xs ys all.1

  among_all : (cars : List ℕ) → ((n : ℕ) → is_among n cars ≡ true → Stands n) → AllByRecursion Stands cars
  among_all [] each = tt
  among_all (n ∷ cars) each = (each n (ap (λ b. b || is_among n cars) (eq-eqb n n refl)), among_all cars (λ m there. each m (either (n == m) (is_among m cars) there)))
    where
      either : (a b : Bool) → b ≡ true → (a || b) ≡ true
      either true b is = refl
      either false b is = is

  all_stand : AllByRecursion Stands (all_cars view.trains.trains)
  all_stand = among_all (all_cars view.trains.trains) (λ n there. sym (law.built.linked n) ∙ in_a_train view.trains.trains n ∙ there)

  as_numbers : (xs : List Listed) → map (λ (car : CarImage). car.number) (images xs) ≡ numbers xs
  as_numbers [] = refl
  as_numbers (one ∷ xs) = ap (λ rest. one.1.number ∷ rest) (as_numbers xs)

  -- the cars that are listed are all cars in their order, without those that are set aside
  pub listed_numbers : map (λ (car : CarImage). car.number) (listed_cars view) ≡ filter (λ n. not (is_aside view n)) (all_cars view.trains.trains)
  listed_numbers = as_numbers (listed view) ∙ all_numbers view.trains.trains all_stand

-- ---- the trains of listed cars

either_second : (a b : Bool) → b ≡ true → (a || b) ≡ true
either_second true b is = refl
either_second false b is = is

-- what is among the cars of a list is counted
among_counted : (n : ℕ) (cars : List ℕ) → is_among n cars ≡ true → 1 ≤ count_by (λ c. c == n) cars
among_counted n [] there = cc
among_counted n (m ∷ cars) there = subst (λ k. 1 ≤ k) (sym (sum_by-cons (λ c. cond (c == n) 1 0) m cars)) (elim (m == n) as (λ b. (b || is_among n cars) ≡ true → 1 ≤ cond b 1 0 + count_by (λ c. c == n) cars) [
  | true ↦ λ there. omega arith
  | false ↦ λ there. let later = among_counted n cars there in omega (arith, later)
] there)

not_twice : (n : ℕ) (cars others : List ℕ) (b : Bool) → is_among n cars ≡ b → is_among n others ≡ true → count_by (λ c. c == n) (cars ++ others) ≤ 1 → b ≡ false
not_twice n cars others false here there once = refl
not_twice n cars others true here there once =
    let one = among_counted n cars here in
    let two = among_counted n others there in
    let sum = count_append (λ c. c == n) cars others in
    absurd (omega (arith, one, two, sum, once))

module _ (view : SpaceView) where
  -- it is listed with this train, and among these cars
  abbrev IsIn : ℕ → List ℕ → Listed → Type 0
  IsIn train cars one = (one.0 ≡ train) × (is_among one.1.number cars ≡ true)

  image_in_train : (train n : ℕ) (cars : List ℕ) (o : Option Car) → AllByRecursion (IsIn train (n ∷ cars)) (image_in train n o)
  image_in_train train n cars None = tt
  image_in_train train n cars (Some car) = ((refl, ap (λ b. b || is_among n cars) (eq-eqb n n refl)), tt)

  car_in_train : (train n : ℕ) (cars : List ℕ) (aside : Bool) → AllByRecursion (IsIn train (n ∷ cars)) (cond aside [] (image_in train n (get view.cars n)))
  car_in_train train n cars true = tt
  car_in_train train n cars false = image_in_train train n cars (get view.cars n)

  cars_in_train : (train : ℕ) (cars : List ℕ) → AllByRecursion (IsIn train cars) (flat_map (listed_car view train) cars)
  cars_in_train train [] = tt
  cars_in_train train (n ∷ cars) =
      all_append (IsIn train (n ∷ cars)) (listed_car view train n) (flat_map (listed_car view train) cars) (car_in_train train n cars (is_aside view n))
      (all_weaker (IsIn train cars) (IsIn train (n ∷ cars)) (flat_map (listed_car view train) cars) (λ one is. (is.0, either_second (n == one.1.number) (is_among one.1.number cars) is.1)) (cars_in_train train cars))

  -- it stands in the train with which it is listed
  abbrev IsAt : List Train → Listed → Type 0
  IsAt trains one = (is_among one.1.number (all_cars trains) ≡ true) × (train_of trains one.1.number ≡ Some one.0)

  among_first : (n : ℕ) (xs ys : List ℕ) → is_among n xs ≡ true → is_among n (xs ++ ys) ≡ true
  among_first n [] ys there = cc
  among_first n (x ∷ xs) ys there = elim (x == n) as (λ b. (b || is_among n xs) ≡ true → (b || is_among n (xs ++ ys)) ≡ true) [
    | true ↦ λ there. refl
    | false ↦ λ there. among_first n xs ys there
  ] there

  among_second : (n : ℕ) (xs ys : List ℕ) → is_among n ys ≡ true → is_among n (xs ++ ys) ≡ true
  among_second n [] ys there = there
  among_second n (x ∷ xs) ys there = either_second (x == n) (is_among n (xs ++ ys)) (among_second n xs ys there)

  fewer : (n : ℕ) (xs ys : List ℕ) → count_by (λ c. c == n) (xs ++ ys) ≤ 1 → count_by (λ c. c == n) ys ≤ 1
  fewer n xs ys once = let sum = count_append (λ c. c == n) xs ys in omega (arith, sum, once)

  trains_right : (trains : List Train) → ((n : ℕ) → places n trains ≤ 1) → AllByRecursion (IsAt trains) (flat_map (listed_of view) trains)
  trains_right [] once = tt
  trains_right (t ∷ trains) once =
      all_append (IsAt (t ∷ trains)) (listed_of view t) (flat_map (listed_of view) trains)
      (all_weaker (IsIn t.number t.cars) (IsAt (t ∷ trains)) (listed_of view t)
      (λ one is. (among_first one.1.number t.cars (all_cars trains) is.1, ap (λ b. if b then Some t.number else train_of trains one.1.number) is.1 ∙ ap Some (sym is.0)))
      (cars_in_train t.number t.cars))
      (all_weaker (IsAt trains) (IsAt (t ∷ trains)) (flat_map (listed_of view) trains)
      (λ one is. (
        among_second one.1.number t.cars (all_cars trains) is.0,
        ap (λ b. if b then Some t.number else train_of trains one.1.number) (not_twice one.1.number t.cars (all_cars trains) (is_among one.1.number t.cars) refl is.0 (once one.1.number)) ∙ is.1,
      ))
      (trains_right trains (λ n. fewer n t.cars (all_cars trains) (once n))))

  -- each car is listed with the train in which it stands
  pub listed_trains : HeapLaw view → AllByRecursion (λ (one : Listed). train_of view.trains.trains one.1.number ≡ Some one.0) (listed view)
  listed_trains law = all_weaker (IsAt view.trains.trains) (λ (one : Listed). train_of view.trains.trains one.1.number ≡ Some one.0) (listed view) (λ one is. is.1) (trains_right view.trains.trains law.built.trains.single)
