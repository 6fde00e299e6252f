-- What opening makes of cars and roots is built of the cars that have an object, with their trains numbered anew.
use Rattle.std.proofs.Common.{◌≡◌, ℕ, suc, ◌+◌, ◌==◌, Bool, true, false, cond, refl, ap, sym, subst, ◌∙◌, List, [], ◌∷◌, ◌++◌, map, arith, if◌then◌else◌}
use Rattle.std.specs.List.{flat_map}
use Rattle.std.specs.FinMap.{from_entries}
use Rattle.std.proofs.lemmas.Bool.{eqb-true, eq-eqb, true≢false}
use Rattle.std.proofs.lemmas.Bool.Decides.{nat_tests}
use Rattle.pm_cars.specs.Cars.{Car}
use Rattle.pm_trains.specs.Trains.{Train}
use Rattle.pm_image.specs.declared.car.CarImage.{CarImage}
use Rattle.pm_copies.specs.Listed.{Listed, images}
use Rattle.pm_copies.specs.Opened.{has_object, opened_car, opened_entry, opened_cars, kept_car, before, grouped, numbered, opened_trains}
use Rattle.pm_copies.specs.Built.{Placed, built_cars, place_of, built_trains, opened_placed, renumbered_on, renumbered, opening_cars}

-- the cars as entries of a map
abbrev rows : List Placed → List (ℕ × Car)
rows placed = map (λ (one : Placed). (one.1.number, one.1)) placed

-- ---- cars do not change with the numbers of their trains

rows_on : (now train : ℕ) (placed : List Placed) → rows (renumbered_on now train placed) ≡ rows placed
rows_on now train [] = refl
rows_on now train (one ∷ placed) = elim (train == one.0) as (λ b. rows (if b then (now, one.1) ∷ renumbered_on now one.0 placed else (now + 1, one.1) ∷ renumbered_on (now + 1) one.0 placed) ≡ rows (one ∷ placed)) [
  | true ↦ ap (λ rest. (one.1.number, one.1) ∷ rest) (rows_on now one.0 placed)
  | false ↦ ap (λ rest. (one.1.number, one.1) ∷ rest) (rows_on (now + 1) one.0 placed)
]

rows_same : (placed : List Placed) → rows (renumbered placed) ≡ rows placed
rows_same [] = refl
rows_same (one ∷ placed) = ap (λ rest. (one.1.number, one.1) ∷ rest) (rows_on 1 one.0 placed)

module _ (all : List CarImage) where
  rows_opened : (listed : List Listed) → rows (flat_map (opened_placed all) listed) ≡ flat_map (opened_entry all) (images listed)
  rows_opened [] = refl
  rows_opened (one ∷ listed) = elim (has_object one.1.slots) as (λ b. rows (cond b ((one.0, opened_car all one.1) ∷ []) [] ++ flat_map (opened_placed all) listed) ≡ cond b ((one.1.number, opened_car all one.1) ∷ []) [] ++ flat_map (opened_entry all) (images listed)) [
    | true ↦ ap (λ rest. (one.1.number, opened_car all one.1) ∷ rest) (rows_opened listed)
    | false ↦ rows_opened listed
  ]

  places_opened : (listed : List Listed) → map place_of (flat_map (opened_placed all) listed) ≡ flat_map kept_car listed
  places_opened [] = refl
  places_opened (one ∷ listed) = elim (has_object one.1.slots) as (λ b. map place_of (cond b ((one.0, opened_car all one.1) ∷ []) [] ++ flat_map (opened_placed all) listed) ≡ cond b ((one.0, one.1.number) ∷ []) [] ++ flat_map kept_car listed) [
    | true ↦ ap (λ rest. (one.0, one.1.number) ∷ rest) (places_opened listed)
    | false ↦ places_opened listed
  ]

pub same_cars : (listed : List Listed) → built_cars (opening_cars listed) ≡ opened_cars (images listed)
same_cars listed = ap from_entries (rows_same (flat_map (opened_placed (images listed)) listed) ∙ rows_opened (images listed) listed)

-- ---- trains are the same once they are numbered from 1

abbrev cars_of : List Train → List (List ℕ)
cars_of ts = map (λ (t : Train). t.cars) ts

numbered_same : (n : ℕ) (xs ys : List Train) → cars_of xs ≡ cars_of ys → numbered n xs ≡ numbered n ys
numbered_same n xs ys same = by_cars n xs ∙ ap (from_cars n) same ∙ sym (by_cars n ys)
  where
    from_cars : ℕ → List (List ℕ) → List Train
    from_cars n [] = record { number = n; cars = [] } ∷ []
    from_cars n (cars ∷ rest) = record { number = n; cars = cars } ∷ from_cars (suc n) rest

    by_cars : (n : ℕ) (ts : List Train) → numbered n ts ≡ from_cars n (cars_of ts)
    by_cars n [] = refl
    by_cars n (t ∷ ts) = ap (λ rest. record { number = n; cars = t.cars } ∷ rest) (by_cars (suc n) ts)

-- the first of these trains has the number, where there is one
abbrev Begins : ℕ → List Train → Type 0
Begins n [] = Unit {0}
Begins n (t ∷ ts) = t.number ≡ n

begins_before : (train car : ℕ) (ts : List Train) → Begins train (before train car ts)
begins_before train car [] = refl
begins_before train car (t ∷ ts) = elim (t.number == train) as (λ b. (t.number == train) ≡ b → Begins train (cond b (record t { cars = car ∷ t.cars } ∷ ts) (record { number = train; cars = car ∷ [] } ∷ t ∷ ts))) [
  | true ↦ λ is. eqb-true t.number train is
  | false ↦ λ is. refl
] refl

-- a car goes to the front of like trains alike, where both tests say the same
before_same : (m u car : ℕ) (xs ys : List Train) → cars_of xs ≡ cars_of ys → ((x y : Train) (xs' ys' : List Train) → xs ≡ x ∷ xs' → ys ≡ y ∷ ys' → (x.number == m) ≡ (y.number == u)) → cars_of (before m car xs) ≡ cars_of (before u car ys)
before_same m u car [] [] same tests = refl
before_same m u car [] (y ∷ ys) same tests = cc
before_same m u car (x ∷ xs) [] same tests = cc
before_same m u car (x ∷ xs) (y ∷ ys) same tests =
    ap (λ b. cars_of (cond b (record x { cars = car ∷ x.cars } ∷ xs) (record { number = m; cars = car ∷ [] } ∷ x ∷ xs))) (tests x y xs ys refl refl)
    ∙ elim (y.number == u) as (λ b. cars_of (cond b (record x { cars = car ∷ x.cars } ∷ xs) (record { number = m; cars = car ∷ [] } ∷ x ∷ xs)) ≡ cars_of (cond b (record y { cars = car ∷ y.cars } ∷ ys) (record { number = u; cars = car ∷ [] } ∷ y ∷ ys))) [
      | true ↦ (λ i. (car ∷ first i) ∷ rest i)
      | false ↦ ap (λ all. (car ∷ []) ∷ all) same
    ]
  where
    head : List (List ℕ) → List ℕ
    head [] = []
    head (cars ∷ others) = cars

    others_of : List (List ℕ) → List (List ℕ)
    others_of [] = []
    others_of (cars ∷ others) = others

    first : x.cars ≡ y.cars
    first = ap head same

    rest : cars_of xs ≡ cars_of ys
    rest = ap others_of same

-- the first train of a list of cars has the number of the first car's
abbrev first_train : ℕ → List Placed → ℕ
first_train train [] = train
first_train train (one ∷ placed) = one.0

begins_grouped : (train : ℕ) (placed : List Placed) → Begins (first_train train placed) (grouped (map place_of placed))
begins_grouped train [] = tt
begins_grouped train (one ∷ placed) = begins_before one.0 one.1.number (grouped (map place_of placed))

begins_is : (n : ℕ) (xs : List Train) (x : Train) (xs' : List Train) → xs ≡ x ∷ xs' → Begins n xs → x.number ≡ n
begins_is n xs x xs' is begins = subst (Begins n) is begins

-- where the train before these had one number and got another, the next one is that one in both, or in neither
next_test : (now train : ℕ) (placed : List Placed) → (first_train now (renumbered_on now train placed) == now) ≡ (first_train train placed == train)
next_test now train [] = eq-eqb now now refl ∙ sym (eq-eqb train train refl)
next_test now train (one ∷ placed) = elim (train == one.0) as (λ b. (train == one.0) ≡ b → (first_train now (if b then (now, one.1) ∷ renumbered_on now one.0 placed else (now + 1, one.1) ∷ renumbered_on (now + 1) one.0 placed) == now) ≡ (one.0 == train)) [
  | true ↦ λ is. eq-eqb now now refl ∙ sym (eq-eqb one.0 train (sym (eqb-true train one.0 is)))
  | false ↦ λ is. more now ∙ sym (other (one.0 == train) refl is)
] refl
  where
    more : (n : ℕ) → ((n + 1) == n) ≡ false
    more n = grind (arith, nat_tests)

    other : (b : Bool) → (one.0 == train) ≡ b → (train == one.0) ≡ false → b ≡ false
    other true is not = absurd (true≢false (sym (eq-eqb train one.0 (sym (eqb-true one.0 train is))) ∙ not))
    other false is not = refl

grouped_on : (now train : ℕ) (placed : List Placed) → cars_of (grouped (map place_of (renumbered_on now train placed))) ≡ cars_of (grouped (map place_of placed))
grouped_on now train [] = refl
grouped_on now train (one ∷ placed) = elim (train == one.0) as (λ b. cars_of (grouped (map place_of (if b then (now, one.1) ∷ renumbered_on now one.0 placed else (now + 1, one.1) ∷ renumbered_on (now + 1) one.0 placed))) ≡ cars_of (grouped (map place_of (one ∷ placed)))) [
  | true ↦ step now (grouped_on now one.0 placed)
  | false ↦ step (now + 1) (grouped_on (now + 1) one.0 placed)
]
  where
    step : (m : ℕ) → cars_of (grouped (map place_of (renumbered_on m one.0 placed))) ≡ cars_of (grouped (map place_of placed)) → cars_of (before m one.1.number (grouped (map place_of (renumbered_on m one.0 placed)))) ≡ cars_of (before one.0 one.1.number (grouped (map place_of placed)))
    step m same = before_same m one.0 one.1.number (grouped (map place_of (renumbered_on m one.0 placed))) (grouped (map place_of placed)) same (λ x y xs ys is is_too.
        ap (λ n. n == m) (begins_is (first_train m (renumbered_on m one.0 placed)) _ x xs is (begins_grouped m (renumbered_on m one.0 placed)))
        ∙ next_test m one.0 placed
        ∙ ap (λ n. n == one.0) (sym (begins_is (first_train one.0 placed) _ y ys is_too (begins_grouped one.0 placed))))

grouped_same : (placed : List Placed) → cars_of (grouped (map place_of (renumbered placed))) ≡ cars_of (grouped (map place_of placed))
grouped_same [] = refl
grouped_same (one ∷ placed) = before_same 1 one.0 one.1.number (grouped (map place_of (renumbered_on 1 one.0 placed))) (grouped (map place_of placed)) (grouped_on 1 one.0 placed) (λ x y xs ys is is_too.
    ap (λ n. n == 1) (begins_is (first_train 1 (renumbered_on 1 one.0 placed)) _ x xs is (begins_grouped 1 (renumbered_on 1 one.0 placed)))
    ∙ next_test 1 one.0 placed
    ∙ ap (λ n. n == one.0) (sym (begins_is (first_train one.0 placed) _ y ys is_too (begins_grouped one.0 placed))))

pub same_trains : (listed : List Listed) → built_trains (opening_cars listed) ≡ opened_trains listed
same_trains listed =
    let placed : List Placed = flat_map (opened_placed (images listed)) listed in
    let trains : numbered 1 (grouped (map place_of (renumbered placed))) ≡ numbered 1 (grouped (flat_map kept_car listed)) =
    numbered_same 1 (grouped (map place_of (renumbered placed))) (grouped (map place_of placed)) (grouped_same placed) ∙ ap (λ kept. numbered 1 (grouped kept)) (places_opened (images listed) listed) in
    λ i. record { trains = trains i; births = 0 }
