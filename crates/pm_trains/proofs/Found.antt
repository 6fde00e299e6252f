-- What the trains answer: the cars of a train after each change, and where a car is found.
use Rattle.std.proofs.Common.{◌≡◌, ℕ, ◌<◌, ◌≤◌, ◌==◌, ◌&&◌, Bool, true, false, cond, List, [], ◌∷◌, ◌++◌, length, drop, get_or, slice_get, nat_lt, zero, suc, Option, Some, None, IsSome, IsSomeAnd, IfSome, IsTrue, refl, sym, ap, ◌∙◌, arith, ⊎_elim}
use Rattle.std.specs.Option.{option_map, option_and_then}
use Rattle.std.proofs.lemmas.Bool.{eqb-true, cases_eq}
use Rattle.std.proofs.lemmas.Bool.Decides.{nat_tests}
use Rattle.std.proofs.lemmas.List.{get_or_default}
use Rattle.pm_trains.specs.Trains.{Train, cars_at, HasCar, empty_train, is_among, train_of, oldest, youngest, last_number, with_cars, appended, without_empty, without_first, left_standing}
use Rattle.pm_trains.specs.Sound.{Rise, Filled, all_cars, places}
use Rattle.pm_trains.proofs.Order.{agree, differ}
use Rattle.pm_trains.proofs.Numbers.{either, cars_there, last_over}
use Rattle.pm_trains.proofs.Cars.{places_cons, not_among, or_true, home_removed}
use Rattle.pm_trains.proofs.Filling.{goes, same_emptied}

-- what holds of each of two options holds of the one that is chosen
choose : {X : Type 0} (P : Option X → Type 0) (b : Bool) (x y : Option X) → (b ≡ true → P x) → (b ≡ false → P y) → P (cond b x y)
choose P true x y p q = p refl
choose P false x y p q = q refl

-- a train at a place stands
pub stands_there : (low : ℕ) (ts : List Train) (place number : ℕ) (d : Train) → Rise low ts → place < length ts → number ≡ (get_or ts place d).number → IsSome (cars_at ts number)
stands_there low ts place number d rise inside is =
    rw (cars_there low ts number place d rise (record { inside = inside; named = λ e. ap (λ (t : Train). t.number) (get_or_default ts place e d inside) ∙ sym is })) refl

-- numbers at or below the bound stand nowhere
pub none_below : (low : ℕ) (ts : List Train) (n : ℕ) → Rise low ts → n ≤ low → cars_at ts n ≡ None
none_below low [] n rise le = refl
none_below low (t ∷ ts) n rise le = rw (differ t.number n (λ e. omega (arith, rise.0, e))) (none_below t.number ts n rise.1 (omega (arith, rise.0)))

-- a train that stands is over the bound
over_step : (low n : ℕ) (cars : List ℕ) (ts : List Train) → Rise low ts → cars_at ts n ≡ Some cars → (n ≤ low → ⊥)
over_step low n cars ts rise is le = let none = none_below low ts n rise le in cc

pub stands_over : (low n : ℕ) (cars : List ℕ) (ts : List Train) → Rise low ts → cars_at ts n ≡ Some cars → low < n
stands_over low n cars ts rise is = let no_lower = over_step low n cars ts rise is in omega (arith, no_lower)

-- the last number is not below the bound
pub last_least : (low : ℕ) (ts : List Train) → Rise low ts → low ≤ last_number low ts
last_least low [] rise = omega arith
last_least low (t ∷ ts) rise = let over = last_over low (t ∷ ts) rise (omega arith) in omega (arith, over)

-- no number is greater than the last
pub last_greatest : (low n : ℕ) (cars : List ℕ) (ts : List Train) → Rise low ts → cars_at ts n ≡ Some cars → n ≤ last_number low ts
last_greatest low n cars [] rise is = cc
last_greatest low n cars (t ∷ ts) rise is = step (t.number == n) refl is (last_greatest t.number n cars ts rise.1)
  where
    step : (b : Bool) → (t.number == n) ≡ b → cond b (Some t.cars) (cars_at ts n) ≡ Some cars → (cars_at ts n ≡ Some cars → n ≤ last_number t.number ts) → n ≤ last_number t.number ts
    step true e is later = let same = eqb-true t.number n e in let least = last_least t.number ts rise.1 in omega (arith, same, least)
    step false e is later = later is

-- the first train that lists a car, and the first that has one
found_step : (P : List ℕ → Type 0) (b : Bool) (n : ℕ) (t : Train) (ts : List Train) → Rise t.number ts → (b ≡ true → P t.cars) → (answer : Option ℕ) → (answer ≡ Some n → IsSomeAnd (cars_at ts n) P)
    → cond b (Some t.number) answer ≡ Some n → IsSomeAnd (cars_at (t ∷ ts) n) P
found_step P true n t ts rise here answer later is = let same : t.number ≡ n = cc in rw (agree t.number n same) (here refl)
found_step P false n t ts rise here answer later is =
    let there = later is in
    rw (differ t.number n (λ e. below e there)) there
  where
    below : t.number ≡ n → IsSomeAnd (cars_at ts n) P → ⊥
    below e there = let none = none_below t.number ts n rise (omega (arith, e)) in absurd (rw none at there)

pub home_has : (low car n : ℕ) (ts : List Train) → Rise low ts → train_of ts car ≡ Some n → IsSomeAnd (cars_at ts n) (λ cars. IsTrue (is_among car cars))
home_has low car n [] rise is = cc
home_has low car n (t ∷ ts) rise is = found_step (λ cars. IsTrue (is_among car cars)) (is_among car t.cars) n t ts rise.1 (λ e. e) (train_of ts car) (home_has t.number car n ts rise.1) is

-- a train that lists a car is where it is found, where no car is listed twice
listed_step : (b : Bool) (car n : ℕ) (t : Train) (ts : List Train) → (IsSomeAnd (cars_at ts n) (λ cars. IsTrue (is_among car cars)) → places car ts ≡ 0 → ⊥)
    → IsSomeAnd (cond b (Some t.cars) (cars_at ts n)) (λ cars. IsTrue (is_among car cars)) → places car (t ∷ ts) ≡ 0 → ⊥
listed_step true car n t ts later among none = let missing = not_among car t.cars (omega (arith, places_cons car t ts, none)) in cc
listed_step false car n t ts later among none = later among (omega (arith, places_cons car t ts, none))

listed : (car n : ℕ) (ts : List Train) → IsSomeAnd (cars_at ts n) (λ cars. IsTrue (is_among car cars)) → places car ts ≡ 0 → ⊥
listed car n [] among none = absurd among
listed car n (t ∷ ts) among none = listed_step (t.number == n) car n t ts (listed car n ts) among none

back_step : (b : Bool) (car n : ℕ) (t : Train) (ts : List Train) → (t.number == n) ≡ b → places car (t ∷ ts) ≤ 1 → (places car ts ≤ 1 → IsSomeAnd (cars_at ts n) (λ cars. IsTrue (is_among car cars)) → train_of ts car ≡ Some n)
    → IsSomeAnd (cond b (Some t.cars) (cars_at ts n)) (λ cars. IsTrue (is_among car cars)) → train_of (t ∷ ts) car ≡ Some n
back_step true car n t ts e single later among = rw among (ap Some (eqb-true t.number n e))
back_step false car n t ts e single later among =
    let some = listed car n ts among in
    let sum = places_cons car t ts in
    rw (not_among car t.cars (omega (arith, sum, some, single))) (later (omega (arith, sum, single)) among)

pub home_back : (car n : ℕ) (ts : List Train) → places car ts ≤ 1 → IsSomeAnd (cars_at ts n) (λ cars. IsTrue (is_among car cars)) → train_of ts car ≡ Some n
home_back car n [] single among = absurd among
home_back car n (t ∷ ts) single among = back_step (t.number == n) car n t ts refl single (home_back car n ts) among

-- the cars of each train where one train has others
same_step : (b : Bool) (n : ℕ) (change : List ℕ → List ℕ) (t : Train) (ts : List Train) → (t.number == n) ≡ b → cars_at (with_cars n change ts) n ≡ option_map change (cars_at ts n)
    → cars_at (cond b (record t { cars = change t.cars } ∷ ts) (t ∷ with_cars n change ts)) n ≡ option_map change (cond b (Some t.cars) (cars_at ts n))
same_step true n change t ts e later = rw e refl
same_step false n change t ts e later = rw e later

cars_changed_same : (n : ℕ) (change : List ℕ → List ℕ) (ts : List Train) → cars_at (with_cars n change ts) n ≡ option_map change (cars_at ts n)
cars_changed_same n change [] = refl
cars_changed_same n change (t ∷ ts) = same_step (t.number == n) n change t ts refl (cars_changed_same n change ts)

cars_changed_other : (n m : ℕ) (change : List ℕ → List ℕ) (ts : List Train) → (m ≡ n → ⊥) → cars_at (with_cars n change ts) m ≡ cars_at ts m
cars_changed_other n m change [] ne = refl
cars_changed_other n m change (t ∷ ts) ne =
    either (λ xs. cars_at xs m ≡ cars_at (t ∷ ts) m) (t.number == n) _ _ (λ e. rw (differ t.number m (λ same. ne (sym same ∙ eqb-true t.number n e))) refl)
    (λ _. ap (cond (t.number == m) (Some t.cars)) (cars_changed_other n m change ts ne))

pub cars_changed : (n m : ℕ) (change : List ℕ → List ℕ) (ts : List Train) → cars_at (with_cars n change ts) m ≡ cond (m == n) (option_map change (cars_at ts m)) (cars_at ts m)
cars_changed n m change ts =
    ⊎_elim (λ (e : m ≡ n). rw (agree m n e) (ap (cars_at (with_cars n change ts)) e ∙ cars_changed_same n change ts ∙ ap (λ k. option_map change (cars_at ts k)) (sym e)))
    (λ (ne : m ≡ n → ⊥). rw (differ m n ne) (cars_changed_other n m change ts ne)) (cases_eq m n)

-- the youngest stays
pub last_changed : (low n : ℕ) (change : List ℕ → List ℕ) (ts : List Train) → last_number low (with_cars n change ts) ≡ last_number low ts
last_changed low n change [] = refl
last_changed low n change (t ∷ ts) = either (λ xs. last_number low xs ≡ last_number t.number ts) (t.number == n) _ _ (λ _. refl) (λ _. last_changed t.number n change ts)

last_any : (a b : ℕ) (ts : List Train) → 0 < length ts → last_number a ts ≡ last_number b ts
last_any a b [] some = absurd (omega (arith, some))
last_any a b (t ∷ ts) some = refl

pub last_emptied : (low : ℕ) (ts : List Train) → last_number low (without_empty ts) ≡ last_number low ts
last_emptied low [] = refl
last_emptied low (t ∷ ts) =
    either (λ xs. last_number low xs ≡ last_number t.number ts) (nat_lt 0 (length ts) && (length t.cars == 0)) _ _ (λ e. last_emptied low ts ∙ last_any low t.number ts (goes (length ts) (length t.cars) e)) (λ _. last_emptied t.number ts)

pub last_pushed : (low n : ℕ) (ts : List Train) → last_number low (ts ++ empty_train n ∷ []) ≡ n
last_pushed low n [] = refl
last_pushed low n (t ∷ ts) = last_pushed t.number n ts

-- the cars of each train where those without a car have gone
left_gone : (b : Bool) (cars : List ℕ) → length cars ≡ 0 → b ≡ false → left_standing b cars ≡ None
left_gone b [] none e = rw e refl
left_gone b (c ∷ cs) none e = absurd (omega (arith, none))

left_stays : (b : Bool) (cars : List ℕ) → (length cars ≡ 0 → b ≡ true) → Some cars ≡ left_standing b cars
left_stays b [] h = rw (h refl) refl
left_stays b (c ∷ cs) h = refl

no_train : (n : ℕ) (ts : List Train) → length ts ≡ 0 → last_number n ts ≡ n
no_train n [] none = refl
no_train n (t ∷ ts) none = absurd (omega (arith, none))

both_parts : (a b : ℕ) → (nat_lt 0 a && (b == 0)) ≡ true → b ≡ 0
both_parts a b e = grind (arith, nat_tests)

alone : (a b : ℕ) → (nat_lt 0 a && (b == 0)) ≡ false → b ≡ 0 → a ≡ 0
alone a b e none = grind (arith, nat_tests)

pub cars_emptied : (low : ℕ) (ts : List Train) (m : ℕ) → Rise low ts → cars_at (without_empty ts) m ≡ option_and_then (λ cars. left_standing (m == last_number low ts) cars) (cars_at ts m)
cars_emptied low [] m rise = refl
cars_emptied low (t ∷ ts) m rise =
    let later = cars_emptied t.number ts m rise.1 in
    either (λ xs. cars_at xs m ≡ option_and_then (λ cars. left_standing (m == last_number t.number ts) cars) (cars_at (t ∷ ts) m)) (nat_lt 0 (length ts) && (length t.cars == 0)) _ _
    (λ e. ⊎_elim
    (λ (is : t.number ≡ m).
    let over = last_over t.number ts rise.1 (goes (length ts) (length t.cars) e) in
    rw (agree t.number m is) (later ∙ ap (option_and_then (λ cars. left_standing (m == last_number t.number ts) cars)) (none_below t.number ts m rise.1 (omega (arith, is)))
    ∙ sym (left_gone (m == last_number t.number ts) t.cars (both_parts (length ts) (length t.cars) e) (differ m (last_number t.number ts) (λ same. omega (arith, over, is, same))))))
    (λ (ne : t.number ≡ m → ⊥). rw (differ t.number m ne) later)
    (cases_eq t.number m))
    (λ e. ⊎_elim
    (λ (is : t.number ≡ m). rw (agree t.number m is) (left_stays (m == last_number t.number ts) t.cars (λ none. agree m (last_number t.number ts) (sym is ∙ sym (no_train t.number ts (alone (length ts) (length t.cars) e none))))))
    (λ (ne : t.number ≡ m → ⊥). rw (differ t.number m ne) later)
    (cases_eq t.number m))

all_stay : (ts : List Train) (m : ℕ) → Rise 0 ts → Filled ts → option_and_then (λ cars. left_standing (m == youngest ts) cars) (cars_at ts m) ≡ cars_at ts m
all_stay ts m rise filled = sym (cars_emptied 0 ts m rise) ∙ ap (λ (xs : List Train). cars_at xs m) (same_emptied ts filled)

mapped : (b : Bool) (found : Option (List ℕ)) → option_and_then (λ cars. left_standing b cars) (option_map (λ cars. drop 1 cars) found) ≡ option_and_then (λ cars. left_standing b (drop 1 cars)) found
mapped b None = refl
mapped b (Some cars) = refl

pub cars_removed : (ts : List Train) (n m : ℕ) → Rise 0 ts → Rise 0 (with_cars n (λ cars. drop 1 cars) ts) → Filled ts
    → cars_at (without_first n ts) m ≡ cond (m == n) (option_and_then (λ cars. left_standing (m == youngest ts) (drop 1 cars)) (cars_at ts m)) (cars_at ts m)
cars_removed ts n m rise rises filled =
    cars_emptied 0 (with_cars n (λ cars. drop 1 cars) ts) m rises
    ∙ ap (λ k. option_and_then (λ cars. left_standing (m == k) cars) (cars_at (with_cars n (λ cars. drop 1 cars) ts) m)) (last_changed 0 n (λ cars. drop 1 cars) ts)
    ∙ ap (option_and_then (λ cars. left_standing (m == youngest ts) cars)) (cars_changed n m (λ cars. drop 1 cars) ts)
    ∙ split (m == n)
  where
    split : (b : Bool) → option_and_then (λ cars. left_standing (m == youngest ts) cars) (cond b (option_map (λ cars. drop 1 cars) (cars_at ts m)) (cars_at ts m))
        ≡ cond b (option_and_then (λ cars. left_standing (m == youngest ts) (drop 1 cars)) (cars_at ts m)) (cars_at ts m)
    split true = mapped (m == youngest ts) (cars_at ts m)
    split false = all_stay ts m rise filled

-- the cars of each train with a new open one
pushed_same : (low n : ℕ) (ts : List Train) → Rise low ts → last_number low ts < n → cars_at (ts ++ empty_train n ∷ []) n ≡ Some []
pushed_same low n [] rise over = rw (agree n n refl) refl
pushed_same low n (t ∷ ts) rise over = let least = last_least t.number ts rise.1 in rw (differ t.number n (λ e. omega (arith, over, least, e))) (pushed_same t.number n ts rise.1 over)

pushed_other : (n m : ℕ) (ts : List Train) → (m ≡ n → ⊥) → cars_at (ts ++ empty_train n ∷ []) m ≡ cars_at ts m
pushed_other n m [] ne = rw (differ n m (λ e. ne (sym e))) refl
pushed_other n m (t ∷ ts) ne = ap (cond (t.number == m) (Some t.cars)) (pushed_other n m ts ne)

pub cars_rotated : (low n m : ℕ) (ts : List Train) → Rise low ts → last_number low ts < n → cars_at (ts ++ empty_train n ∷ []) m ≡ cond (m == n) (Some []) (cars_at ts m)
cars_rotated low n m ts rise over =
    ⊎_elim (λ (e : m ≡ n). rw (agree m n e) (ap (cars_at (ts ++ empty_train n ∷ [])) e ∙ pushed_same low n ts rise over)) (λ (ne : m ≡ n → ⊥). rw (differ m n ne) (pushed_other n m ts ne)) (cases_eq m n)

-- the oldest train with a car
not_first : (n : ℕ) (ts : List Train) (P : List ℕ → Type 0) → Rise n ts → IsSomeAnd (cars_at ts n) P → ⊥
not_first n ts P rise has = rw (none_below n ts n rise (omega arith)) at has

least_step : (b : Bool) (old n : ℕ) (t : Train) (ts : List Train) → (length t.cars == 0) ≡ b → Rise t.number ts → (oldest ts ≡ Some old → HasCar ts n → old ≤ n) → cond b (oldest ts) (Some t.number) ≡ Some old → HasCar (t ∷ ts) n → old ≤ n
least_step true old n t ts e rise later is has =
    ⊎_elim
    (λ (same : t.number ≡ n). let some = rw (agree t.number n same) at has in let none = eqb-true (length t.cars) 0 e in omega (arith, some, none))
    (λ (ne : t.number ≡ n → ⊥). later is (rw (differ t.number n ne) at has))
    (cases_eq t.number n)
least_step false old n t ts e rise later is has =
    let same : t.number ≡ old = cc in
    let no_lower : n < t.number → ⊥ = λ lower. not_first n (t ∷ ts) (λ cars. 0 < length cars) (lower, rise) has in
    omega (arith, same, no_lower)

pub oldest_least : (low old n : ℕ) (ts : List Train) → Rise low ts → oldest ts ≡ Some old → HasCar ts n → old ≤ n
oldest_least low old n [] rise is has = absurd has
oldest_least low old n (t ∷ ts) rise is has = least_step (length t.cars == 0) old n t ts refl rise.1 (oldest_least t.number old n ts rise.1) is has

no_car : (cars : List ℕ) → length cars ≡ 0 → cars ≡ []
no_car [] none = refl
no_car (c ∷ cs) none = absurd (omega (arith, none))

none_step : (b : Bool) (t : Train) (ts : List Train) → (length t.cars == 0) ≡ b → (oldest ts ≡ None → all_cars ts ≡ []) → cond b (oldest ts) (Some t.number) ≡ None → all_cars (t ∷ ts) ≡ []
none_step true t ts e later is = ap (λ (cars : List ℕ). cars ++ all_cars ts) (no_car t.cars (eqb-true (length t.cars) 0 e)) ∙ later is
none_step false t ts e later is = cc

pub oldest_none : (ts : List Train) → oldest ts ≡ None → all_cars ts ≡ []
oldest_none [] is = refl
oldest_none (t ∷ ts) is = none_step (length t.cars == 0) t ts refl (oldest_none ts) is

parts_empty : (xs ys : List ℕ) → xs ++ ys ≡ [] → (length xs ≡ 0) × (ys ≡ [])
parts_empty [] ys is = (refl, is)
parts_empty (x ∷ xs) ys is = cc

pub none_oldest : (ts : List Train) → all_cars ts ≡ [] → oldest ts ≡ None
none_oldest [] is = refl
none_oldest (t ∷ ts) is = let parts = parts_empty t.cars (all_cars ts) is in rw (agree (length t.cars) 0 parts.0) (none_oldest ts parts.1)

-- a car that a train answers at a place stands in that train, and the train has a car
among_at : (cars : List ℕ) (i car : ℕ) → slice_get cars i ≡ Some car → is_among car cars ≡ true
among_at [] i car is = cc
among_at (c ∷ cs) zero car is = let same : c ≡ car = cc in rw (agree c car same) refl
among_at (c ∷ cs) (suc i) car is = rw (among_at cs i car is) (or_true (c == car))

some_at : (cars : List ℕ) (i car : ℕ) → slice_get cars i ≡ Some car → 0 < length cars
some_at [] i car is = cc
some_at (c ∷ cs) i car is = omega arith

pub answer_has : (ts : List Train) (n : ℕ) (cars : List ℕ) (i : ℕ) (answer : Option ℕ) → cars_at ts n ≡ Some cars → answer ≡ slice_get cars i → IfSome answer (λ _. HasCar ts n)
answer_has ts n cars i None at is = tt
answer_has ts n cars i (Some car) at is = rw at (some_at cars i car (sym is))

pub answer_home : (ts : List Train) (n : ℕ) (cars : List ℕ) (i : ℕ) (answer : Option ℕ) → ((q : ℕ) → places q ts ≤ 1) → cars_at ts n ≡ Some cars → answer ≡ slice_get cars i → IfSome answer (λ car. train_of ts car ≡ Some n)
answer_home ts n cars i None single at is = tt
answer_home ts n cars i (Some car) single at is = home_back car n ts (single car) (rw at (among_at cars i car (sym is)))

-- a car at the end of a train that was pushed
pub appended_last : (low n car : ℕ) (ts : List Train) → Rise low ts → last_number low ts < n → appended n car (ts ++ empty_train n ∷ []) ≡ ts ++ record { number = n; cars = car ∷ [] } ∷ []
appended_last low n car [] rise over = rw (agree n n refl) refl
appended_last low n car (t ∷ ts) rise over =
    let least = last_least t.number ts rise.1 in
    rw (differ t.number n (λ e. omega (arith, over, least, e))) (ap (λ (xs : List Train). t ∷ xs) (appended_last t.number n car ts rise.1 over))

-- where each car is found once the first of a train was taken out
first_is : (found : Option (List ℕ)) (car : ℕ) → option_and_then (λ cars. slice_get cars 0) found ≡ Some car → (rest : List ℕ) × (found ≡ Some (car ∷ rest))
first_is None car is = cc
first_is (Some []) car is = cc
first_is (Some (c ∷ cs)) car is = let same : c ≡ car = cc in (cs, ap (λ x. Some (x ∷ cs)) same)

pub home_first : (ts : List Train) (n car : ℕ) → places car ts ≤ 1 → option_and_then (λ cars. slice_get cars 0) (cars_at ts n) ≡ Some car → (q : ℕ) → train_of (without_first n ts) q ≡ cond (q == car) None (train_of ts q)
home_first ts n car single is q = let at = first_is (cars_at ts n) car is in home_removed n car at.0 ts at.1 single q
