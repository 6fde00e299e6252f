-- The cars of trains, in one list.
use Rattle.std.proofs.Common.{◌≡◌, ◌≤◌, ◌<◌, ◌+◌, ℕ, ◌==◌, ◌||◌, ◌↔◌, nat_eq, nat_le, Bool, true, false, cond, if◌then◌else◌, refl, ap, sym, subst, ◌∙◌, List, [], ◌∷◌, ◌++◌, Option, Some, None, is_some, arith, IsTrue}
use Rattle.std.specs.Option.{IsSomeAnd}
use Rattle.std.specs.List.{IsDistinct, sum_by}
use Rattle.std.proofs.lemmas.Bool.{true≢false, leb-true, le-leb}
use Rattle.std.proofs.lemmas.List.Sums.{sum_by-append, sum_by-cons}
use Rattle.pm_trains.specs.Trains.{Train, cars_at, is_among, train_of}
use Rattle.pm_trains.specs.Sound.{Rise, places, all_cars}
use Rattle.pm_trains.proofs.Cars.{places_cons}
use Rattle.pm_trains.proofs.Found.{home_has, home_back}
use Rattle.pm_view.specs.View.{SpaceView}
use Rattle.pm_view.specs.Counts.{standing_in, standing_of, old_in}
use Rattle.pm_law_collect.proofs.PhasesLemmas.Small.{some_same, none_some}
use Rattle.pm_law_course.proofs.Counting.{any_left, any_right}
use Rattle.pm_law_course.specs.Count.UpTo.{cars_up_to}
use Rattle.pm_law_course.proofs.CountLemmas.Once.{any_both, times, once_from_times}

-- ---- what stands, by cars

-- in the trains that are numbered up to one, and in all
pub old_counted : (view : SpaceView) (n : ℕ) (ts : List Train) → old_in view n ts ≡ sum_by (standing_in view) (cars_up_to n ts)
old_counted view n [] = refl
old_counted view n (t ∷ ts) = by_case (nat_le t.number n) (old_counted view n ts)
  where
    by_case : (b : Bool) → old_in view n ts ≡ sum_by (standing_in view) (cars_up_to n ts) → cond b (standing_of view t) 0 + old_in view n ts ≡ sum_by (standing_in view) (cond b (t.cars ++ cars_up_to n ts) (cars_up_to n ts))
    by_case true rest = let both = sum_by-append (standing_in view) t.cars (cars_up_to n ts) in omega (arith, both, rest)
    by_case false rest = omega (arith, rest)

pub all_counted : (view : SpaceView) (ts : List Train) → sum_by (standing_of view) ts ≡ sum_by (standing_in view) (all_cars ts)
all_counted view [] = refl
all_counted view (t ∷ ts) =
    let one = sum_by-cons (standing_of view) t ts in
    let both = sum_by-append (standing_in view) t.cars (all_cars ts) in
    let rest = all_counted view ts in
    omega (arith, one, both, rest)

-- ---- each car once

times_append : (q : ℕ) (xs ys : List ℕ) → times q (xs ++ ys) ≡ times q xs + times q ys
times_append q xs ys = sum_by-append _ xs ys

-- a car stands in these lists no more often than in all trains
up_to_places : (q n : ℕ) (ts : List Train) → times q (cars_up_to n ts) ≤ places q ts
up_to_places q n [] = omega arith
up_to_places q n (t ∷ ts) = by_case (nat_le t.number n) (up_to_places q n ts)
  where
    by_case : (b : Bool) → times q (cars_up_to n ts) ≤ places q ts → times q (cond b (t.cars ++ cars_up_to n ts) (cars_up_to n ts)) ≤ places q (t ∷ ts)
    by_case true rest = let both = times_append q t.cars (cars_up_to n ts) in let all = places_cons q t ts in omega (arith, both, all, rest)
    by_case false rest = let all = places_cons q t ts in omega (arith, all, rest)

own_places : (q n : ℕ) (cars : List ℕ) (ts : List Train) → cars_at ts n ≡ Some cars → times q cars ≤ places q ts
own_places q n cars [] is = absurd (none_some cars is)
own_places q n cars (t ∷ ts) is = by_case (t.number == n) is (own_places q n cars ts)
  where
    by_case : (b : Bool) → (if b then Some t.cars else cars_at ts n) ≡ Some cars → (cars_at ts n ≡ Some cars → times q cars ≤ places q ts) → times q cars ≤ places q (t ∷ ts)
    by_case true is later =
        let all = places_cons q t ts in
        let same : times q t.cars ≡ times q cars = ap (times q) (some_same t.cars cars is) in
        omega (arith, all, same)
    by_case false is later = let all = places_cons q t ts in let rest = later is in omega (arith, all, rest)

module _ (ts : List Train) (single : (q : ℕ) → places q ts ≤ 1) where
  pub up_to_once : (n : ℕ) → IsDistinct nat_eq (cars_up_to n ts)
  up_to_once n = once_from_times (cars_up_to n ts) (λ q. let most = up_to_places q n ts in let one = single q in omega (arith, most, one))

  pub own_once : (n : ℕ) (cars : List ℕ) → cars_at ts n ≡ Some cars → IsDistinct nat_eq cars
  own_once n cars is = once_from_times cars (λ q. let most = own_places q n cars ts is in let one = single q in omega (arith, most, one))

  pub every_once : IsDistinct nat_eq (all_cars ts)
  every_once = once_from_times (all_cars ts) single

-- ---- the trains of these cars

-- the number of a car's train is over those before it
pub home_over : (low c m : ℕ) (ts : List Train) → Rise low ts → train_of ts c ≡ Some m → low < m
home_over low c m [] rising is = absurd (none_some m is)
home_over low c m (t ∷ ts) rising is = by_case (is_among c t.cars) is (home_over t.number c m ts rising.1)
  where
    by_case : (b : Bool) → (if b then Some t.number else train_of ts c) ≡ Some m → (train_of ts c ≡ Some m → t.number < m) → low < m
    by_case true is later = let one = some_same t.number m is in let up = rising.0 in omega (arith, one, up)
    by_case false is later = let more = later is in let up = rising.0 in omega (arith, more, up)

-- a car of these is in a train numbered so
pub up_to_home : (low n c : ℕ) (ts : List Train) → Rise low ts → is_among c (cars_up_to n ts) ≡ true → (m : ℕ) × ((train_of ts c ≡ Some m) × (m ≤ n))
up_to_home low n c [] rising among = absurd (true≢false (sym among))
up_to_home low n c (t ∷ ts) rising among = by_number (nat_le t.number n) refl among (is_among c t.cars) refl (up_to_home t.number n c ts rising.1)
  where
    by_number : (b : Bool) → nat_le t.number n ≡ b → is_among c (cond b (t.cars ++ cars_up_to n ts) (cars_up_to n ts)) ≡ true → (d : Bool) → is_among c t.cars ≡ d
        → (is_among c (cars_up_to n ts) ≡ true → (m : ℕ) × ((train_of ts c ≡ Some m) × (m ≤ n))) → (m : ℕ) × (((if d then Some t.number else train_of ts c) ≡ Some m) × (m ≤ n))
    by_number true low_one among true here later = (t.number, (refl, leb-true t.number n low_one))
    by_number true low_one among false other later = later (ap (λ b. b || is_among c (cars_up_to n ts)) (sym other) ∙ any_both (λ x. x == c) t.cars (cars_up_to n ts) among)
    by_number false over among true here later =
        let rest = later among in
        let up = home_over t.number c rest.0 ts rising.1 rest.1.0 in
        absurd (true≢false (sym (le-leb t.number n (let most = rest.1.1 in omega (arith, up, most))) ∙ over))
    by_number false over among false other later = later among

-- and each car of such a train is one of these
pub home_up_to : (n c m : ℕ) (ts : List Train) → train_of ts c ≡ Some m → m ≤ n → is_among c (cars_up_to n ts) ≡ true
home_up_to n c m [] is low = absurd (none_some m is)
home_up_to n c m (t ∷ ts) is low = by_case (is_among c t.cars) refl is (λ later. home_up_to n c m ts later low)
  where
    by_number : (b : Bool) → is_among c (cars_up_to n ts) ≡ true → is_among c (cond b (t.cars ++ cars_up_to n ts) (cars_up_to n ts)) ≡ true
    by_number true there = any_right (λ x. x == c) t.cars (cars_up_to n ts) there
    by_number false there = there

    by_case : (b : Bool) → is_among c t.cars ≡ b → (if b then Some t.number else train_of ts c) ≡ Some m → (train_of ts c ≡ Some m → is_among c (cars_up_to n ts) ≡ true) → is_among c (cond (nat_le t.number n) (t.cars ++ cars_up_to n ts) (cars_up_to n ts)) ≡ true
    by_case true here is later =
        subst (λ b. is_among c (cond b (t.cars ++ cars_up_to n ts) (cars_up_to n ts)) ≡ true) (sym (le-leb t.number n (let one = some_same t.number m is in omega (arith, one, low)))) (any_left (λ x. x == c) t.cars (cars_up_to n ts) here)
    by_case false other is later = by_number (nat_le t.number n) (later is)

-- some train has the number, which is at most that one
pub home_both : (n c : ℕ) (ts : List Train) → Rise 0 ts → (is_among c (cars_up_to n ts) ≡ true) ↔ IsSomeAnd (train_of ts c) (λ m. m ≤ n)
home_both n c ts rising = (
  λ among. let home = up_to_home 0 n c ts rising among in subst (λ o. IsSomeAnd o (λ m. m ≤ n)) (sym home.1.0) home.1.1,
  λ low. by_home (train_of ts c) refl low,
)
  where
    by_home : (o : Option ℕ) → train_of ts c ≡ o → IsSomeAnd o (λ m. m ≤ n) → is_among c (cars_up_to n ts) ≡ true
    by_home None is low = absurd low
    by_home (Some m) is low = home_up_to n c m ts is low

-- a car of one train is found there
pub own_home : (n c : ℕ) (cars : List ℕ) (ts : List Train) → Rise 0 ts → places c ts ≤ 1 → cars_at ts n ≡ Some cars → (is_among c cars ≡ true) ↔ (train_of ts c ≡ Some n)
own_home n c cars ts rising single is = (
  λ among. home_back c n ts single (subst (λ o. IsSomeAnd o (λ cars. IsTrue (is_among c cars))) (sym is) among),
  λ home. subst (λ o. IsSomeAnd o (λ cars. IsTrue (is_among c cars))) is (home_has 0 c n ts rising home),
)

-- a car that is not in the first list is in both where it is in the second
among_past : (c : ℕ) (xs ys : List ℕ) → is_among c xs ≡ false → is_among c (xs ++ ys) ≡ is_among c ys
among_past c [] ys none = refl
among_past c (x ∷ xs) ys none = by_case (x == c) none (among_past c xs ys)
  where
    by_case : (b : Bool) → (b || is_among c xs) ≡ false → (is_among c xs ≡ false → is_among c (xs ++ ys) ≡ is_among c ys) → (b || is_among c (xs ++ ys)) ≡ is_among c ys
    by_case true none later = absurd (true≢false none)
    by_case false none later = later none

-- a car of all is in some train
pub every_home : (c : ℕ) (ts : List Train) → is_among c (all_cars ts) ≡ is_some (train_of ts c)
every_home c [] = refl
every_home c (t ∷ ts) = by_case (is_among c t.cars) refl (every_home c ts)
  where
    by_case : (b : Bool) → is_among c t.cars ≡ b → is_among c (all_cars ts) ≡ is_some (train_of ts c) → is_among c (t.cars ++ all_cars ts) ≡ is_some (if b then Some t.number else train_of ts c)
    by_case true here rest = any_left (λ x. x == c) t.cars (all_cars ts) here
    by_case false other rest = among_past c t.cars (all_cars ts) other ∙ rest
