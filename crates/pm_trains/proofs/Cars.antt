-- Where cars stand: how often one is listed, and the train that it is found in.
use Rattle.std.proofs.Common.{◌≡◌, ℕ, ◌+◌, ◌≤◌, ◌==◌, ◌&&◌, ◌||◌, Bool, true, false, cond, List, [], ◌∷◌, ◌++◌, length, drop, nat_lt, Some, None, IsSome, refl, sym, ap, ◌∙◌, subst, arith, ⊎_elim}
use Rattle.std.specs.List.{count_by}
use Rattle.std.proofs.lemmas.List.Sums.{sum_by-cons, sum_by-append, sum_by_push, count_by-le-length}
use Rattle.std.proofs.lemmas.Bool.{eqb-true, cases_eq}
use Rattle.pm_trains.specs.Trains.{Train, cars_at, empty_train, is_among, train_of, with_cars, appended, without_empty}
use Rattle.pm_trains.specs.Sound.{all_cars, places}
use Rattle.pm_trains.proofs.Order.{agree, differ}
use Rattle.pm_trains.proofs.Numbers.{either}

-- how often a car is in a list
abbrev times : ℕ → List ℕ → ℕ
times car cars = count_by (λ c. c == car) cars

-- once or not at all
abbrev once : ℕ → ℕ → ℕ
once c car = cond (c == car) 1 0

once_same : (c car : ℕ) → c ≡ car → once c car ≡ 1
once_same c car e = rw (agree c car e) refl

once_other : (c car : ℕ) → (c ≡ car → ⊥) → once c car ≡ 0
once_other c car ne = rw (differ c car ne) refl

times_cons : (car c : ℕ) (cars : List ℕ) → times car (c ∷ cars) ≡ once c car + times car cars
times_cons car c cars = sum_by-cons _ c cars

pub places_cons : (car : ℕ) (t : Train) (ts : List Train) → places car (t ∷ ts) ≡ times car t.cars + places car ts
places_cons car t ts = sum_by-append _ t.cars (all_cars ts)

-- a car that is not listed
among_step : (car c : ℕ) (cars : List ℕ) (b : Bool) → (times car cars ≡ 0 → is_among car cars ≡ false) → times car (c ∷ cars) ≡ cond b 1 0 + times car cars → times car (c ∷ cars) ≡ 0 → (b || is_among car cars) ≡ false
among_step car c cars true before e none = absurd (omega (arith, e, none))
among_step car c cars false before e none = before (omega (arith, e, none))

pub not_among : (car : ℕ) (cars : List ℕ) → times car cars ≡ 0 → is_among car cars ≡ false
not_among car [] none = refl
not_among car (c ∷ cs) none = among_step car c cs (c == car) (not_among car cs) (times_cons car c cs) none

never_step : (car c : ℕ) (cars : List ℕ) (b : Bool) → (is_among car cars ≡ false → times car cars ≡ 0) → times car (c ∷ cars) ≡ cond b 1 0 + times car cars → (b || is_among car cars) ≡ false → times car (c ∷ cars) ≡ 0
never_step car c cars true before e none = cc
never_step car c cars false before e none = let zero' = before none in omega (arith, e, zero')

pub never : (car : ℕ) (cars : List ℕ) → is_among car cars ≡ false → times car cars ≡ 0
never car [] none = refl
never car (c ∷ cs) none = never_step car c cs (c == car) (never car cs) (times_cons car c cs) none

-- a car that no train lists is found in no train, and the other way round
absent_step : (car : ℕ) (t : Train) (ts : List Train) (b : Bool) → is_among car t.cars ≡ b → (train_of ts car ≡ None → places car ts ≡ 0) → cond b (Some t.number) (train_of ts car) ≡ None → places car (t ∷ ts) ≡ 0
absent_step car t ts true e before none = cc
absent_step car t ts false e before none = let here = never car t.cars e in let later = before none in omega (arith, places_cons car t ts, here, later)

pub absent : (car : ℕ) (ts : List Train) → train_of ts car ≡ None → places car ts ≡ 0
absent car [] none = refl
absent car (t ∷ ts) none = absent_step car t ts (is_among car t.cars) refl (absent car ts) none

pub lost : (car : ℕ) (ts : List Train) → places car ts ≡ 0 → train_of ts car ≡ None
lost car [] none = refl
lost car (t ∷ ts) none =
    let sum = places_cons car t ts in
    rw (not_among car t.cars (omega (arith, sum, none))) (lost car ts (omega (arith, sum, none)))

-- a car at the end of a list
among_other : (q car : ℕ) (cars : List ℕ) → (car == q) ≡ false → is_among q (cars ++ car ∷ []) ≡ is_among q cars
among_other q car [] ne = rw ne refl
among_other q car (c ∷ cs) ne = ap (λ b. (c == q) || b) (among_other q car cs ne)

pub or_true : (b : Bool) → (b || true) ≡ true
or_true true = refl
or_true false = refl

among_last : (car : ℕ) (cars : List ℕ) → is_among car (cars ++ car ∷ []) ≡ true
among_last car [] = rw (agree car car refl) refl
among_last car (c ∷ cs) = rw (among_last car cs) (or_true (c == car))

-- another car is found where it was
pub home_kept : (q n car : ℕ) (ts : List Train) → (car == q) ≡ false → train_of (appended n car ts) q ≡ train_of ts q
home_kept q n car [] ne = refl
home_kept q n car (t ∷ ts) ne =
    either (λ xs. train_of xs q ≡ train_of (t ∷ ts) q) (t.number == n) _ _ (λ _. ap (λ b. cond b (Some t.number) (train_of ts q)) (among_other q car t.cars ne))
    (λ _. ap (cond (is_among q t.cars) (Some t.number)) (home_kept q n car ts ne))

-- the car that was appended is found in the train to which it was
new_step : (n car : ℕ) (t : Train) (ts : List Train) (b : Bool) → (t.number == n) ≡ b → is_among car t.cars ≡ false → (IsSome (cars_at ts n) → train_of (appended n car ts) car ≡ Some n)
    → IsSome (cond b (Some t.cars) (cars_at ts n)) → train_of (cond b (record t { cars = t.cars ++ car ∷ [] } ∷ ts) (t ∷ appended n car ts)) car ≡ Some n
new_step n car t ts true e none before there = rw (among_last car t.cars) (ap Some (eqb-true t.number n e))
new_step n car t ts false e none before there = rw none (before there)

home_new : (n car : ℕ) (ts : List Train) → IsSome (cars_at ts n) → places car ts ≡ 0 → train_of (appended n car ts) car ≡ Some n
home_new n car [] there none = cc
home_new n car (t ∷ ts) there none =
    let sum = places_cons car t ts in
    let here : is_among car t.cars ≡ false = not_among car t.cars (omega (arith, sum, none)) in
    new_step n car t ts (t.number == n) refl here (λ stands. home_new n car ts stands (omega (arith, sum, none))) there

-- where each car is found once one was appended
pub home_appended : (n car : ℕ) (ts : List Train) → IsSome (cars_at ts n) → train_of ts car ≡ None → (q : ℕ) → train_of (appended n car ts) q ≡ cond (q == car) (Some n) (train_of ts q)
home_appended n car ts there none q =
    ⊎_elim (λ (e : q ≡ car). rw (agree q car e) (ap (train_of (appended n car ts)) e ∙ home_new n car ts there (absent car ts none)))
    (λ (ne : q ≡ car → ⊥). rw (differ q car ne) (home_kept q n car ts (differ car q (λ e. ne (sym e)))))
    (cases_eq q car)

-- how often a car is listed once one was appended
places_appended : (q n car : ℕ) (ts : List Train) → places q (appended n car ts) ≤ places q ts + once car q
places_appended q n car [] = omega arith
places_appended q n car (t ∷ ts) =
    either (λ xs. places q xs ≤ places q (t ∷ ts) + once car q) (t.number == n) _ _
    (λ _. omega (arith, places_cons q (record t { cars = t.cars ++ car ∷ [] }) ts, places_cons q t ts, sum_by_push (λ c. cond (c == q) 1 0) t.cars car))
    (λ _. let later = places_appended q n car ts in omega (arith, places_cons q t (appended n car ts), places_cons q t ts, later))

pub single_appended : (n car : ℕ) (ts : List Train) → train_of ts car ≡ None → ((q : ℕ) → places q ts ≤ 1) → (q : ℕ) → places q (appended n car ts) ≤ 1
single_appended n car ts none single q =
    let most = places_appended q n car ts in
    ⊎_elim
    (λ (e : car ≡ q). let zero' : places q ts ≡ 0 = subst (λ c. places c ts ≡ 0) e (absent car ts none) in let one = once_same car q e in omega (arith, most, zero', one))
    (λ (ne : car ≡ q → ⊥). let none' = once_other car q ne in omega (arith, most, single q, none'))
    (cases_eq car q)

-- without its first element a list has no car more often
times_drop : (q : ℕ) (cars : List ℕ) → times q (drop 1 cars) ≤ times q cars
times_drop q [] = omega arith
times_drop q (c ∷ cs) = omega (arith, times_cons q c cs)

places_dropped : (q n : ℕ) (ts : List Train) → places q (with_cars n (λ cars. drop 1 cars) ts) ≤ places q ts
places_dropped q n [] = omega arith
places_dropped q n (t ∷ ts) =
    either (λ xs. places q xs ≤ places q (t ∷ ts)) (t.number == n) _ _
    (λ _. omega (arith, places_cons q (record t { cars = drop 1 t.cars }) ts, places_cons q t ts, times_drop q t.cars))
    (λ _. let later = places_dropped q n ts in omega (arith, places_cons q t (with_cars n (λ cars. drop 1 cars) ts), places_cons q t ts, later))

-- a train without a car lists none
both : (a b : Bool) → (a && b) ≡ true → (a ≡ true) × (b ≡ true)
both true true e = (refl, refl)
both true false e = cc
both false b e = cc

empty_times : (q : ℕ) (cars : List ℕ) → (length cars == 0) ≡ true → times q cars ≡ 0
empty_times q cars e = let none = eqb-true (length cars) 0 e in omega (arith, none, count_by-le-length (λ c. c == q) cars)

-- the trains without a car list none
pub places_emptied : (q : ℕ) (ts : List Train) → places q (without_empty ts) ≡ places q ts
places_emptied q [] = refl
places_emptied q (t ∷ ts) =
    let later = places_emptied q ts in
    either (λ xs. places q xs ≡ places q (t ∷ ts)) (nat_lt 0 (length ts) && (length t.cars == 0)) _ _
    (λ e. let none : times q t.cars ≡ 0 = empty_times q t.cars (both (nat_lt 0 (length ts)) (length t.cars == 0) e).1 in omega (arith, places_cons q t ts, none, later))
    (λ _. omega (arith, places_cons q t (without_empty ts), places_cons q t ts, later))

home_emptied : (q : ℕ) (ts : List Train) → train_of (without_empty ts) q ≡ train_of ts q
home_emptied q [] = refl
home_emptied q (t ∷ ts) =
    let later = home_emptied q ts in
    either (λ xs. train_of xs q ≡ train_of (t ∷ ts) q) (nat_lt 0 (length ts) && (length t.cars == 0)) _ _
    (λ e. let none : is_among q t.cars ≡ false = not_among q t.cars (empty_times q t.cars (both _ _ e).1) in rw none later)
    (λ _. ap (cond (is_among q t.cars) (Some t.number)) later)

pub single_removed : (n : ℕ) (ts : List Train) → ((q : ℕ) → places q ts ≤ 1) → (q : ℕ) → places q (without_empty (with_cars n (λ cars. drop 1 cars) ts)) ≤ 1
single_removed n ts single q = omega (arith, places_emptied q (with_cars n (λ cars. drop 1 cars) ts), places_dropped q n ts, single q)

-- the first car of a train is listed once less
taken_step : (n c : ℕ) (cs : List ℕ) (t : Train) (ts : List Train) (b : Bool) → (cars_at ts n ≡ Some (c ∷ cs) → places c (with_cars n (λ cars. drop 1 cars) ts) + 1 ≡ places c ts)
    → cond b (Some t.cars) (cars_at ts n) ≡ Some (c ∷ cs) → places c (cond b (record t { cars = drop 1 t.cars } ∷ ts) (t ∷ with_cars n (λ cars. drop 1 cars) ts)) + 1 ≡ places c (t ∷ ts)
taken_step n c cs t ts true before is =
    let same : t.cars ≡ c ∷ cs = cc in
    let one = once_same c c refl in
    omega (arith, places_cons c (record t { cars = drop 1 t.cars }) ts, places_cons c t ts, ap (times c) same, ap (λ xs. times c (drop 1 xs)) same, times_cons c c cs, one)
taken_step n c cs t ts false before is = let later = before is in omega (arith, places_cons c t (with_cars n (λ cars. drop 1 cars) ts), places_cons c t ts, later)

places_taken : (n c : ℕ) (cs : List ℕ) (ts : List Train) → cars_at ts n ≡ Some (c ∷ cs) → places c (with_cars n (λ cars. drop 1 cars) ts) + 1 ≡ places c ts
places_taken n c cs [] is = cc
places_taken n c cs (t ∷ ts) is = taken_step n c cs t ts (t.number == n) (places_taken n c cs ts) is

-- any other car is found where it was
left_step : (q n c : ℕ) (cs : List ℕ) (t : Train) (ts : List Train) (b : Bool) → (c == q) ≡ false → (cars_at ts n ≡ Some (c ∷ cs) → train_of (with_cars n (λ cars. drop 1 cars) ts) q ≡ train_of ts q)
    → cond b (Some t.cars) (cars_at ts n) ≡ Some (c ∷ cs) → train_of (cond b (record t { cars = drop 1 t.cars } ∷ ts) (t ∷ with_cars n (λ cars. drop 1 cars) ts)) q ≡ train_of (t ∷ ts) q
left_step q n c cs t ts true ne before is =
    let same : t.cars ≡ c ∷ cs = cc in
    let first : is_among q (c ∷ cs) ≡ is_among q cs = rw ne refl in
    ap (λ b. cond b (Some t.number) (train_of ts q)) (ap (λ xs. is_among q (drop 1 xs)) same ∙ sym first ∙ sym (ap (is_among q) same))
left_step q n c cs t ts false ne before is = ap (cond (is_among q t.cars) (Some t.number)) (before is)

home_left : (q n c : ℕ) (cs : List ℕ) (ts : List Train) → (c == q) ≡ false → cars_at ts n ≡ Some (c ∷ cs) → train_of (with_cars n (λ cars. drop 1 cars) ts) q ≡ train_of ts q
home_left q n c cs [] ne is = refl
home_left q n c cs (t ∷ ts) ne is = left_step q n c cs t ts (t.number == n) ne (home_left q n c cs ts ne) is

-- where each car is found once a train has lost its first car
pub home_removed : (n c : ℕ) (cs : List ℕ) (ts : List Train) → cars_at ts n ≡ Some (c ∷ cs) → places c ts ≤ 1 → (q : ℕ) → train_of (without_empty (with_cars n (λ cars. drop 1 cars) ts)) q ≡ cond (q == c) None (train_of ts q)
home_removed n c cs ts is single q =
    home_emptied q (with_cars n (λ cars. drop 1 cars) ts)
    ∙ ⊎_elim
    (λ (e : q ≡ c). rw (agree q c e) (ap (train_of (with_cars n (λ cars. drop 1 cars) ts)) e ∙ lost c (with_cars n (λ cars. drop 1 cars) ts) (omega (arith, places_taken n c cs ts is, single))))
    (λ (ne : q ≡ c → ⊥). rw (differ q c ne) (home_left q n c cs ts (differ c q (λ e. ne (sym e))) is))
    (cases_eq q c)

-- a new train without a car changes nothing
pub places_rotated : (q n : ℕ) (ts : List Train) → places q (ts ++ empty_train n ∷ []) ≡ places q ts
places_rotated q n [] = refl
places_rotated q n (t ∷ ts) = let later = places_rotated q n ts in omega (arith, places_cons q t (ts ++ empty_train n ∷ []), places_cons q t ts, later)

pub home_rotated : (q n : ℕ) (ts : List Train) → train_of (ts ++ empty_train n ∷ []) q ≡ train_of ts q
home_rotated q n [] = refl
home_rotated q n (t ∷ ts) = ap (cond (is_among q t.cars) (Some t.number)) (home_rotated q n ts)
