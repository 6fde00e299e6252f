-- Trains without a car, and that only the youngest is one.
use Rattle.std.proofs.Common.{◌≡◌, ℕ, ◌+◌, ◌<◌, ◌≤◌, ◌==◌, ◌&&◌, Bool, true, false, cond, List, [], ◌∷◌, ◌++◌, length, get_or, nat_lt, zero, suc, refl, ap, ◌∙◌, arith, length-append}
use Rattle.std.specs.List.{remove}
use Rattle.std.proofs.lemmas.Bool.Decides.{nat_tests}
use Rattle.pm_trains.specs.Trains.{Train, HasCar, empty_train, last_number, with_cars, appended, without_empty}
use Rattle.pm_trains.specs.Sound.{Rise, Filled}
use Rattle.pm_trains.specs.Places.{IsAt}
use Rattle.pm_trains.proofs.Order.{agree, differ}
use Rattle.pm_trains.proofs.Numbers.{either, length_changed, last_over, earlier, later_differs}

-- one more car at an end
pub filled_appended : (n car : ℕ) (ts : List Train) → Filled ts → Filled (appended n car ts)
filled_appended n car [] filled = tt
filled_appended n car (t ∷ ts) filled =
    either Filled (t.number == n) _ _ (λ _. ((λ _. omega (arith, length-append t.cars (car ∷ []))), filled.1))
    (λ _. ((λ some. filled.0 (omega (arith, some, length_changed n (λ cars. cars ++ car ∷ []) ts))), filled_appended n car ts filled.1))

-- what the test on a train says
stays : (a b : ℕ) → (nat_lt 0 a && (b == 0)) ≡ false → 0 < a → 0 < b
stays a b e some = grind (arith, nat_tests)

pub goes : (a b : ℕ) → (nat_lt 0 a && (b == 0)) ≡ true → 0 < a
goes a b e = grind (arith, nat_tests)

pub tested : (a b : ℕ) → (0 < a → 0 < b) → (nat_lt 0 a && (b == 0)) ≡ false
tested zero b h = refl
tested (suc a) b h = let some : 0 < b = h (omega arith) in grind (arith, nat_tests)

no_longer : (ts : List Train) → length (without_empty ts) ≤ length ts
no_longer [] = omega arith
no_longer (t ∷ ts) = let later = no_longer ts in either (λ xs. length xs ≤ suc (length ts)) (nat_lt 0 (length ts) && (length t.cars == 0)) _ _ (λ _. omega (arith, later)) (λ _. omega (arith, later))

pub filled_emptied : (ts : List Train) → Filled (without_empty ts)
filled_emptied [] = tt
filled_emptied (t ∷ ts) =
    either Filled (nat_lt 0 (length ts) && (length t.cars == 0)) _ _ (λ _. filled_emptied ts) (λ e. ((λ some. stays (length ts) (length t.cars) e (omega (arith, some, no_longer ts))), filled_emptied ts))

pub some_emptied : (ts : List Train) → 0 < length ts → 0 < length (without_empty ts)
some_emptied [] some = some
some_emptied (t ∷ ts) some = either (λ xs. 0 < length xs) (nat_lt 0 (length ts) && (length t.cars == 0)) _ _ (λ e. some_emptied ts (goes _ _ e)) (λ _. omega arith)

pub same_emptied : (ts : List Train) → Filled ts → without_empty ts ≡ ts
same_emptied [] filled = refl
same_emptied (t ∷ ts) filled = rw (tested (length ts) (length t.cars) filled.0) (ap (λ (xs : List Train). t ∷ xs) (same_emptied ts filled.1))

shorter : (a : ℕ) → nat_lt (0 + 1) (suc a) ≡ nat_lt 0 a
shorter a = grind (arith, nat_tests)

shifted : (p a : ℕ) → nat_lt (suc p + 1) (suc a) ≡ nat_lt (p + 1) a
shifted p a = grind (arith, nat_tests)

under : (t : Train) (b : Bool) (xs ys : List Train) → cond b (t ∷ xs) (t ∷ ys) ≡ t ∷ cond b xs ys
under t true xs ys = refl
under t false xs ys = refl

-- where one train alone may have been left empty, it is the one that goes
pub dropped : (low : ℕ) (ts : List Train) (n place : ℕ) (change : List ℕ → List ℕ) (d : Train) → Rise low ts → Filled ts → IsAt ts n place
    → cond (nat_lt (place + 1) (length (with_cars n change ts)) && (length (get_or (with_cars n change ts) place d).cars == 0)) (remove (with_cars n change ts) place) (with_cars n change ts) ≡ without_empty (with_cars n change ts)
dropped low [] n place change d rise filled at = let l = at.inside in absurd (omega arith)
dropped low (t ∷ ts) n zero change d rise filled at =
    rw (agree t.number n (at.named t), shorter (length ts), same_emptied ts filled.1) refl
dropped low (t ∷ ts) n (suc place) change d rise filled at =
    let first : (nat_lt 0 (length (with_cars n change ts)) && (length t.cars == 0)) ≡ false = tested _ _ (λ some. filled.0 (omega (arith, some, length_changed n change ts))) in
    rw (later_differs low t ts n place rise at, first, shifted place (length (with_cars n change ts)))
    (under t _ _ _ ∙ ap (λ (xs : List Train). t ∷ xs) (dropped t.number ts n place change d rise.1 filled.1 (earlier t ts n place at)))

-- with a car in the youngest train another one may be opened
pub filled_rotated : (low : ℕ) (ts : List Train) (n : ℕ) → Rise low ts → Filled ts → (0 < length ts → HasCar ts (last_number low ts)) → Filled (ts ++ empty_train n ∷ [])
filled_rotated low [] n rise filled car = ((λ some. absurd (omega (arith, some))), tt)
filled_rotated low (t ∷ []) n rise filled car =
    ((λ _. let has : 0 < length t.cars = rw (agree t.number t.number refl) at (car (omega arith)) in has), filled_rotated t.number [] n tt tt (λ some. absurd (omega (arith, some))))
filled_rotated low (t ∷ u ∷ us) n rise filled car =
    let over = last_over t.number (u ∷ us) rise.1 (omega arith) in
    let ne : (t.number == last_number t.number (u ∷ us)) ≡ false = differ _ _ (λ e. omega (arith, over, e)) in
    ((λ _. filled.0 (omega arith)), filled_rotated t.number (u ∷ us) n rise.1 filled.1 (λ _. rw ne at (car (omega arith))))
