-- The numbers of trains: the train at a place, the youngest, and what a change leaves of the order.
use Rattle.std.proofs.Common.{◌≡◌, ℕ, ◌+◌, ◌<◌, ◌≤◌, ◌==◌, ◌&&◌, Bool, true, false, cond, List, [], ◌∷◌, ◌++◌, length, get_or, set, nat_lt, zero, suc, Some, refl, sym, ap, ◌∙◌, arith}
use Rattle.pm_trains.specs.Trains.{Train, cars_at, empty_train, last_number, with_cars, without_empty}
use Rattle.pm_trains.specs.Sound.{Rise}
use Rattle.pm_trains.specs.Places.{IsAt}
use Rattle.pm_trains.proofs.Order.{agree, differ, rise_over}

-- what holds of each of two lists holds of the one that is chosen
pub either : (P : List Train → Type 0) (b : Bool) (xs ys : List Train) → (b ≡ true → P xs) → (b ≡ false → P ys) → P (cond b xs ys)
either P true xs ys p q = p refl
either P false xs ys p q = q refl

-- the place of a train in the list without the first
pub earlier : (t : Train) (ts : List Train) (n place : ℕ) → IsAt (t ∷ ts) n (suc place) → IsAt ts n place
earlier t ts n place at = record { inside = let l = at.inside in omega arith; named = at.named }

-- a later train has another number than the first
pub later_differs : (low : ℕ) (t : Train) (ts : List Train) (n place : ℕ) → Rise low (t ∷ ts) → IsAt (t ∷ ts) n (suc place) → (t.number == n) ≡ false
later_differs low t ts n place rise at = differ t.number n (λ e. let over = rise_over t.number ts place t rise.1 (earlier t ts n place at).inside in omega (arith, at.named t, over, e))

-- the cars of the train at a place
pub cars_there : (low : ℕ) (ts : List Train) (n place : ℕ) (d : Train) → Rise low ts → IsAt ts n place → cars_at ts n ≡ Some (get_or ts place d).cars
cars_there low [] n place d rise at = let l = at.inside in absurd (omega arith)
cars_there low (t ∷ ts) n zero d rise at = rw (agree t.number n (at.named t)) refl
cars_there low (t ∷ ts) n (suc place) d rise at = rw (later_differs low t ts n place rise at) (cars_there t.number ts n place d rise.1 (earlier t ts n place at))

-- the same of a train that was read there
pub cars_read : (low : ℕ) (ts : List Train) (n place : ℕ) (read : Train) → Rise low ts → IsAt ts n place → read ≡ get_or ts place read → cars_at ts n ≡ Some read.cars
cars_read low ts n place read rise at is = cars_there low ts n place read rise at ∙ ap (λ (t : Train). Some t.cars) (sym is)

-- a train that is written where it was read, with other cars
pub written : (low : ℕ) (ts : List Train) (n place : ℕ) (change : List ℕ → List ℕ) (old new : Train) → Rise low ts → IsAt ts n place → old ≡ get_or ts place old → new ≡ record old { cars = change old.cars }
    → set ts place new ≡ with_cars n change ts
written low [] n place change old new rise at is e = let l = at.inside in absurd (omega arith)
written low (t ∷ ts) n zero change old new rise at is e =
    rw (agree t.number n (at.named t)) (ap (λ (x : Train). x ∷ ts) (e ∙ ap (λ (x : Train). record x { cars = change x.cars }) is))
written low (t ∷ ts) n (suc place) change old new rise at is e =
    rw (later_differs low t ts n place rise at) (ap (λ (xs : List Train). t ∷ xs) (written t.number ts n place change old new rise.1 (earlier t ts n place at) is e))

-- the last train's number
pub last_at : (low : ℕ) (ts : List Train) (i : ℕ) (d : Train) → i + 1 ≡ length ts → (get_or ts i d).number ≡ last_number low ts
last_at low [] i d e = absurd (omega arith)
last_at low (t ∷ []) zero d e = refl
last_at low (t ∷ u ∷ us) zero d e = absurd (omega arith)
last_at low (t ∷ ts) (suc i) d e = last_at t.number ts i d (omega arith)

-- the last number is over the bound
pub last_over : (low : ℕ) (ts : List Train) → Rise low ts → 0 < length ts → low < last_number low ts
last_over low [] rise some = absurd (omega arith)
last_over low (t ∷ []) rise some = rise.0
last_over low (t ∷ u ∷ us) rise some = let over = last_over t.number (u ∷ us) rise.1 (omega arith) in omega (arith, rise.0, over)

-- other cars leave the numbers as they are
pub rise_changed : (low : ℕ) (n : ℕ) (change : List ℕ → List ℕ) (ts : List Train) → Rise low ts → Rise low (with_cars n change ts)
rise_changed low n change [] rise = tt
rise_changed low n change (t ∷ ts) rise = either (Rise low) (t.number == n) _ _ (λ _. (rise.0, rise.1)) (λ _. (rise.0, rise_changed t.number n change ts rise.1))

-- as many trains
pub length_changed : (n : ℕ) (change : List ℕ → List ℕ) (ts : List Train) → length (with_cars n change ts) ≡ length ts
length_changed n change [] = refl
length_changed n change (t ∷ ts) = either (λ xs. length xs ≡ suc (length ts)) (t.number == n) _ _ (λ _. refl) (λ _. ap suc (length_changed n change ts))

-- numbers over a bound are over a lower one
rise_lower : (low high : ℕ) (ts : List Train) → low ≤ high → Rise high ts → Rise low ts
rise_lower low high [] le rise = tt
rise_lower low high (t ∷ ts) le rise = (omega (arith, rise.0), rise.1)

-- trains that go leave a list that rises
pub rise_emptied : (low : ℕ) (ts : List Train) → Rise low ts → Rise low (without_empty ts)
rise_emptied low [] rise = tt
rise_emptied low (t ∷ ts) rise =
    either (Rise low) (nat_lt 0 (length ts) && (length t.cars == 0)) _ _ (λ _. rise_lower low t.number (without_empty ts) (omega (arith, rise.0)) (rise_emptied t.number ts rise.1)) (λ _. (rise.0, rise_emptied t.number ts rise.1))

-- a train with a higher number at the end
pub rise_pushed : (low : ℕ) (ts : List Train) (n : ℕ) → Rise low ts → last_number low ts < n → Rise low (ts ++ empty_train n ∷ [])
rise_pushed low [] n rise over = (over, tt)
rise_pushed low (t ∷ ts) n rise over = (rise.0, rise_pushed t.number ts n rise.1 over)
