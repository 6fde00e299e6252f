-- Trains whose numbers rise, and the search among them.
use Rattle.std.proofs.Common.{◌≡◌, ℕ, ◌<◌, ◌≤◌, ◌==◌, true, false, List, [], ◌∷◌, length, get_or, zero, suc, None, MatchOption, Result, Ok, Err, refl, arith, ⊎_elim}
use Rattle.std.proofs.lemmas.Bool.{cases_order}
use Rattle.std.specs.Ordering.{nat_cmp, ordering_index}
use Rattle.std.specs.List.Sorted.{IsBinarySearchResult, IsSearchInRange}
use Rattle.std.specs.Result.{result_ok}
use Rattle.std.specs.declared.cmp.Ordering.TheVariants.{Less, Equal, Greater}
use Rattle.std.proofs.lemmas.Bool.Decides.{nat_tests}
use Rattle.pm_trains.specs.Trains.{Train, cars_at}
use Rattle.pm_trains.specs.Sound.{Rise}
use Rattle.pm_trains.specs.Places.{IsAt}

-- two numbers that differ are told apart
pub differ : (m n : ℕ) → (m ≡ n → ⊥) → (m == n) ≡ false
differ m n ne = grind (arith, nat_tests)

-- a number is itself
pub agree : (m n : ℕ) → m ≡ n → (m == n) ≡ true
agree m n e = grind (arith, nat_tests)

-- each number is over the bound
pub rise_over : (low : ℕ) (ts : List Train) (i : ℕ) (d : Train) → Rise low ts → i < length ts → low < (get_or ts i d).number
rise_over low [] i d r l = omega arith
rise_over low (t ∷ ts) zero d r l = r.0
rise_over low (t ∷ ts) (suc i) d r l = omega (arith, r.0, rise_over t.number ts i d r.1 (omega arith))

-- no later number is lower
pub rise_far : (low : ℕ) (ts : List Train) (i j : ℕ) (d : Train) → Rise low ts → i ≤ j → j < length ts → (get_or ts i d).number ≤ (get_or ts j d).number
rise_far low [] i j d r le l = omega arith
rise_far low (t ∷ ts) zero zero d r le l = omega arith
rise_far low (t ∷ ts) zero (suc j) d r le l = omega (arith, rise_over t.number ts j d r.1 (omega arith))
rise_far low (t ∷ ts) (suc i) zero d r le l = omega arith
rise_far low (t ∷ ts) (suc i) (suc j) d r le l = rise_far t.number ts i j d r.1 (omega arith) (omega arith)

-- a number at no place has no cars
nowhere : (ts : List Train) (n : ℕ) → ((k : ℕ) (d : Train) → k < length ts → (get_or ts k d).number ≡ n → ⊥) → cars_at ts n ≡ None
nowhere [] n h = refl
nowhere (t ∷ ts) n h = rw (differ t.number n (h 0 t (omega arith))) (nowhere ts n (λ k d l. h (suc k) d (omega arith)))

tied : (m n : ℕ) → nat_cmp m n ≡ Equal → m ≡ n
tied m n e = grind (arith, nat_tests)

apart_less : (m n : ℕ) → nat_cmp m n ≡ Less → m ≡ n → ⊥
apart_less m n e same = grind (arith, nat_tests)

apart_greater : (m n : ℕ) → nat_cmp m n ≡ Greater → m ≡ n → ⊥
apart_greater m n e same = grind (arith, nat_tests)

index_rises : (a b n : ℕ) → a ≤ b → ordering_index (nat_cmp a n) ≤ ordering_index (nat_cmp b n)
index_rises a b n le = grind (arith, nat_tests)

-- what a binary search for a number answers
pub found : (low : ℕ) (ts : List Train) (n : ℕ) (r : Result ℕ ℕ) → Rise low ts → IsSearchInRange r (length ts) → IsBinarySearchResult (λ (t : Train). nat_cmp t.number n) ts r
    → MatchOption (result_ok r) (cars_at ts n ≡ None) (IsAt ts n)
found low ts n (Ok i) rise bound is = record { inside = bound; named = λ d. tied _ _ (is d) }
found low ts n (Err i) rise bound is =
    let parted = is (λ a b d le l. index_rises _ _ n (rise_far low ts a b d rise le l)) in
    nowhere ts n (λ k d l same. ⊎_elim
    (λ e. apart_greater _ _ (parted.1 k d (omega arith) l) same)
    (⊎_elim (λ b. apart_less _ _ (parted.0 k d (omega arith) b) same) (λ a. apart_greater _ _ (parted.1 k d (omega arith) l) same))
    (cases_order k i))
