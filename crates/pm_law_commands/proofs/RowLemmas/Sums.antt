-- Sums over lists where one number grows.
use Rattle.std.proofs.Common.{◌≡◌, ℕ, ◌+◌, ◌<◌, ◌≤◌, ◌==◌, ◌||◌, Bool, true, false, refl, sym, subst, List, [], ◌∷◌, length, arith}
use Rattle.std.specs.List.{sum_by}
use Rattle.std.proofs.lemmas.Bool.{eqb-true, true≢false}
use Rattle.std.proofs.lemmas.List.Sums.{sum_by-cons}
use Rattle.pm_trains.specs.Trains.{is_among}

-- where each number is at least as great, the sum is
pub no_less : (f g : ℕ → ℕ) (xs : List ℕ) → ((x : ℕ) → f x ≤ g x) → sum_by f xs ≤ sum_by g xs
no_less f g [] le = omega arith
no_less f g (x ∷ xs) le =
    let one = sum_by-cons f x xs in
    let two = sum_by-cons g x xs in
    let here = le x in
    let rest = no_less f g xs le in
    omega arith

-- and where one of them is greater, so is the sum
pub grown : (f g : ℕ → ℕ) (c : ℕ) (xs : List ℕ) → ((x : ℕ) → f x ≤ g x) → f c + 1 ≤ g c → is_among c xs ≡ true → sum_by f xs + 1 ≤ sum_by g xs
grown f g c [] le more among = absurd (true≢false (sym among))
grown f g c (x ∷ xs) le more among = by_case (x == c) refl among (grown f g c xs le more)
  where
    by_case : (b : Bool) → (x == c) ≡ b → (b || is_among c xs) ≡ true → (is_among c xs ≡ true → sum_by f xs + 1 ≤ sum_by g xs) → sum_by f (x ∷ xs) + 1 ≤ sum_by g (x ∷ xs)
    by_case true same among later =
        let one = sum_by-cons f x xs in
        let two = sum_by-cons g x xs in
        let here : f x + 1 ≤ g x = subst (λ c. f c + 1 ≤ g c) (sym (eqb-true x c same)) more in
        let rest = no_less f g xs le in
        omega arith
    by_case false same among later =
        let one = sum_by-cons f x xs in
        let two = sum_by-cons g x xs in
        let here = le x in
        let rest = later among in
        omega arith

-- a list whose sum is over nothing has an item
pub some_item : (f : ℕ → ℕ) (xs : List ℕ) → 0 < sum_by f xs → 0 < length xs
some_item f [] over = absurd (omega (arith, over))
some_item f (x ∷ xs) over = omega arith
