-- Sets of numbers that were met, and numbers that are apart and were not met.
use Rattle.std.proofs.Common.{◌≡◌, ℕ, ◌+◌, ◌≤◌, Bool, true, false, ◌==◌, ◌||◌, List, [], ◌∷◌, ◌++◌, refl, sym, ap, subst, ◌∙◌, arith, if◌then◌else◌}
use Rattle.std.specs.Ordering.{nat_cmp}
use Rattle.std.specs.Cmp.{nat_cmp_total, unsigned_tied}
use Rattle.std.specs.FinSet as set
use Rattle.std.proofs.lemmas.Bool.{eqb-true}
use Rattle.std.proofs.lemmas.Bool.Decides.{nat_tests}
use Rattle.pm_image.specs.CarPages.{Numbers}
use Rattle.pm_copies.specs.Apart.{times, AreApart}

-- how often a number is in a set
abbrev pub once : Bool → ℕ
once b = if b then 1 else 0

abbrev pub held : Numbers → ℕ → ℕ
held met number = once (set.contains met number)

-- numbers that are apart, and none of which was met
abbrev pub AreNew : Numbers → List ℕ → Type 0
AreNew met numbers = (number : ℕ) → held met number + times number numbers ≤ 1

pub times_append : (number : ℕ) (xs ys : List ℕ) → times number (xs ++ ys) ≡ times number xs + times number ys
times_append number [] ys = omega arith
times_append number (x ∷ xs) ys = let rest = times_append number xs ys in omega arith

self : (x : ℕ) → (x == x) ≡ true
self x = grind (arith, nat_tests)

-- what a set holds with a number more
held_more : (met : Numbers) (x number : ℕ) → set.contains met x ≡ false → held (set.insert met x) number ≡ once (x == number) + held met number
held_more met x number other = by (x == number) refl (ap once (set.contains-insert nat_cmp_total met x number ∙ ap (λ (b : Bool). b || set.contains met number) (unsigned_tied number x ∙ turned)))
  where
    turned : (number == x) ≡ (x == number)
    turned = grind (arith, nat_tests)

    by : (b : Bool) → (x == number) ≡ b → held (set.insert met x) number ≡ once ((x == number) || set.contains met number) → held (set.insert met x) number ≡ once (x == number) + held met number
    by true here is =
        let same : x ≡ number = eqb-true x number here in
        let none : held met number ≡ 0 = ap once (ap (set.contains met) (sym same) ∙ other) in
        let one : once (x == number) ≡ 1 = ap once here in
        let now : held (set.insert met x) number ≡ 1 = is ∙ ap (λ (b : Bool). once (b || set.contains met number)) here in
        omega arith
    by false here is =
        let none : once (x == number) ≡ 0 = ap once here in
        let now : held (set.insert met x) number ≡ held met number = is ∙ ap (λ (b : Bool). once (b || set.contains met number)) here in
        omega arith

-- one number more
pub new_more : (met : Numbers) (x : ℕ) (xs : List ℕ) → set.contains met x ≡ false → AreNew (set.insert met x) xs → AreNew met (x ∷ xs)
new_more met x xs other new number =
    let rest = new number in
    let more = held_more met x number other in
    omega arith

was_other : (b : Bool) (n : ℕ) → once b + (1 + n) ≤ 1 → b ≡ false
was_other true n le = absurd (omega arith)
was_other false n le = refl

pub new_first : (met : Numbers) (x : ℕ) (xs : List ℕ) → AreNew met (x ∷ xs) → set.contains met x ≡ false
new_first met x xs new =
    let here : held met x + (1 + times x xs) ≤ 1 = subst (λ (b : Bool). held met x + (once b + times x xs) ≤ 1) (self x) (new x) in
    was_other (set.contains met x) (times x xs) here

pub new_others : (met : Numbers) (x : ℕ) (xs : List ℕ) → AreNew met (x ∷ xs) → AreNew (set.insert met x) xs
new_others met x xs new number =
    let all = new number in
    let more = held_more met x number (new_first met x xs new) in
    omega arith

nothing_held : (number : ℕ) → held set.empty number ≡ 0
nothing_held number = ap once (set.contains-empty nat_cmp number)

-- where nothing was met, numbers are new where they are apart
pub apart_new : (xs : List ℕ) → AreApart xs → AreNew set.empty xs
apart_new xs apart number = let none = nothing_held number in let le = apart number in omega arith

pub new_apart : (xs : List ℕ) → AreNew set.empty xs → AreApart xs
new_apart xs new number = let none = nothing_held number in let le = new number in omega arith

pub nothing_new : (met : Numbers) → AreNew met []
nothing_new met number = by (set.contains met number)
  where
    by : (b : Bool) → once b + 0 ≤ 1
    by true = omega arith
    by false = omega arith
