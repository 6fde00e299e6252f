-- Lists in which no number stands twice, and lists in which each member stands in a relation to the next.
use Rattle.std.specs.List.{AllByRecursion}
use Rattle.std.specs.Prelude.{ℕ, ◌+◌, ◌<◌, ◌≤◌, ◌==◌, List, [], ◌∷◌, if◌then◌else◌}

-- how often a number stands in a list
abbrev pub times : ℕ → List ℕ → ℕ
times number [] = 0
times number (first ∷ others) = (if first == number then 1 else 0) + times number others

-- no number stands twice in a list
abbrev pub AreApart : List ℕ → Type 0
AreApart numbers = (number : ℕ) → times number numbers ≤ 1

-- each of a list is a number from the least on and below the bound
abbrev pub AreWithin : ℕ → ℕ → List ℕ → Type 0
AreWithin least bound numbers = AllByRecursion (λ (number : ℕ). (least ≤ number) × (number < bound)) numbers

-- each of a list is a number of its own, from the least on and below the bound
pub record AreOwn (least bound : ℕ) (numbers : List ℕ) : Type 0 where
  pub within : AreWithin least bound numbers
  pub apart : AreApart numbers

-- the first of a list stands so to what is before it, and each other one to the one before it
abbrev pub Follow : {A : Type 0} → (A → A → Type 0) → A → List A → Type 0
Follow R before [] = Unit {0}
Follow R before (first ∷ others) = R before first × Follow R first others

-- each of a list stands so to the one after it
abbrev pub Neighbours : {A : Type 0} → (A → A → Type 0) → List A → Type 0
Neighbours R [] = Unit {0}
Neighbours R (first ∷ others) = Follow R first others
