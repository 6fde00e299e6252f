-- Values in a list of places, each at the number of its place. No public clause cites this module.
use Rattle.std.specs.Prelude.{◌≡◌, ℕ, ◌+◌, get_or, List, [], ◌∷◌, Option, Some, None}
use Rattle.std.specs.Ordering.{nat_cmp}
use Rattle.std.specs.FinMap.{FinMap, from_entries, insert}
use Rattle.std.specs.HashMap.{HashMap}

module _ {T : Type 0} where
  -- the value at the place of this number
  abbrev pub near_at : List (Option T) → ℕ → Option T
  near_at xs n = get_or xs n None

  -- every number has the value that it had
  abbrev pub AddsNothing : List (Option T) → List (Option T) → Type 0
  AddsNothing old new = (n : ℕ) → near_at new n ≡ near_at old n

  -- the map where this number has a value, or as it is
  abbrev pub with_near : FinMap nat_cmp T → ℕ → Option T → FinMap nat_cmp T
  with_near far n None = far
  with_near far n (Some value) = insert far n value

  -- the map where the values of the list stand in place of its own, the first one at this number
  abbrev pub filled : List (Option T) → ℕ → FinMap nat_cmp T → FinMap nat_cmp T
  filled [] n far = far
  filled (x ∷ xs) n far = with_near (filled xs (n + 1) far) n x

-- what a hash map is seen as
abbrev pub seen_far : {T S : Type 0} → HashMap ℕ T S → FinMap nat_cmp T
seen_far far = from_entries far.entries
