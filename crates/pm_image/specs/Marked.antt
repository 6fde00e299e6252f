-- Numbers that are marked in a list of places, each at the place of its number. No public clause cites this module.
use Rattle.std.specs.Prelude.{◌≡◌, ℕ, ◌+◌, get_or, cond, Bool, false, List, [], ◌∷◌}
use Rattle.std.specs.Ordering.{nat_cmp}
use Rattle.std.specs.FinSet.{FinSet, from_list, insert}
use Rattle.std.specs.HashSet.{HashSet}

-- whether the number is marked
abbrev pub is_marked : List Bool → ℕ → Bool
is_marked marks n = get_or marks n false

-- every number is marked as it was
abbrev pub MarksNothing : List Bool → List Bool → Type 0
MarksNothing old new = (n : ℕ) → is_marked new n ≡ is_marked old n

-- the set with the numbers that are marked, the first one of which is this number
abbrev pub with_marked : List Bool → ℕ → FinSet nat_cmp → FinSet nat_cmp
with_marked [] n far = far
with_marked (b ∷ bs) n far = cond b (insert (with_marked bs (n + 1) far) n) (with_marked bs (n + 1) far)

-- what a hash set is seen as
abbrev pub seen_far : {S : Type 0} → HashSet ℕ S → FinSet nat_cmp
seen_far far = from_list far.keys
