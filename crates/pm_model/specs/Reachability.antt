-- What can be reached along fields.
use Rattle.std.specs.Prelude.{◌≡◌, ℕ, List, [], ◌∷◌}
use Rattle.pm_model.specs.Heap.{Heap, Holds}

-- each identity of the path is held in a field by the one before it; the path leads from the first identity to the last
abbrev pub Leads : Heap → ℕ → List ℕ → ℕ → Type 0
Leads heap from [] to = from ≡ to
Leads heap from (next ∷ path) to = Holds heap from next × Leads heap next path to

-- the identity can be reached from those that begin: a path leads to it from one of them
abbrev pub IsReachable : Heap → (ℕ → Type 0) → ℕ → Type 0
IsReachable heap Begins id = (from : ℕ) × (path : List ℕ) × Begins from × Leads heap from path id
