-- Young objects that are joined: one holds the other in a field, in any number of steps.
use Rattle.std.specs.Prelude.{◌≡◌, ◌⊎◌, ℕ, true, List, [], ◌∷◌}
use Rattle.pm_model.specs.Heap.{Heap, Holds}
use Rattle.pm_nursery.specs.Sweeping.{among}

-- one of the two holds the other
abbrev pub Touches : Heap → ℕ → ℕ → Type 0
Touches objects one other = Holds objects one other ⊎ Holds objects other one

-- each identity of the path touches the one before it; the path leads from the first identity to the last
abbrev pub Joins : Heap → ℕ → List ℕ → ℕ → Type 0
Joins objects from [] to = from ≡ to
Joins objects from (next ∷ path) to = Touches objects from next × Joins objects next path to

-- they are joined
abbrev pub IsJoined : Heap → ℕ → ℕ → Type 0
IsJoined objects from to = (path : List ℕ) × Joins objects from path to

-- these are the identities that are joined to this one, itself among them
pub record AreJoined (objects : Heap) (id : ℕ) (ids : List ℕ) : Type 0 where
  pub each : (other : ℕ) → among ids other ≡ true → IsJoined objects id other
  pub all : (other : ℕ) → IsJoined objects id other → among ids other ≡ true
