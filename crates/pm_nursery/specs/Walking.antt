-- Young objects that are met on the way from some of them.
use Rattle.std.specs.Prelude.{◌≡◌, ◌⊎◌, ℕ, ◌+◌, Bool, true, false, cond, if◌then◌else◌, List, [], ◌∷◌, length, Option, Some, None}
use Rattle.std.specs.Prelude.{IsSome, Contains}
use Rattle.std.specs.List.{flat_map}
use Rattle.std.specs.List.Sorted.{IsStrictlySortedBy}
use Rattle.std.specs.Ordering.{nat_cmp}
use Rattle.std.specs.Map.{keys_of}
use Rattle.std.specs.FinMap.{get, from_entries}
use Rattle.std.specs.BTreeMap.{is_at}
use Rattle.std.specs.BTreeSet.{BTreeSet, contains}
use Rattle.pm_types.specs.Orders.{place_cmp}
use Rattle.pm_model.specs.Heap.{Heap, Object, Holds}
use Rattle.pm_nursery.specs.Sweeping.{among}

-- the objects without those of these identities
abbrev pub AreGone : Heap → List ℕ → Heap → Type 0
AreGone objects ids after = (id : ℕ) → get after id ≡ (if among ids id then None else get objects id)

-- no object holds one
abbrev pub HoldsNothing : Heap → Type 0
HoldsNothing objects = (from to : ℕ) → Holds objects from to → ⊥

-- Objects behind their identities, which ascend; and whether one of them may hold another, or does not.
pub record AreListed (young : List (ℕ × Object)) (may_hold : Bool) : Type 0 where
  pub rise : IsStrictlySortedBy nat_cmp (keys_of young)
  pub alone : may_hold ≡ false → HoldsNothing (from_entries young)

-- what a field holds, beside who holds it
abbrev pub pair_of : ℕ → Option ℕ → List (ℕ × ℕ)
pair_of id None = []
pair_of id (Some to) = (to, id) ∷ []

abbrev pub held_by : ℕ → List (Option ℕ) → List (ℕ × ℕ)
held_by id fields = flat_map (pair_of id) fields

-- the pairs are of an identity that a field holds and of who holds it
pub record AreHeldBy (objects : Heap) (pairs : BTreeSet (ℕ × ℕ)) : Type 0 where
  pub each : (from to : ℕ) → contains place_cmp pairs (to, from) ≡ true → Holds objects from to
  pub all : (from to : ℕ) → Holds objects from to → contains place_cmp pairs (to, from) ≡ true

-- from an object the way goes to one that it holds, or that stands beside it in the pairs
abbrev pub Steps : Heap → BTreeSet (ℕ × ℕ) → ℕ → ℕ → Type 0
Steps objects pairs from to = Holds objects from to ⊎ (contains place_cmp pairs (from, to) ≡ true)

-- each identity of the path is a step from the one before it; the path leads from the first identity to the last
abbrev pub Goes : Heap → BTreeSet (ℕ × ℕ) → ℕ → List ℕ → ℕ → Type 0
Goes objects pairs from [] to = from ≡ to
Goes objects pairs from (next ∷ path) to = Steps objects pairs from next × Goes objects pairs next path to

-- a path leads to the identity from one of those at the start
abbrev pub Arrives : Heap → BTreeSet (ℕ × ℕ) → List ℕ → ℕ → Type 0
Arrives objects pairs starts id = (from : ℕ) × (path : List ℕ) × Contains starts from × Goes objects pairs from path id

-- these are the objects that are met on the way from the start: they are arrived at, and have those of the start and,
-- with one object, each that is a step away
pub record AreMet (objects : Heap) (pairs : BTreeSet (ℕ × ℕ)) (starts ids : List ℕ) : Type 0 where
  pub each : (id : ℕ) → among ids id ≡ true → Arrives objects pairs starts id
  pub begun : (id : ℕ) → Contains starts id → IsSome (get objects id) → among ids id ≡ true
  pub next : (from to : ℕ) → among ids from ≡ true → Steps objects pairs from to
      → IsSome (get objects to) → among ids to ≡ true

-- behind the identities of the list come the holders that stand beside this one
pub record PushesHolders (pairs : BTreeSet (ℕ × ℕ)) (id : ℕ) (before after : List ℕ) : Type 0 where
  pub each : (other : ℕ) → Contains after other → Contains before other ⊎ (contains place_cmp pairs (id, other) ≡ true)
  pub kept : (other : ℕ) → Contains before other → Contains after other
  pub all : (other : ℕ) → contains place_cmp pairs (id, other) ≡ true → Contains after other

-- An identity is looked at: one that has no object, or was met, is passed; else it is met, and what is a step away is
-- pending.
pub data Meets (objects : Heap) (pairs : BTreeSet (ℕ × ℕ)) (id : ℕ) (met : BTreeSet ℕ) (pending : List ℕ)
    (after : BTreeSet ℕ) (later : List ℕ) : Type 0 where
  passed : (get objects id ≡ None) ⊎ (contains nat_cmp met id ≡ true) → after.keys ≡ met.keys → later ≡ pending
      → Meets objects pairs id met pending after later
  went : IsSome (get objects id)
      → ((q : ℕ) → contains nat_cmp after q ≡ cond (is_at (nat_cmp id) q) true (contains nat_cmp met q))
      → length after.keys ≡ length met.keys + 1 → IsStrictlySortedBy nat_cmp after.keys
      → ((other : ℕ) → Contains later other → Contains pending other ⊎ Steps objects pairs id other)
      → ((other : ℕ) → Contains pending other ⊎ Steps objects pairs id other → Contains later other)
      → Meets objects pairs id met pending after later
