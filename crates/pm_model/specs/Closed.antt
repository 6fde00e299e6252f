-- Worlds and copies in which whatever is named is an object.
use Rattle.std.specs.Prelude.{◌≡◌, ℕ, ◌<◌, ◌≤◌, List, length, Some, IsSome, IfSome}
use Rattle.std.specs.FinMap.{get, len}
use Rattle.pm_types.specs.declared.limits.TheConstants.{FIELDS, OBJECT_BYTES, ROOTS, WATCHES, END_ID}
use Rattle.pm_model.specs.Heap.{Object, Heap, field_of}
use Rattle.pm_model.specs.World.{World, Roots, Copy, held}

-- every object has an identity from 1 on and below the next one, and each field and each root that is not null names an object
pub record IsClosedGraph (heap : Heap) (roots : Roots) (next : ℕ) : Type 0 where
  pub first : 1 ≤ next
  pub last : next ≤ END_ID
  pub given : (id : ℕ) (object : Object) → get heap id ≡ Some object → (1 ≤ id) × (id < next)
  pub fields : (from index to : ℕ) → field_of (get heap from) index ≡ Some (Some to) → IsSome (get heap to)
  pub named : (name : List ℕ) (id : ℕ) → get roots name ≡ Some id → IsSome (get heap id)

-- a copy in which whatever is named is an object
abbrev pub IsClosedCopy : Copy → Type 0
IsClosedCopy copy = IsClosedGraph copy.heap copy.roots copy.next

-- a world in which whatever a root, a register or a field names is an object, in its copies too
pub record IsClosed (world : World) : Type 0 where
  pub graph : IsClosedGraph world.heap world.roots world.next
  pub registers : (client reg id : ℕ) → held world client reg ≡ Some id → IsSome (get world.heap id)
  pub settled : IsClosedCopy world.settled_copy
  pub saving : IfSome world.saving (λ begun. IsClosedCopy begun.1)

-- an object has as many fields and as many bytes as another
abbrev pub IsAlike : Object → Object → Type 0
IsAlike one two = (length two.fields ≡ length one.fields) × (length two.bytes ≡ length one.bytes)

-- the objects, the names and the watches are within the limits
pub record IsWithinLimits (world : World) : Type 0 where
  pub fields : (id : ℕ) (object : Object) → get world.heap id ≡ Some object → length object.fields ≤ FIELDS
  pub bytes : (id : ℕ) (object : Object) → get world.heap id ≡ Some object → length object.bytes ≤ OBJECT_BYTES
  pub names : len world.roots ≤ ROOTS
  pub watches : world.watches ≤ WATCHES
