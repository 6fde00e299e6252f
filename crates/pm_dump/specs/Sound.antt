-- What a dump keeps, and which copies have a dump that keeps it.
use Rattle.std.specs.Prelude.{◌≡◌, ℕ, ◌<◌, ◌≤◌, T, List, length, Option, Some, IsSome, IfSome}
use Rattle.std.specs.List.{AllByRecursion}
use Rattle.std.specs.Ordering.{nat_cmp}
use Rattle.std.specs.FinMap.{get, len, find, is_sorted}
use Rattle.hex.specs.Hex.{IsBytes}
use Rattle.pm_types.specs.declared.limits.TheConstants.{FIELDS, OBJECT_BYTES, ROOTS, END_ID}
use Rattle.pm_types.specs.Names.{IsName}
use Rattle.pm_types.specs.Orders.{name_cmp}
use Rattle.pm_model.specs.Heap.{Object}
use Rattle.pm_model.specs.World.{Copy}
use Rattle.pm_model.specs.Closed.{IsClosedCopy}
use Rattle.pm_model.specs.Copying.{held_ids}
use Rattle.pm_dump.specs.Dump.{Dump}

-- the number is an identity below the next one
abbrev pub IsIdBelow : ℕ → ℕ → Type 0
IsIdBelow next id = (1 ≤ id) × (id < next)

-- an object within the limits: its identity and those that its fields hold are below the next one
pub record IsSoundObject (next id : ℕ) (object : Object) : Type 0 where
  pub is_id : IsIdBelow next id
  pub few : length object.fields ≤ FIELDS
  pub held : AllByRecursion (λ (field : Option ℕ). IfSome field (IsIdBelow next)) object.fields
  pub short : length object.bytes ≤ OBJECT_BYTES

-- an object of this identity is listed
abbrev pub IsListed : List (ℕ × Object) → ℕ → Type 0
IsListed objects id = IsSome (find nat_cmp id objects)

-- What a dump keeps: identities are below the next one and ascend, names ascend, all are within their limits, and each
-- field that is not null and each name stands for a listed object.
pub record IsSoundDump (dump : Dump) : Type 0 where
  pub first : 1 ≤ dump.next
  pub last : dump.next ≤ END_ID
  pub objects : AllByRecursion (λ (e : ℕ × Object). IsSoundObject dump.next e.0 e.1) dump.objects
  pub ascend : T (is_sorted nat_cmp dump.objects)
  pub few : length dump.roots ≤ ROOTS
  pub named : AllByRecursion (λ (e : List ℕ × ℕ). IsName e.0 × IsIdBelow dump.next e.1) dump.roots
  pub names : T (is_sorted name_cmp dump.roots)
  pub fields : AllByRecursion (λ (e : ℕ × Object). AllByRecursion (IsListed dump.objects) (held_ids e.1)) dump.objects
  pub roots : AllByRecursion (λ (e : List ℕ × ℕ). IsListed dump.objects e.1) dump.roots

-- the bytes of each object are numbers of a byte
abbrev pub HaveBytes : Dump → Type 0
HaveBytes dump = AllByRecursion (λ (e : ℕ × Object). IsBytes e.1.bytes) dump.objects

-- a copy within the limits, in which whatever is named is an object
pub record IsCopyInRange (copy : Copy) : Type 0 where
  pub closed : IsClosedCopy copy
  pub few : (id : ℕ) (object : Object) → get copy.heap id ≡ Some object → length object.fields ≤ FIELDS
  pub short : (id : ℕ) (object : Object) → get copy.heap id ≡ Some object → length object.bytes ≤ OBJECT_BYTES
  pub bytes : (id : ℕ) (object : Object) → get copy.heap id ≡ Some object → IsBytes object.bytes
  pub named : (name : List ℕ) (id : ℕ) → get copy.roots name ≡ Some id → IsName name
  pub names : len copy.roots ≤ ROOTS
