-- Objects and heaps. Identities are numbers; nothing here knows where an object lies.
use Rattle.std.specs.Prelude.{ℕ, ◌+◌, List, ◌++◌, length, take, drop, slice_get, slice_set, Option, Some, None, Contains, IsSomeAnd, refl}
use Rattle.std.specs.Ordering.{nat_cmp}
use Rattle.std.specs.FinMap.{FinMap, get}
use Rattle.std.specs.Coded.{Coded, code_by, coded×, coded_ℕ, coded_list, coded_option}

-- an object: its fields, each null or an identity, and its bytes
pub record Object : Type 0 where
  pub fields : List (Option ℕ)
  pub bytes : List ℕ

-- an object is stored as the pair of its parts
abbrev pub object_code : Coded Object
object_code =
    code_by (List (Option ℕ) × List ℕ) (coded× (coded_list (coded_option coded_ℕ)) (coded_list coded_ℕ)) (λ o. (o.fields, o.bytes)) (λ p. record { fields = p.0; bytes = p.1 }) (λ _. refl)

-- a heap: an object for each of some identities
abbrev pub Heap : Type 0
Heap = FinMap nat_cmp Object

-- in this heap the first identity's object holds the second identity in a field
abbrev pub Holds : Heap → ℕ → ℕ → Type 0
Holds heap from to = IsSomeAnd (get heap from) (λ object. Contains object.fields (Some to))

-- what a field of an object holds, null or an identity; where there is no object, or no such field, it is nothing
abbrev pub field_of : Option Object → ℕ → Option (Option ℕ)
field_of None index = None
field_of (Some object) index = slice_get object.fields index

-- the object with this in the field, and all else as it was
abbrev pub with_field : Object → ℕ → Option ℕ → Object
with_field object index value = record object { fields = slice_set object.fields index value }

-- the object with these bytes from this place on, and all else as it was
abbrev pub with_bytes : Object → ℕ → List ℕ → Object
with_bytes object at from = record object { bytes = take at object.bytes ++ (from ++ drop (at + length from) object.bytes) }
