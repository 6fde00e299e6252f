-- What a checkpoint keeps of a world: the names, and the objects that they reach.
use Rattle.std.specs.Prelude.{◌≡◌, ℕ, zero, suc, List, [], ◌∷◌, ◌++◌, Option, Some, None}
use Rattle.std.specs.List.{flat_map}
use Rattle.std.specs.FinMap.{get, insert, remove, empty, len, values}
use Rattle.pm_model.specs.Heap.{Object, Heap}
use Rattle.pm_model.specs.World.{Roots, Copy, World}

-- the identity that a field holds, if it is not null
abbrev pub field_id : Option ℕ → List ℕ
field_id None = []
field_id (Some id) = id ∷ []

-- the identities that an object holds in its fields
abbrev pub held_ids : Object → List ℕ
held_ids object = flat_map field_id object.fields

-- one heap where there is no object, and else another that is made with it
abbrev pub with_object_or : Option Object → Heap → (Object → Heap) → Heap
with_object_or None without make = without
with_object_or (Some object) without make = make object

-- The objects of a heap that are reached from a list of identities: the object of the first is kept and taken
-- out of the heap, and what it holds is looked at before the rest. An identity whose object was taken out, or
-- never was there, is passed over. So at most n objects are kept, and of a heap of n none is missed.
unfoldable pub reached : ℕ → Heap → List ℕ → Heap
reached zero heap ids = empty
reached (suc n) heap [] = empty
reached (suc n) heap (id ∷ ids) =
    with_object_or (get heap id) (reached (suc n) heap ids) (λ object. insert (reached n (remove heap id) (held_ids object ++ ids)) id object)

-- what a checkpoint keeps of a heap with these roots: the objects that the roots reach, the roots, and the next identity
abbrev pub copied : Heap → Roots → ℕ → Copy
copied heap roots next = record { heap = reached (len heap) heap (values roots); roots = roots; next = next }

-- the copy of a world
abbrev pub copy : World → Copy
copy world = copied world.heap world.roots world.next

-- a root stands for this identity
abbrev pub IsRoot : Roots → ℕ → Type 0
IsRoot roots id = (name : List ℕ) × (get roots name ≡ Some id)
