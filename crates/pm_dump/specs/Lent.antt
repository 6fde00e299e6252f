-- What a dump lends of its objects.
use Rattle.std.specs.Prelude.{ℕ, zero, suc, List, [], ◌∷◌}
use Rattle.pm_model.specs.Heap.{Object}
use Rattle.pm_dump.specs.declared.parts.Place.{Place}
use Rattle.pm_dump.specs.declared.lent.DumpObject.{DumpObject}

-- where the object at a place begins in the lists of all fields and of all bytes, where the first one begins here
abbrev pub begins_of : ℕ × ℕ → List Place → ℕ → ℕ × ℕ
begins_of first places zero = first
begins_of first [] (suc at) = first
begins_of first (place ∷ places) (suc at) = begins_of (place.fields, place.bytes) places at

-- an object that is lent, with its identity
abbrev pub object_shown : DumpObject → ℕ × Object
object_shown object = (object.id, record { fields = object.fields.now; bytes = object.bytes.now })
