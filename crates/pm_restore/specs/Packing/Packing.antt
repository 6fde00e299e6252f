-- A packing of a dump: its objects in cars, one after the other, each car filled before the next is begun. Car c, counted
-- from 1, has object i of its part in slot i, in train 1.
use Rattle.std.specs.Prelude.{ℕ, suc, ◌+◌, ◌-◌, ◌*◌, nat_lt, ◌==◌, List, [], ◌∷◌, map, length, option_map, if◌then◌else◌}
use Rattle.pm_types.specs.declared.limits.TheConstants.{CAR_HEAD_BYTES, OBJECT_HEAD_BYTES, FIELD_BYTES}
use Rattle.pm_types.specs.declared.address.Addr.{Addr}
use Rattle.pm_types.specs.declared.object.Slot.{Slot}
use Rattle.pm_types.specs.declared.object.Slot.TheVariants.{Live}
use Rattle.pm_model.specs.Heap.{Object}
use Rattle.pm_image.specs.declared.car.CarImage.{CarImage}
use Rattle.pm_image.specs.declared.catalog.CatEntry.{CatEntry}
use Rattle.pm_copies.specs.Listed.{Listed}
use Rattle.pm_copies.specs.Filling.{filled_parts}
use Rattle.pm_copies.specs.Plans.{root_entry}
use Rattle.pm_dump.specs.Dump.{Dump}

-- an object with its identity, as a dump lists it
abbrev pub DumpEntry : Type 0
DumpEntry = ℕ × Object

-- ---- the parts

-- how many bytes an object takes in a car, with the number of its slot
abbrev pub object_room : DumpEntry → ℕ
object_room e = OBJECT_HEAD_BYTES + FIELD_BYTES * length e.1.fields + length e.1.bytes

-- how many bytes a car takes, with its head
abbrev pub car_room : List DumpEntry → ℕ
car_room [] = CAR_HEAD_BYTES
car_room (e ∷ objects) = object_room e + car_room objects

-- the parts of a list of objects that cars hold, each filled before the next is begun; no objects need no car
abbrev pub filled : List DumpEntry → List (List DumpEntry)
filled [] = []
filled (e ∷ objects) = filled_parts object_room CAR_HEAD_BYTES (e ∷ objects)

-- ---- addresses

-- the car and slot of what has this place in parts, one after the other, where the first part is in this car
abbrev pub place_among : {A : Type 0} → ℕ → List (List A) → ℕ → Addr
place_among car [] place = record { car = car; slot = place }
place_among car (part ∷ parts) place = if nat_lt place (length part) then record { car = car; slot = place } else place_among (car + 1) parts (place - length part)

-- the car and slot of the object at a place of a list, counted from 0
abbrev pub place_of : List DumpEntry → ℕ → Addr
place_of objects place = place_among 1 (filled objects) place

-- the place of an identity in a list of objects, behind the last one where it is not there
abbrev pub place_in : List DumpEntry → ℕ → ℕ
place_in [] id = 0
place_in (e ∷ objects) id = if e.0 == id then 0 else suc (place_in objects id)

-- the car and slot of the object of an identity
abbrev pub address_of : List DumpEntry → ℕ → Addr
address_of objects id = place_of objects (place_in objects id)

-- ---- cars and roots

-- an object in its slot, where each identity that it holds has this address
abbrev pub packed_slot : (ℕ → Addr) → DumpEntry → Slot
packed_slot to e = Live (record { id = e.0; fields = map (option_map to) e.1.fields; bytes = e.1.bytes })

-- objects in slots, the first one in this slot
abbrev pub packed_slots : (ℕ → Addr) → ℕ → List DumpEntry → List (ℕ × Slot)
packed_slots to slot [] = []
packed_slots to slot (e ∷ part) = (slot, packed_slot to e) ∷ packed_slots to (slot + 1) part

-- parts in cars, the first one in this car
abbrev pub packed_parts : (ℕ → Addr) → ℕ → List (List DumpEntry) → List CarImage
packed_parts to car [] = []
packed_parts to car (part ∷ parts) = record { number = car; slots = packed_slots to 0 part } ∷ packed_parts to (car + 1) parts

-- the cars of a dump
abbrev pub packed_cars : Dump → List CarImage
packed_cars dump = packed_parts (address_of dump.objects) 1 (filled dump.objects)

-- all of them in train 1
abbrev pub packed_list : Dump → List Listed
packed_list dump = map (λ (car : CarImage). (1, car)) (packed_cars dump)

-- the names of a dump, each with the address of its object
abbrev pub packed_names : Dump → List (List ℕ × Addr)
packed_names dump = map (λ (root : List ℕ × ℕ). (root.0, address_of dump.objects root.1)) dump.roots

-- as a catalog lists them
abbrev pub packed_roots : Dump → List CatEntry
packed_roots dump = map root_entry (packed_names dump)
