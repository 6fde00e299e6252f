-- What the sources of cars and roots store, as a list, and remembered sets that are made of it.
use Rattle.std.specs.Prelude.{ℕ, suc, ◌==◌, ◌&&◌, cond, List, [], ◌∷◌, ◌++◌, map, Option, Some, None}
use Rattle.std.specs.List.{flat_map}
use Rattle.std.specs.FinMap.{entries, from_entries}
use Rattle.pm_types.specs.declared.address.Addr.{Addr}
use Rattle.pm_types.specs.declared.object.Slot.{Slot}
use Rattle.pm_types.specs.declared.object.Slot.TheVariants.{Live, Moved}
use Rattle.pm_types.specs.declared.source.RefSource.{RefSource}
use Rattle.pm_types.specs.declared.source.RefSource.TheVariants.{Root, Handle, Field}
use Rattle.pm_cars.specs.Cars.{Car}
use Rattle.pm_roots.specs.Bindings.{Bindings, address_at}
use Rattle.pm_view.specs.Sources.{outside}
use Rattle.pm_view.specs.View.{Cars, Sources}
use Rattle.pm_view.specs.Reading.{object_at, field_of}

-- a source, and the address that it stores
abbrev pub Stored : Type 0
Stored = RefSource × Addr

-- the fields of an object from this index on, where they are not null, each with what it stores
abbrev pub field_sources : Addr → ℕ → List (Option Addr) → List Stored
field_sources a k [] = []
field_sources a k (None ∷ fields) = field_sources a (suc k) fields
field_sources a k (Some to ∷ fields) = (Field a k, to) ∷ field_sources a (suc k) fields

-- those of the object in a slot
abbrev pub slot_sources : ℕ → ℕ × Slot → List Stored
slot_sources n (s, Live object) = field_sources (record { car = n; slot = s }) 0 object.fields
slot_sources n (s, Moved to) = []

-- those of a car
abbrev pub car_sources : ℕ × Car → List Stored
car_sources e = flat_map (slot_sources e.0) (entries e.1.slots)

-- a root, with what it stores
abbrev pub root_source : List ℕ × (ℕ × Addr) → Stored
root_source e = (Root e.1.0, e.1.1)

-- the sources that listed cars and roots are: all that they store
abbrev pub stored_of : List (ℕ × Car) → Bindings → List Stored
stored_of listed roots = flat_map car_sources listed ++ map root_source (entries roots)

-- the sources of a car: those outside it that name a slot of it
abbrev pub pick : ℕ → Stored → List (RefSource × ℕ)
pick car e = cond (outside car e.0 && (e.1.car == car)) ((e.0, e.1.slot) ∷ []) []

-- the set that remembers them
abbrev pub remembering : List Stored → ℕ → Sources
remembering all car = from_entries (flat_map (pick car) all)

-- what cars and roots store, where no register holds anything
abbrev pub stores : Cars → Bindings → RefSource → Option Addr
stores cars roots (Root number) = address_at roots number
stores cars roots (Handle client register) = None
stores cars roots (Field a i) = field_of (object_at cars a) i
