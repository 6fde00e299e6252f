-- What is seen of an object that moved.
use Rattle.std.specs.Prelude.{◌≡◌, ℕ, false, List, map, Option, None, option_map}
use Rattle.pm_types.specs.declared.address.Addr.{Addr}
use Rattle.pm_types.specs.declared.object.Object.{Object}
use Rattle.pm_cars.specs.declared.look.Look.TheVariants as looks
use Rattle.pm_cars.specs.Cars.{look_of}
use Rattle.pm_view.specs.Sources.{same_address}
use Rattle.pm_view.specs.View.{SpaceView}
use Rattle.pm_view.specs.Reading.{slot_at, object_at, resolve, id_at}

-- the bytes of the object at an address
abbrev pub bytes_in : SpaceView → Addr → Option (List ℕ)
bytes_in view a = option_map (λ (o : Object). o.bytes) (object_at view.cars a)

-- the fields of the object at an address, each null or an address
abbrev pub fields_in : SpaceView → Addr → Option (List (Option Addr))
fields_in view a = option_map (λ (o : Object). o.fields) (object_at view.cars a)

-- The object of one place went to another, which held nothing: its old slot tells where it went, and it has its identity,
-- its bytes and its fields, each null as it was or followed to where it leads then. Every other place holds the object
-- that it held, and looks as it did.
pub record HasMoved (view t : SpaceView) (from : Addr) : Type 0 where
  pub to : Addr
  pub told : look_of (slot_at t.cars from) ≡ looks.Moved to
  pub none : slot_at view.cars to ≡ None
  pub id : id_at t to ≡ id_at view from
  pub bytes : bytes_in t to ≡ bytes_in view from
  pub fields : fields_in t to ≡ option_map (map (option_map (resolve t))) (fields_in view from)
  pub objects : (a : Addr) → same_address from a ≡ false → same_address to a ≡ false → object_at t.cars a ≡ object_at view.cars a
  pub looks : (a : Addr) → same_address from a ≡ false → same_address to a ≡ false → look_of (slot_at t.cars a) ≡ look_of (slot_at view.cars a)
